use Rattle.gba_ppu_affine.proofs.Rounding.{inside-from, only_inside-from, stands, wrapped-from}
use Rattle.gba_ppu_affine.proofs.laws.places_are_rounded_down.Goals as goal

pub returns : goal.returns
returns c = record {
  inside = λ start parameter x n s k h e. inside-from _ _ n (stands start parameter x s k) h e;
  only_inside = λ start parameter x n s k h e. only_inside-from _ _ n (stands start parameter x s k) h e;
  wrapped = λ start parameter x size s k. wrapped-from _ _ size (stands start parameter x s k);
}
