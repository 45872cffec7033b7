use Rattle.std.proofs.Common.{arith}
use Rattle.gba_ppu_obj.specs.Places.{turned_place}
use Rattle.gba_ppu_obj.proofs.Rounding.{inside-from, only_inside-from, stands}
use Rattle.gba_ppu_obj.proofs.laws.places_are_rounded_down.Goals as goal

pub returns : goal.returns
unfolding turned_place
returns c = record {
  inside = λ across down box_wide box_high side p q n w h s k l m e.
      inside-from _ _ _ n (stands across down box_wide box_high p q w h k l) (omega arith) m e;
  only_inside = λ across down box_wide box_high side p q n w h s k l m e.
      only_inside-from _ _ _ n (stands across down box_wide box_high p q w h k l) (omega arith) m e;
}
