-- Parts of the line that no side of a window cuts.
use Rattle.std.proofs.Common.{◌≡◌, ℕ, Bool, refl}
use Rattle.gba_ppu_mix.specs.Windows.{is_on_side, shows_at}
use Rattle.gba_ppu_mix.specs.declared.windows.Windows.{Windows}

pub same_shows : (w : Windows) (k x : ℕ) (b : Bool)
    → is_on_side w.first.columns k ≡ is_on_side w.first.columns x
    → is_on_side w.second.columns k ≡ is_on_side w.second.columns x
    → shows_at w x b ≡ shows_at w k b
unfolding shows_at
same_shows w k x b e f = rw (e, f) refl
