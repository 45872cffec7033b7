use Rattle.std.proofs.Common.{◌≡◌, ℕ, ◌<◌, slice_index}
use Rattle.gba_ppu_mix.proofs.line.whiten.Given as goal

abbrev pub invariant-loop-colour : goal.invariant-loop-colour
invariant-loop-colour l = (x : ℕ) → x < l.colour-index → slice_index l.colours x ≡ 0x7fff
