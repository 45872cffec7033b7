use Rattle.std.proofs.Common.{◌≡◌, ℕ, ◌<◌, slice_index}
use Rattle.gba_ppu_dot.specs.Paints.{palette_colour}
use Rattle.gba_ppu_dot.proofs.paint.put_colours.Given as goal

abbrev pub invariant-loop-entry : goal.invariant-loop-entry
invariant-loop-entry l = (k : ℕ) → k < l.entry → slice_index l.paints k ≡ palette_colour l.palette k
