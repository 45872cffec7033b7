use Rattle.std.proofs.Common.{◌≡◌, ℕ, ◌*◌, ◌<◌, slice_index, slice_index_or}
use Rattle.gba_ppu_dot.specs.Dots.{clear_dot}
use Rattle.gba_ppu_dot.specs.Paints.{paint_of}
use Rattle.gba_ppu_dot.proofs.paint.paint_line.Given as goal

abbrev pub invariant-loop-part : goal.invariant-loop-part
invariant-loop-part l =
    (k : ℕ) → k < 8 * l.part → slice_index l.paints k ≡ paint_of l.palette (slice_index_or l.dots k clear_dot)
