use Rattle.std.proofs.Common.{◌≡◌, ℕ, ◌+◌, ◌<◌, slice_index, slice_index_or}
use Rattle.gba_ppu_dot.specs.Dots.{clear_dot}
use Rattle.gba_ppu_dot.specs.Paints.{paint_of}
use Rattle.gba_ppu_dot.proofs.paint.paint_eight.Given as goal

abbrev pub invariant-loop-i : goal.invariant-loop-i
invariant-loop-i l = record {
  before : (k : ℕ) → k < l.at → slice_index l.paints k ≡ slice_index l.fn.paints k;
  here : (j : ℕ) → j < l.i
      → slice_index l.paints (l.at + j) ≡ paint_of l.palette (slice_index_or l.dots (l.at + j) clear_dot);
}
