use Rattle.std.proofs.Common.{◌≡◌, ℕ, ◌+◌, ◌<◌, List, slice_index}
use Rattle.gba_ppu_dot.specs.Paints.{ArePaints}
use Rattle.gba_ppu_text.specs.Paint.{number_paint}
use Rattle.gba_ppu_text.proofs.paint.paint_bytes.Given as goal

abbrev pub invariant-loop-column : goal.invariant-loop-column
invariant-loop-column l = record {
  before : (k : ℕ) → k < l.at → slice_index l.paints k ≡ slice_index l.fn.paints k;
  drawn : (palette : List ℕ) → ArePaints palette l.colours → (i : ℕ) → i < l.column
      → slice_index l.paints (l.at + i) ≡ number_paint palette 0 (slice_index l.fn.numbers i);
}
