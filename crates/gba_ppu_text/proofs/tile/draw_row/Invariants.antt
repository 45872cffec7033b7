use Rattle.std.proofs.Common.{◌≡◌, ℕ, ◌+◌, ◌<◌, slice_index_or}
use Rattle.gba_ppu_dot.specs.declared.dot.Dot.{Dot}
use Rattle.gba_ppu_text.specs.Text.{tile_dot}
use Rattle.gba_ppu_text.proofs.tile.draw_row.Given as goal

abbrev pub invariant-loop-column : goal.invariant-loop-column
invariant-loop-column l = record {
  before : (k : ℕ) (d : Dot) → k < l.at → slice_index_or l.dots k d ≡ slice_index_or l.fn.dots k d;
  drawn : (i : ℕ) (d : Dot) → i < l.column
      → slice_index_or l.dots (l.at + i) d ≡ tile_dot l.vram l.fn.control.value l.entry i l.row;
}
