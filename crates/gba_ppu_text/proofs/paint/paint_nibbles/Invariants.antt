use Rattle.std.proofs.Common.{◌≡◌, ℕ, ◌+◌, ◌*◌, ◌<◌, slice_index}
use Rattle.gba_terms.specs.Bits.{field}
use Rattle.gba_ppu_text.specs.Text.{mirrored}
use Rattle.gba_ppu_text.proofs.paint.paint_nibbles.Given as goal

abbrev pub invariant-loop-column : goal.invariant-loop-column
invariant-loop-column l = record {
  before : (k : ℕ) → k < l.at → slice_index l.paints k ≡ slice_index l.fn.paints k;
  drawn : (i : ℕ) → i < l.column → slice_index l.paints (l.at + i)
      ≡ slice_index l.colours (field l.row (4 * mirrored l.mirror i) 4);
}
