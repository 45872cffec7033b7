use Rattle.std.proofs.Common.{◌≡◌, ℕ, ◌+◌, ◌*◌, ◌/◌, ◌<◌, List, slice_index}
use Rattle.gba_ppu_dot.specs.Paints.{ArePaints, paint_of}
use Rattle.gba_ppu_text.specs.Text.{is_wide, map_dot, on_map}
use Rattle.gba_ppu_text.proofs.painted.paint_tiles.Given as goal

abbrev pub invariant-loop-tile : goal.invariant-loop-tile
invariant-loop-tile l = (palette : List ℕ) → ArePaints palette l.colours → (k : ℕ) → k < 8 * l.tile
    → slice_index l.paints k
    ≡ paint_of palette
    (map_dot l.vram l.row.control.value (on_map (is_wide l.row.control.value) (8 * (l.row.across / 8) + k)) l.row.down)
