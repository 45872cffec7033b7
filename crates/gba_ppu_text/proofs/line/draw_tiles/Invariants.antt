use Rattle.std.proofs.Common.{◌≡◌, ℕ, ◌+◌, ◌*◌, ◌/◌, ◌<◌, slice_index_or}
use Rattle.gba_ppu_dot.specs.declared.dot.Dot.{Dot}
use Rattle.gba_ppu_text.specs.Text.{is_wide, map_dot, on_map}
use Rattle.gba_ppu_text.proofs.line.draw_tiles.Given as goal

abbrev pub invariant-loop-tile : goal.invariant-loop-tile
invariant-loop-tile l = (k : ℕ) (d : Dot) → k < 8 * l.tile
    → slice_index_or l.dots k d ≡ map_dot l.vram l.row.control.value
    (on_map (is_wide l.row.control.value) (8 * (l.row.across / 8) + k)) l.row.down
