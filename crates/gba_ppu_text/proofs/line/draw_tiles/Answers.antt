use Rattle.std.proofs.Common.{◌+◌, ◌*◌, ◌/◌, ◌∙◌}
use Rattle.gba_ppu_text.specs.Text.{is_wide, map_dot, on_map}
use Rattle.gba_ppu_text.proofs.Tiles.{drawn_here, eight_more}
use Rattle.gba_ppu_text.proofs.line.draw_tiles.Goals as goal

pub loop-tile-preserved : goal.loop-tile-preserved
loop-tile-preserved c =
    let vram = c.args.vram.now in
    let control = c.args.row.now.control.value in
    let base = c.args.row.now.across / 8 in
    let tile = c.loop-tile.tile in
    eight_more (λ k. map_dot vram control
    (on_map (is_wide control) (8 * base + k)) c.args.row.now.down) c.loop-tile.dots
    c.draw_row.new.dots tile c.loop-tile.invariant c.draw_row.ensures.before
    (λ i d h.
    c.draw_row.ensures.drawn i d h
    ∙ drawn_here vram control base tile i c.args.row.now.down c.entry-entry.result c.entry-entry.ensures h)
