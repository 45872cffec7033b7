use Rattle.std.proofs.Common.{◌+◌, ◌*◌, ◌/◌, ◌∙◌, ap}
use Rattle.gba_ppu_dot.specs.Paints.{paint_of}
use Rattle.gba_ppu_text.specs.Text.{is_wide, map_dot, on_map}
use Rattle.gba_ppu_dot.proofs.Lists.{eight_paints}
use Rattle.gba_ppu_text.proofs.Tiles.{drawn_here}
use Rattle.gba_ppu_text.proofs.painted.paint_tiles.Goals as goal

pub loop-tile-preserved : goal.loop-tile-preserved
loop-tile-preserved c = λ palette are.
    let vram = c.args.vram.now in
    let control = c.args.row.now.control.value in
    let base = c.args.row.now.across / 8 in
    let tile = c.loop-tile.tile in
    eight_paints (λ k. paint_of palette
    (map_dot vram control (on_map (is_wide control) (8 * base + k)) c.args.row.now.down)) c.loop-tile.paints
    c.paint_row.new.paints tile (c.loop-tile.invariant palette are) c.paint_row.ensures.before
    (λ i h.
    c.paint_row.ensures.drawn palette are i h
    ∙ ap (paint_of palette)
    (drawn_here vram control base tile i c.args.row.now.down c.entry-entry.result c.entry-entry.ensures h))
