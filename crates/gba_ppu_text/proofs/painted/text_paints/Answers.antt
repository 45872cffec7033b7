use Rattle.std.proofs.Common.{◌≡◌, ◌+◌, ◌-◌, ◌*◌, ◌/◌, ◌%◌, slice_index, refl, ap, ◌∙◌, arith}
use Rattle.std.proofs.lemmas.Simd.{get_or-chunk}
use Rattle.gba_ppu_dot.specs.Paints.{paint_of}
use Rattle.gba_ppu_text.specs.Text.{is_wide, map_dot, on_map, text_pixel}
use Rattle.gba_ppu_text.proofs.painted.text_paints.Goals as goal

pub returns : goal.returns
unfolding text_pixel
returns c = λ palette are x h.
    let row = c.of-row.result in
    let across = row.across in
    let control = row.control.value in
    let tiles = c.paint_tiles.new.paints in
    let count : across % 8 + 240 - across % 8 ≡ 240 = omega arith in
    let copied = rw count at c.copy_from_slice.ensures.after in
    let place : 8 * (across / 8) + (across % 8 + x) ≡ x + across = omega arith in
    ap (λ l. slice_index l x) copied ∙ get_or-chunk (across % 8) 240 tiles x 0 h
    ∙ c.paint_tiles.ensures palette are (across % 8 + x) (omega arith)
    ∙ ap (λ k. paint_of palette (map_dot c.args.vram.now control (on_map (is_wide control) k) row.down)) place
    ∙ rw (c.of-row.ensures.down, c.of-row.ensures.across, c.of-row.ensures.control) refl
