use Rattle.std.proofs.Common.{sym, ap, refl, ◌∙◌, slice_index}
use Rattle.gba_ppu_mix.specs.Mixing.{layers_dots}
use Rattle.gba_ppu_mix.proofs.Lines.{colour_at}
use Rattle.gba_ppu_mix.proofs.Pixels.{seen, unseen}
use Rattle.gba_ppu_mix.proofs.line.mix_line.Goals as goal

pub returns : goal.returns
returns c = λ x h.
    let r = c.args.r.now in
    let palette = c.args.palette.now in
    let vram = c.args.vram.now in
    let oam = c.args.oam.now in
    let y = c.args.line in
    let lines = c.put_sprites.new.self in
    let b = c.of-blending.result in
    let w = c.of-windows.result in
    let ranks = c.of.result in
    let kept = c.put_sprites.ensures in
    let grounds = c.put_backgrounds.ensures in
    seen r palette vram oam y x (slice_index c.mix.new.colours x) w b ranks (layers_dots r vram oam y x)
    (sym c.is_blank.ensures ∙ c.if-is_blank.false) c.of-windows.ensures c.of-blending.ensures.value c.of.ensures refl
    (c.mix.ensures x h
    ∙ colour_at r palette vram oam y x w b ranks c.of-constants.result lines c.of-blending.ensures.second_targets
    (c.of-constants.ensures ∙ rw c.entry_colour-backdrop.ensures refl)
    record {
      sprite = kept.sprites x h;
      sprite_rank = kept.sprite_ranks x h;
      sprite_marks = kept.sprite_marks x h;
      shows = kept.shows x h;
      background0 = ap (λ l. slice_index l x) kept.background0 ∙ grounds.background0 x h;
      background1 = ap (λ l. slice_index l x) kept.background1 ∙ grounds.background1 x h;
      background2 = ap (λ l. slice_index l x) kept.background2 ∙ grounds.background2 x h;
      background3 = ap (λ l. slice_index l x) kept.background3 ∙ grounds.background3 x h;
    })

pub returns-then-not-has_layers : goal.returns-then-not-has_layers
returns-then-not-has_layers c = λ x h.
    unseen c.args.r.now c.args.palette.now c.args.vram.now c.args.oam.now c.args.line x
    (slice_index c.fill.new.colours x)
    c.of-windows.result c.of-blending.result (sym c.is_blank.ensures ∙ c.if-is_blank.false)
    (sym c.has_layers.ensures ∙ c.if-not-has_layers.true) c.of-windows.ensures c.of-blending.ensures.value
    c.of-blending.ensures.second_targets (c.fill.ensures x h)
