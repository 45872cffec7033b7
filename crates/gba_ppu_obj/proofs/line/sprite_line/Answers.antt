use Rattle.std.proofs.Common.{ap, sym, ◌∙◌}
use Rattle.gba_ppu_obj.specs.Attributes.{attributes_of}
use Rattle.gba_ppu_obj.specs.Order.{first_over, over}
use Rattle.gba_ppu_obj.specs.Sprites.{attributes_dot, sprite_dot}
use Rattle.gba_ppu_obj.proofs.Painting.{none_yet, one_more}
use Rattle.gba_ppu_obj.proofs.line.sprite_line.Goals as goal

pub loop-number-init : goal.loop-number-init
loop-number-init c = λ x d h. c.clear_line.ensures x d h
    ∙ sym (none_yet (sprite_dot c.args.r.now c.args.vram.now c.args.oam.now c.args.line x))

pub loop-number-preserved : goal.loop-number-preserved
loop-number-preserved c = λ x d h.
    let number = c.loop-number.number in
    let dot_of = sprite_dot c.args.r.now c.args.vram.now c.args.oam.now c.args.line x in
    c.draw_sprite.ensures x d h
    ∙ ap (λ best. over best
    (attributes_dot c.of-m.result c.args.vram.now c.args.oam.now (attributes_of c.args.oam.now number) c.args.line x))
    (c.loop-number.invariant x d h)
    ∙ ap (λ m. over (first_over dot_of number)
    (attributes_dot m c.args.vram.now c.args.oam.now (attributes_of c.args.oam.now number) c.args.line x))
    c.of-m.ensures
    ∙ sym (one_more dot_of number)
