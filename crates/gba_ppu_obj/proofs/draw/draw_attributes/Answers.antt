use Rattle.std.proofs.Common.{◌≡◌, false, ap, sym, ◌∙◌, slice_index_or}
use Rattle.gba_ppu_obj.specs.Attributes.{is_row_shown, top_of}
use Rattle.gba_ppu_obj.specs.Places.{box_row}
use Rattle.gba_ppu_obj.proofs.Painting.{drawn_at, nothing_over, off_the_line}
use Rattle.gba_ppu_obj.proofs.draw.draw_attributes.Goals as goal

pub returns-then-is_row_shown : goal.returns-then-is_row_shown
returns-then-is_row_shown c = λ x d h.
    let span = c.span_of-span.result in
    let spanned = c.span_of-span.ensures in
    drawn_at c.args.m c.args.vram.now c.args.oam.now c.args.a c.args.line x c.box_row-q.result c.left.result
    c.box_width.result
    span.start span.end span.first (slice_index_or c.args.dots.now x d) (slice_index_or c.draw_box.new.dots x d)
    (c.box_row-q.ensures
    ∙ ap (λ top. box_row top c.args.line) c.top.ensures.value) c.left.ensures.value c.box_width.ensures.value
    (sym c.is_row_shown.ensures ∙ c.if-is_row_shown.true) spanned.within
    (spanned.inside x) (spanned.before x) (spanned.after x h)
    (c.draw_box.ensures.before x d) (c.draw_box.ensures.drawn x d) (c.draw_box.ensures.after x d)

pub returns-else-is_row_shown : goal.returns-else-is_row_shown
returns-else-is_row_shown c = λ x d h.
    let off : is_row_shown c.args.a (box_row (top_of c.args.a) c.args.line) ≡ false =
    ap (is_row_shown c.args.a) (sym (c.box_row-q.ensures ∙ ap (λ top. box_row top c.args.line) c.top.ensures.value))
    ∙ (sym c.is_row_shown.ensures ∙ c.if-is_row_shown.false) in
    nothing_over (slice_index_or c.args.dots.now x d) _
    (off_the_line c.args.m c.args.vram.now c.args.oam.now c.args.a c.args.line x off)
