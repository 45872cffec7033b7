use Rattle.std.proofs.Common.{◌∙◌, sym, ap}
use Rattle.gba_asm.specs.Answers.{labels_in, onto}
use Rattle.gba_asm.specs.Encoding.{items_bytes}
use Rattle.gba_asm.proofs.CountedItems.{items_bytes-end, items_bytes-word, items_bytes-mark, adds_refused}
use Rattle.gba_asm.proofs.encoding.add_items.Goals as goal

pub loop-token-preserved-in-Ok : goal.loop-token-preserved-in-Ok
loop-token-preserved-in-Ok c =
    c.loop-token.invariant
    ∙ items_bytes-word (labels_in c.args.labels.now.places) c.args.width c.loop-token.left c.next.new.self
    c.in-Word.word.now c.loop-token.image.items c.add_item.new.image.items
    (rw c.in-Word.is at c.in-Some.ensures.token) c.next.ensures.rest c.in-Ok.ensures

pub loop-token-preserved : goal.loop-token-preserved
loop-token-preserved c =
    c.loop-token.invariant
    ∙ items_bytes-mark (labels_in c.args.labels.now.places) c.args.width c.loop-token.left c.next.new.self
    c.in-Mark.field-0 c.loop-token.image.items
    (rw c.in-Mark.is at c.in-Some.ensures.token) c.next.ensures.rest

pub returns-in-Err : goal.returns-in-Err
returns-in-Err c =
    rw (← c.new-left.ensures) (adds_refused c.in-Err.refusal (labels_in c.args.labels.now.places) c.args.width
    c.new-left.result c.loop-token.left c.in-Word.word.now c.args.image.now.items c.loop-token.image.items
    c.add_item.new.image.items c.loop-token.invariant (rw c.in-Word.is at c.in-Some.ensures.token) c.in-Err.ensures)

pub returns : goal.returns
returns c =
    ap (λ ts. onto c.args.image.now.items (items_bytes (labels_in c.args.labels.now.places) c.args.width ts))
    (sym c.new-left.ensures)
    ∙ c.loop-token.invariant
    ∙ items_bytes-end (labels_in c.args.labels.now.places) c.args.width c.loop-token.left c.loop-token.image.items
    c.in_default.ensures.token
