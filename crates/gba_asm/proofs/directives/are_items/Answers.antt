use Rattle.std.proofs.Common.{◌∙◌, sym}
use Rattle.gba_asm_words.specs.Tokens.{token_value}
use Rattle.gba_asm.proofs.CountedItems.{are_items-end, are_items-more, are_items-refused}
use Rattle.gba_asm.proofs.directives.are_items.Goals as goal

pub loop-token-preserved : goal.loop-token-preserved
loop-token-preserved c =
    c.loop-token.invariant
    ∙ are_items-more c.args.width c.loop-token.due c.in-Some-next_due.next c.loop-token.tokens c.next.new.self
    (token_value c.in-Some.token) c.in-Some.ensures.token c.next.ensures.rest (sym c.in-Some-next_due.ensures)

pub returns-in-None : goal.returns-in-None
returns-in-None c =
    sym (c.loop-token.invariant
    ∙ are_items-refused c.args.width c.loop-token.due c.loop-token.tokens (token_value c.in-Some.token)
    c.in-Some.ensures.token (sym c.in-None.ensures))

pub returns : goal.returns
returns c =
    sym (c.loop-token.invariant
    ∙ are_items-end c.args.width c.loop-token.due c.loop-token.tokens c.in_default.ensures.token)
