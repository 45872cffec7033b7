use Rattle.gba_asm.proofs.CountedItems.{counts_end, counts_word, counts_mark}
use Rattle.gba_asm.proofs.directives.count_words.Goals as goal

pub loop-token-preserved-in-Word : goal.loop-token-preserved-in-Word
loop-token-preserved-in-Word c =
    counts_word c.loop-token.count c.loop-token.tokens c.next.new.self c.args.tokens.now c.in-Word.field-0.now
    c.loop-token.invariant (rw c.in-Word.is at c.in-Some.ensures.token) c.next.ensures.rest

pub loop-token-preserved : goal.loop-token-preserved
loop-token-preserved c =
    counts_mark c.loop-token.count c.loop-token.tokens c.next.new.self c.args.tokens.now c.in-Mark.field-0
    c.loop-token.invariant (rw c.in-Mark.is at c.in-Some.ensures.token) c.next.ensures.rest

pub returns-clause-value : goal.returns-clause-value
returns-clause-value c =
    counts_end c.loop-token.count c.loop-token.tokens c.args.tokens.now c.loop-token.invariant
    c.in_default.ensures.token
