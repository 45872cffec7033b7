use Rattle.std.proofs.Common.{◌∙◌, arith}
use Rattle.gba_asm_words.specs.Tokens.{token_value}
use Rattle.gba_asm_words.proofs.ListSteps.{list_from-closed, list_from-short, list_from-more, list_from-refused}
use Rattle.gba_asm_words.proofs.lists.list_from.Goals as goal

pub returns-in_default : goal.returns-in_default
returns-in_default c =
    c.loop-tokens.invariant
    ∙ list_from-short c.loop-tokens.state c.loop-tokens.tokens (grind arith) c.in_default.ensures.token

pub loop-tokens-preserved : goal.loop-tokens-preserved
loop-tokens-preserved c =
    c.loop-tokens.invariant
    ∙ list_from-more c.loop-tokens.state c.in-Ok.next c.loop-tokens.tokens c.next.new.self (token_value c.in-Some.token)
    (grind arith) c.in-Some.ensures.token c.next.ensures.rest c.in-Ok.ensures

pub returns-in-Err : goal.returns-in-Err
returns-in-Err c =
    c.loop-tokens.invariant
    ∙ list_from-refused c.loop-tokens.state c.loop-tokens.tokens (token_value c.in-Some.token) c.in-Err.kind
    (grind arith) c.in-Some.ensures.token c.in-Err.ensures

pub returns : goal.returns
returns c =
    c.loop-tokens.invariant ∙ list_from-closed c.loop-tokens.state c.loop-tokens.tokens (grind arith)
