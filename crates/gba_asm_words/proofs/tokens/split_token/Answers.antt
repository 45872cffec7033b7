use Rattle.std.proofs.Common.{◌≡◌, ◌∙◌, [], ◌∷◌, ap, arith}
use Rattle.std.proofs.lemmas.List.{nil_from_length}
use Rattle.gba_asm_words.specs.Tokens.{tokens}
use Rattle.gba_asm_words.proofs.FirstTokens.{tokens_none, tokens-blanks, split_mark, split_word}
use Rattle.gba_asm_words.proofs.tokens.split_token.Goals as goal

pub returns-in_default : goal.returns-in_default
returns-in_default c =
    let none : c.without_blanks-text.result.now ≡ [] = nil_from_length _ (grind arith) in
    tokens-blanks c.args.bytes.now c.without_blanks-text.result.now c.without_blanks-text.ensures ∙ ap tokens none
    ∙ tokens_none

pub returns-then-not-is_word_byte : goal.returns-then-not-is_word_byte
returns-then-not-is_word_byte c =
    let pieces : c.without_blanks-text.result.now ≡ c.in-Some.first.now ∷ c.in-Some.others.now = grind arith in
    split_mark c.args.bytes.now c.without_blanks-text.result.now c.in-Some.first.now c.in-Some.others.now
    c.without_blanks-text.ensures pieces (grind arith)

pub returns : goal.returns
returns c =
    let pieces : c.without_blanks-text.result.now ≡ c.in-Some.first.now ∷ c.in-Some.others.now = grind arith in
    rw (c.split_at.ensures.front, c.split_at.ensures.back, c.word_length.ensures.value)
    (split_word c.args.bytes.now c.without_blanks-text.result.now c.in-Some.first.now c.in-Some.others.now
    c.without_blanks-text.ensures pieces (grind arith))
