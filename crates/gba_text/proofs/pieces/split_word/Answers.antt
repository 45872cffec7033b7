use Rattle.std.proofs.Common.{◌≡◌, ◌<◌, ◌-◌, [], length, drop, take, sym, ap, ◌∙◌, arith}
use Rattle.std.specs.List.{prefix_len}
use Rattle.std.proofs.lemmas.List.{nil_from_length, take_rest}
use Rattle.gba_text.specs.Words.{is_blank}
use Rattle.gba_text.proofs.FirstPieces.{word_first, word_none, no_blank}
use Rattle.gba_text.proofs.pieces.split_word.Goals as goal

pub returns-then-is_empty : goal.returns-then-is_empty
returns-then-is_empty c =
    let line = c.args.line.now in
    let whole = take_rest line c.blank_count.result in
    let none : drop c.blank_count.result line ≡ [] = nil_from_length _ (grind (arith, whole)) in
    word_none line (ap (λ n. drop n line) (sym c.blank_count.ensures.value) ∙ none)

pub returns : goal.returns
returns c =
    let line = c.args.line.now in
    let rest = drop c.blank_count.result line in
    let whole : take (length line - c.blank_count.result) rest ≡ rest = take_rest line c.blank_count.result in
    let count : c.word_length.result ≡ prefix_len no_blank rest = c.word_length.ensures.value
    ∙ ap (prefix_len no_blank) whole in
    let some : 0 < length rest = grind (arith, whole) in
    let same : rest ≡ drop (prefix_len is_blank line) line = ap (λ n. drop n line) c.blank_count.ensures.value in
    let long : 0 < length (drop (prefix_len is_blank line) line) = rw same at some in
    rw (c.split_at.ensures.front, c.split_at.ensures.back, whole, count, same) (word_first line long)
