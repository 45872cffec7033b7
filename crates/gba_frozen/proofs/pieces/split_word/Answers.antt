use Rattle.std.proofs.Common.{◌≡◌, ◌<◌, [], length, drop, sym, ap, ◌∙◌, arith}
use Rattle.std.specs.List.{prefix_len}
use Rattle.std.proofs.lemmas.List.{nil_from_length, take_rest}
use Rattle.gba_frozen.proofs.LinePieces.{piece_alone, piece_ended, no_space}
use Rattle.gba_frozen.proofs.pieces.split_word.Goals as goal

pub returns-then-is_empty : goal.returns-then-is_empty
returns-then-is_empty c =
    let bs = c.args.line.now in
    let none : c.split_at.result.1.now ≡ [] = nil_from_length _ (grind arith) in
    let cut : drop (prefix_len no_space bs) bs ≡ [] = ap (λ n. drop n bs) (sym c.word_length.ensures.value)
    ∙ sym c.split_at.ensures.back ∙ none in
    rw (c.split_at.ensures.front, c.word_length.ensures.value) (piece_alone bs cut)

pub returns : goal.returns
returns c =
    let bs = c.args.line.now in
    let cut : c.split_at.result.1.now ≡ drop (prefix_len no_space bs) bs = c.split_at.ensures.back
    ∙ ap (λ n. drop n bs) c.word_length.ensures.value in
    let long : 0 < length c.split_at.result.1.now = grind arith in
    let some : 0 < length (drop (prefix_len no_space bs) bs) = rw cut at long in
    rw (take_rest, c.split_at.ensures.front, c.word_length.ensures.value, cut) (piece_ended bs some)
