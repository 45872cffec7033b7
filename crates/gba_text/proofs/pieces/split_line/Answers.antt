use Rattle.std.proofs.Common.{◌≡◌, ◌<◌, [], length, drop, sym, ap, ◌∙◌, arith}
use Rattle.std.specs.List.{prefix_len}
use Rattle.std.proofs.lemmas.List.{nil_from_length, take_rest}
use Rattle.gba_text.proofs.FirstPieces.{line_alone, line_ended, lines_none, no_feed}
use Rattle.gba_text.proofs.pieces.split_line.Goals as goal

pub returns-then-is_empty-clause-pieces : goal.returns-then-is_empty-clause-pieces
returns-then-is_empty-clause-pieces c =
    let bs = c.args.bytes.now in
    let none : c.split_at.result.1.now ≡ [] = nil_from_length _ (grind arith) in
    let cut : drop (prefix_len no_feed bs) bs ≡ [] = ap (λ n. drop n bs) (sym c.length_before_feed.ensures.value)
    ∙ sym c.split_at.ensures.back ∙ none in
    rw (none, lines_none, c.split_at.ensures.front, c.length_before_feed.ensures.value) (line_alone bs c.requires cut)

pub returns-clause-pieces : goal.returns-clause-pieces
returns-clause-pieces c =
    let bs = c.args.bytes.now in
    let cut : c.split_at.result.1.now ≡ drop (prefix_len no_feed bs) bs = c.split_at.ensures.back
    ∙ ap (λ n. drop n bs) c.length_before_feed.ensures.value in
    let long : 0 < length c.split_at.result.1.now = grind arith in
    let some : 0 < length (drop (prefix_len no_feed bs) bs) = rw cut at long in
    rw (take_rest, c.without_return.ensures, c.split_at.ensures.front, c.length_before_feed.ensures.value, cut)
    (line_ended bs some)
