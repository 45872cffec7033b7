use Rattle.std.proofs.Common.{◌≡◌, ◌<◌, ℕ, suc, ◌+◌, List, [], ◌∷◌, length, take, drop, sym, ap, ◌∙◌, arith}
use Rattle.std.specs.List.{prefix_len}
use Rattle.std.proofs.lemmas.List.{length-drop, take_all}
use Rattle.gba_frozen.specs.Reading.{fed_lines}
use Rattle.gba_frozen_read.proofs.FedLines.{fed_none, line_alone, line_ended, no_feed}
use Rattle.gba_frozen_read.proofs.lines.split_line.Goals as goal

pub returns-then-place-bytes-clause-line : goal.returns-then-place-bytes-clause-line
returns-then-place-bytes-clause-line c =
    let bs = c.args.bytes.now in
    let whole : prefix_len no_feed bs ≡ length bs =
    omega (arith, c.feed_place-place.ensures.value, c.if-place-bytes.true) in
    let first : c.split_at.result.0.now ≡ bs = c.split_at.ensures.front ∙ take_all _ bs (omega arith) in
    let none : length c.split_at.result.1.now ≡ 0 =
    omega (arith, ap length c.split_at.ensures.back, length-drop {A = ℕ}) in
    line_alone bs whole c.requires.some
    ∙ ap (λ (l : List ℕ). l ∷ []) (sym first)
    ∙ ap (λ ls. c.split_at.result.0.now ∷ ls) (sym (fed_none _ none))

pub returns-clause-line : goal.returns-clause-line
returns-clause-line c =
    let bs = c.args.bytes.now in
    let inside : prefix_len no_feed bs < length bs = omega (arith, c.feed_place-place.ensures.value) in
    let at : suc (prefix_len no_feed bs) ≡ c.feed_place-place.result + 1 =
    omega (arith, c.feed_place-place.ensures.value) in
    line_ended bs inside
    ∙ ap (λ n. take n bs ∷ fed_lines (drop n bs)) at
    ∙ ap (λ l. l ∷ fed_lines (drop (c.feed_place-place.result + 1) bs)) (sym c.split_at-2.ensures.front)
    ∙ ap (λ l. c.split_at-2.result.0.now ∷ fed_lines l) (sym c.split_at-2.ensures.back)
