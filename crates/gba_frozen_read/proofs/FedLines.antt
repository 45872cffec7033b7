-- The lines of a file, each with its line feed.
use Rattle.std.proofs.Common.{◌≡◌, ◌<◌, ◌≤◌, ℕ, suc, ◌+◌, ◌==◌, Bool, true, false, cond, not, List, [], ◌∷◌, length, take, drop, refl, ap, ◌∙◌, arith}
use Rattle.std.specs.List.{prefix_len}
use Rattle.std.proofs.lemmas.Bool.Decides.{nat_tests}
use Rattle.gba_text.specs.Lines.{onto_front}
use Rattle.gba_text.proofs.Spans.{negated}
use Rattle.gba_frozen.specs.Reading.{fed_lines}

-- a byte that isn't a line feed
abbrev pub no_feed : ℕ → Bool
no_feed b = not (b == 10)

ended_by : (b : ℕ) (bs : List ℕ) (t : Bool) → no_feed b ≡ t
    → (prefix_len no_feed bs < length bs
    → fed_lines bs ≡ take (suc (prefix_len no_feed bs)) bs ∷ fed_lines (drop (suc (prefix_len no_feed bs)) bs))
    → cond t (1 + prefix_len no_feed bs) 0 < length (b ∷ bs)
    → fed_lines (b ∷ bs) ≡ take (suc (cond t (1 + prefix_len no_feed bs) 0)) (b ∷ bs)
    ∷ fed_lines (drop (suc (cond t (1 + prefix_len no_feed bs) 0)) (b ∷ bs))
unfolding fed_lines
ended_by b bs true e rest h =
    let plain : (b == 10) ≡ false = negated _ e in
    let more : suc (prefix_len no_feed bs) ≡ 1 + prefix_len no_feed bs = omega arith in
    rw plain (ap (onto_front b) (rest (omega arith)) ∙ ap (λ n. (b ∷ take n bs) ∷ fed_lines (drop n bs)) more)
ended_by b bs false e rest h =
    let feed : (b == 10) ≡ true = grind (arith, nat_tests) in
    rw feed refl

-- a line that a line feed ends
pub line_ended : (bs : List ℕ) → prefix_len no_feed bs < length bs
    → fed_lines bs ≡ take (suc (prefix_len no_feed bs)) bs ∷ fed_lines (drop (suc (prefix_len no_feed bs)) bs)
line_ended [] h = absurd (omega arith)
line_ended (b ∷ bs) h = ended_by b bs (no_feed b) refl (line_ended bs) h

alone_by : (b : ℕ) (bs : List ℕ) (t : Bool) → no_feed b ≡ t
    → (prefix_len no_feed bs ≡ length bs → 0 < length bs → fed_lines bs ≡ bs ∷ [])
    → cond t (1 + prefix_len no_feed bs) 0 ≡ length (b ∷ bs) → fed_lines (b ∷ bs) ≡ (b ∷ bs) ∷ []
unfolding fed_lines
alone_by b [] true e rest h = let plain : (b == 10) ≡ false = negated _ e in rw plain refl
alone_by b (c ∷ bs) true e rest h =
    let plain : (b == 10) ≡ false = negated _ e in
    rw plain (ap (onto_front b) (rest (omega arith) (omega arith)))
alone_by b bs false e rest h = absurd (omega arith)

-- a last line that none ends
pub line_alone : (bs : List ℕ) → prefix_len no_feed bs ≡ length bs → 0 < length bs → fed_lines bs ≡ bs ∷ []
line_alone [] h some = absurd (omega arith)
line_alone (b ∷ bs) h some = alone_by b bs (no_feed b) refl (line_alone bs) h

pub fed_none : (bs : List ℕ) → length bs ≡ 0 → fed_lines bs ≡ []
unfolding fed_lines
fed_none [] h = refl
fed_none (b ∷ bs) h = absurd (omega arith)

few_by : (b n : ℕ) (pieces : List (List ℕ)) → length pieces ≤ n → (t : Bool)
    → length (cond t ((b ∷ []) ∷ pieces) (onto_front b pieces)) ≤ n + 1
few_by b n pieces h true = omega arith
few_by b n pieces h false = omega (arith, onto_few b pieces) where
  onto_few : (b : ℕ) (pieces : List (List ℕ)) → length (onto_front b pieces) ≤ length pieces + 1
  onto_few b [] = omega arith
  onto_few b (piece ∷ pieces) = omega arith

-- a file has no more lines than bytes
pub fed_few : (bs : List ℕ) → length (fed_lines bs) ≤ length bs
unfolding fed_lines
fed_few [] = omega arith
fed_few (b ∷ bs) = omega (arith, few_by b (length bs) (fed_lines bs) (fed_few bs) (b == 10))
