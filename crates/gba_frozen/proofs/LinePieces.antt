-- Words parted by one space are the pieces of their line.
use Rattle.std.proofs.Common.{◌≡◌, ℕ, ◌<◌, ◌==◌, Bool, true, false, not, List, [], ◌∷◌, ◌++◌, length, take, drop, refl, ap, sym, ◌∙◌, arith}
use Rattle.std.specs.List.{list_all, prefix_len}
use Rattle.std.proofs.lemmas.Bool.Decides.{nat_tests}
use Rattle.std.proofs.lemmas.List.{append-nil}
use Rattle.gba_text.specs.Lines.{onto_front}
use Rattle.gba_text.proofs.Spans.{first_of_all, rest_of_all, negated, front, back, stops, take-front, drop-back, front-append-back, front-passes, back-stops}
use Rattle.gba_frozen.specs.Spelling.{pieces, joined}

-- a byte of a word
abbrev pub no_space : ℕ → Bool
no_space b = not (b == 32)

-- one word, and a word before others
pub pieces-last : (word : List ℕ) → list_all no_space word ≡ true → pieces word ≡ word ∷ []
unfolding pieces
pieces-last [] h = refl
pieces-last (b ∷ word) h =
    let plain : (b == 32) ≡ false = negated _ (first_of_all _ _ h) in
    rw plain (ap (onto_front b) (pieces-last word (rest_of_all _ _ h)))

pub pieces-more : (word rest : List ℕ) → list_all no_space word ≡ true → pieces (word ++ 32 ∷ rest) ≡ word ∷ pieces rest
unfolding pieces
pieces-more [] rest h = refl
pieces-more (b ∷ word) rest h =
    let plain : (b == 32) ≡ false = negated _ (first_of_all _ _ h) in
    rw plain (ap (onto_front b) (pieces-more word rest (rest_of_all _ _ h)))

-- words without a space
unfoldable pub AreWords : List (List ℕ) → Type 0
AreWords [] = Unit {0}
AreWords (word ∷ words) = (list_all no_space word ≡ true) × AreWords words

pub are_none : AreWords []
unfolding AreWords
are_none = tt

pub are_more : (word : List ℕ) (words : List (List ℕ)) → list_all no_space word ≡ true → AreWords words
    → AreWords (word ∷ words)
unfolding AreWords
are_more word words is rest = (is, rest)

-- the pieces of a line are its words
pub pieces-joined : (word : List ℕ) (words : List (List ℕ)) → list_all no_space word ≡ true → AreWords words
    → pieces (joined word words) ≡ word ∷ words
unfolding AreWords
pieces-joined word [] is are = rw append-nil (pieces-last word is)
pieces-joined word (next ∷ words) is are =
    pieces-more word (joined next words) is ∙ ap (λ rest. word ∷ rest) (pieces-joined next words are.0 are.1)

-- the first piece of a line, by the length of its front
ended_by : (bs before after : List ℕ) → before ++ after ≡ bs → list_all no_space before ≡ true
    → stops no_space after ≡ true → 0 < length after → pieces bs ≡ before ∷ pieces (drop 1 after)
ended_by bs before [] e h s long = absurd (omega arith)
ended_by bs before (c ∷ after) e h s long =
    let space : c ≡ 32 = grind (arith, nat_tests) in
    rw (← e, space) (pieces-more before after h)

pub piece_alone : (bs : List ℕ) → drop (prefix_len no_space bs) bs ≡ []
    → pieces bs ≡ take (prefix_len no_space bs) bs ∷ []
piece_alone bs none =
    let gone : back no_space bs ≡ [] = sym (drop-back no_space bs) ∙ none in
    let whole : front no_space bs ≡ bs =
    sym (append-nil (front no_space bs)) ∙ ap (λ t. front no_space bs ++ t) (sym gone)
    ∙ front-append-back no_space bs in
    let passes : list_all no_space bs ≡ true = ap (list_all no_space) (sym whole) ∙ front-passes no_space bs in
    pieces-last bs passes ∙ ap (λ t. t ∷ []) (sym (take-front no_space bs ∙ whole))

pub piece_ended : (bs : List ℕ) → 0 < length (drop (prefix_len no_space bs) bs)
    → pieces bs ≡ take (prefix_len no_space bs) bs ∷ pieces (drop 1 (drop (prefix_len no_space bs) bs))
piece_ended bs some =
    let long : 0 < length (back no_space bs) = rw drop-back at some in
    rw (take-front, drop-back) (ended_by bs (front no_space bs) (back no_space bs) (front-append-back no_space bs)
    (front-passes no_space bs) (back-stops no_space bs) long)
