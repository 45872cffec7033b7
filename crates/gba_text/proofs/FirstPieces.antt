-- The first line of a text, and the first word of a line.
use Rattle.std.proofs.Common.{◌≡◌, ℕ, ◌-◌, ◌<◌, Bool, true, false, cond, not, ◌&&◌, ◌==◌, List, [], ◌∷◌, ◌++◌, length, take, drop, get_or, refl, ap, sym, ◌∙◌, arith, rules}
use Rattle.std.specs.List.{list_all, prefix_len}
use Rattle.std.specs.Str.Lines.{strip_carriage_return}
use Rattle.std.proofs.lemmas.Bool.{eqb-true}
use Rattle.std.proofs.lemmas.Bool.Decides.{nat_tests}
use Rattle.gba_text.specs.Lines.{lines, begins_with_feed, onto_front}
use Rattle.gba_text.specs.Words.{is_blank, ends_before, words}
use Rattle.gba_text.proofs.Spans.{front, back, stops, take-front, drop-back, front-append-back, front-passes, back-stops, first_of_all, rest_of_all, negated}

abbrev pub no_feed : ℕ → Bool
no_feed b = not (b == 10)

abbrev pub no_blank : ℕ → Bool
no_blank b = not (is_blank b)

pub lines_feed : (bs : List ℕ) → lines (10 ∷ bs) ≡ [] ∷ lines bs
unfolding lines
lines_feed bs = refl

pub lines_return : (bs : List ℕ) → lines (13 ∷ 10 ∷ bs) ≡ lines (10 ∷ bs)
unfolding lines
lines_return bs = refl

pub lines_more : (b : ℕ) (bs : List ℕ) → (b == 10) ≡ false → (b == 13 && begins_with_feed bs) ≡ false
    → lines (b ∷ bs) ≡ onto_front b (lines bs)
unfolding lines
lines_more b bs e f = rw (e, f) refl

strip_by : (b : ℕ) (cs : List ℕ) (front : List ℕ) (t : Bool) → cond t (b ∷ front) (b ∷ cs) ≡ b ∷ cond t front cs
strip_by b cs front true = refl
strip_by b cs front false = refl

strip-cons : (b c : ℕ) (cs : List ℕ) → strip_carriage_return (b ∷ c ∷ cs) ≡ b ∷ strip_carriage_return (c ∷ cs)
strip-cons b c cs =
    let long : length (b ∷ c ∷ cs) - 1 ≡ length (c ∷ cs) = omega arith in
    let short : length (c ∷ cs) - 1 ≡ length cs = omega arith in
    rw (long, short) (strip_by b (c ∷ cs) (take (length cs) (c ∷ cs)) (get_or (c ∷ cs) (length cs) 0 == 13))

last_byte : (b : ℕ) (rest : List ℕ) → (b == 10) ≡ false → (t : Bool) → (b == 13) ≡ t
    → lines (b ∷ 10 ∷ rest) ≡ cond t [] (b ∷ []) ∷ lines rest
last_byte b rest e true f = ap (λ x. lines (x ∷ 10 ∷ rest)) (eqb-true b 13 f) ∙ lines_return rest ∙ lines_feed rest
last_byte b rest e false f = lines_more b (10 ∷ rest) e (rw f refl) ∙ ap (onto_front b) (lines_feed rest)

by_return : (t u : Bool) → u ≡ false → (t && u) ≡ false
by_return true u h = h
by_return false u h = refl

-- a line before a line feed
pub lines_ended : (line rest : List ℕ) → list_all no_feed line ≡ true
    → lines (line ++ 10 ∷ rest) ≡ strip_carriage_return line ∷ lines rest
lines_ended [] rest h = lines_feed rest
lines_ended (b ∷ []) rest h = last_byte b rest (negated _ (first_of_all _ _ h)) (b == 13) refl
lines_ended (b ∷ c ∷ cs) rest h =
    let tail : list_all no_feed (c ∷ cs) ≡ true = rest_of_all _ _ h in
    lines_more b ((c ∷ cs) ++ 10 ∷ rest) (negated _ (first_of_all _ _ h)) (by_return (b == 13) (c == 10) (negated _
    (first_of_all _ _ tail)))
    ∙ ap (onto_front b) (lines_ended (c ∷ cs) rest tail)
    ∙ ap (λ line. line ∷ lines rest) (sym (strip-cons b c cs))

pub lines_none : lines [] ≡ []
unfolding lines
lines_none = refl

-- a last line that nothing ends
pub lines_alone : (b : ℕ) (bs : List ℕ) → list_all no_feed (b ∷ bs) ≡ true → lines (b ∷ bs) ≡ (b ∷ bs) ∷ []
lines_alone b [] h = lines_more b [] (negated _ (first_of_all _ _ h)) (by_return (b == 13) false refl)
    ∙ ap (onto_front b) lines_none
lines_alone b (c ∷ cs) h =
    let tail : list_all no_feed (c ∷ cs) ≡ true = rest_of_all _ _ h in
    lines_more b (c ∷ cs) (negated _ (first_of_all _ _ h)) (by_return (b == 13) (c == 10) (negated _
    (first_of_all _ _ tail)))
    ∙ ap (onto_front b) (lines_alone c cs tail)

alone_by : (bs before after : List ℕ) → before ++ after ≡ bs → list_all no_feed before ≡ true → 0 < length bs
    → after ≡ [] → lines bs ≡ before ∷ []
alone_by bs [] after e h long none = absurd (omega (arith, ap length e, ap length none))
alone_by bs (b ∷ before) after e h long none =
    let whole : (b ∷ before) ++ [] ≡ bs = rw none at e in
    let same : b ∷ before ≡ bs = search (rules, whole) in
    rw (← same) (lines_alone b before h)

ended_by : (bs before after : List ℕ) → before ++ after ≡ bs → list_all no_feed before ≡ true
    → stops no_feed after ≡ true → 0 < length after
    → lines bs ≡ strip_carriage_return before ∷ lines (drop 1 after)
ended_by bs before [] e h s long = absurd (omega arith)
ended_by bs before (c ∷ after) e h s long =
    let feed : c ≡ 10 = grind (arith, nat_tests) in
    rw (← e, feed) (lines_ended before after h)

-- the bytes have no feed
pub line_alone : (bs : List ℕ) → 0 < length bs → drop (prefix_len no_feed bs) bs ≡ []
    → lines bs ≡ take (prefix_len no_feed bs) bs ∷ []
line_alone bs long none =
    rw take-front (alone_by bs (front no_feed bs) (back no_feed bs) (front-append-back no_feed bs)
    (front-passes no_feed bs) long (sym (drop-back no_feed bs) ∙ none))

-- a feed follows the first line
pub line_ended : (bs : List ℕ) → 0 < length (drop (prefix_len no_feed bs) bs)
    → lines bs ≡ strip_carriage_return (take (prefix_len no_feed bs) bs) ∷ lines (drop 1 (drop
    (prefix_len no_feed bs) bs))
line_ended bs some =
    let long : 0 < length (back no_feed bs) = rw drop-back at some in
    rw (take-front, drop-back) (ended_by bs (front no_feed bs) (back no_feed bs) (front-append-back no_feed bs)
    (front-passes no_feed bs) (back-stops no_feed bs) long)

pub words_none : words [] ≡ []
unfolding words
words_none = refl

skips : (b : ℕ) (bs : List ℕ) → words bs ≡ words (back is_blank bs) → (t : Bool) → is_blank b ≡ t
    → words (b ∷ bs) ≡ words (cond t (back is_blank bs) (b ∷ bs))
unfolding words
skips b bs h true e = rw e h
skips b bs h false e = refl

-- blanks before the first word don't matter
pub words-back : (bs : List ℕ) → words bs ≡ words (back is_blank bs)
words-back [] = refl
words-back (b ∷ bs) = skips b bs (words-back bs) (is_blank b) refl

words_more : (b : ℕ) (bs : List ℕ) → is_blank b ≡ false → ends_before bs ≡ false
    → words (b ∷ bs) ≡ onto_front b (words bs)
unfolding words
words_more b bs e f = rw (e, f) refl

words_end : (b : ℕ) (bs : List ℕ) → is_blank b ≡ false → ends_before bs ≡ true → words (b ∷ bs) ≡ (b ∷ []) ∷ words bs
unfolding words
words_end b bs e f = rw (e, f) refl

-- a word and what follows it
pub words_first : (b : ℕ) (word rest : List ℕ) → list_all no_blank (b ∷ word) ≡ true → ends_before rest ≡ true
    → words ((b ∷ word) ++ rest) ≡ (b ∷ word) ∷ words rest
words_first b [] rest h e = words_end b rest (negated _ (first_of_all _ _ h)) e
words_first b (c ∷ word) rest h e =
    let tail : list_all no_blank (c ∷ word) ≡ true = rest_of_all _ _ h in
    words_more b ((c ∷ word) ++ rest) (negated _ (first_of_all _ _ h)) (negated _ (first_of_all _ _ tail))
    ∙ ap (onto_front b) (words_first c word rest tail e)

ends : (rest : List ℕ) → stops no_blank rest ≡ true → ends_before rest ≡ true
ends [] h = refl
ends (b ∷ rest) h = double (is_blank b) h where
  double : (t : Bool) → not (not t) ≡ true → t ≡ true
  double true h = refl
  double false h = h

word_by : (text word rest : List ℕ) → word ++ rest ≡ text → list_all no_blank word ≡ true
    → stops no_blank rest ≡ true → stops is_blank text ≡ true → 0 < length text
    → words text ≡ word ∷ words rest
word_by text (b ∷ word) rest e h s begin long = rw (← e) (words_first b word rest h (ends rest s))
word_by [] [] rest e h s begin long = absurd (omega arith)
word_by (b ∷ text) [] [] e h s begin long = cc
word_by (b ∷ text) [] (c ∷ rest) e h s begin long =
    let same : c ∷ rest ≡ b ∷ text = e in
    let head : c ≡ b = cc in
    let blank : is_blank b ≡ true = rw head at (ends (c ∷ rest) s) in
    let none : is_blank b ≡ false = negated _ begin in
    cc

-- the first word of a text that doesn't begin with a blank
pub word_first : (line : List ℕ) → let text = drop (prefix_len is_blank line) line in 0 < length text
    → words line ≡ take (prefix_len no_blank text) text ∷ words (drop (prefix_len no_blank text) text)
word_first line long =
    let text = back is_blank line in
    let some : 0 < length text = rw drop-back at long in
    rw (words-back line, drop-back is_blank line, take-front no_blank text, drop-back no_blank text)
    (word_by text (front no_blank text) (back no_blank text) (front-append-back no_blank text)
    (front-passes no_blank text) (back-stops no_blank text) (back-stops is_blank line) some)

-- a line of blanks
pub word_none : (line : List ℕ) → drop (prefix_len is_blank line) line ≡ [] → words line ≡ []
word_none line none = words-back line ∙ ap words (sym (drop-back is_blank line) ∙ none) ∙ words_none
