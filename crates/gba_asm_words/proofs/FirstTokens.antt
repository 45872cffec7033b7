-- The first token of some bytes.
use Rattle.std.proofs.Common.{◌≡◌, ℕ, ◌+◌, ◌≤◌, Bool, true, false, cond, not, List, [], ◌∷◌, ◌++◌, length, take, drop, refl, ap, sym, ◌∙◌, arith}
use Rattle.std.specs.List.{list_all, prefix_len}
use Rattle.std.proofs.lemmas.Bool.Decides.{nat_tests}
use Rattle.gba_text.specs.Words.{is_blank}
use Rattle.gba_text.proofs.Spans.{front, back, stops, take-front, drop-back, front-append-back, front-passes, back-stops, first_of_all, rest_of_all, negated}
use Rattle.gba_asm_words.specs.Tokens.{Token, Word, Mark, tokens, is_word_byte, goes_on, onto_word}

pub tokens_none : tokens [] ≡ []
unfolding tokens
tokens_none = refl

skips : (b : ℕ) (bs : List ℕ) → tokens bs ≡ tokens (back is_blank bs) → (t : Bool) → is_blank b ≡ t
    → tokens (b ∷ bs) ≡ tokens (cond t (back is_blank bs) (b ∷ bs))
unfolding tokens
skips b bs h true e = rw e h
skips b bs h false e = refl

by_blanks : (bs : List ℕ) → tokens bs ≡ tokens (back is_blank bs)
by_blanks [] = refl
by_blanks (b ∷ bs) = skips b bs (by_blanks bs) (is_blank b) refl

-- blanks before the first token don't matter
pub tokens-blanks : (bs text : List ℕ) → text ≡ drop (prefix_len is_blank bs) bs → tokens bs ≡ tokens text
tokens-blanks bs text e = by_blanks bs ∙ ap tokens (sym (e ∙ drop-back is_blank bs))

-- the bytes after the blanks don't begin with one
pub no_blank-first : (bs : List ℕ) (b : ℕ) (rest : List ℕ) → b ∷ rest ≡ drop (prefix_len is_blank bs) bs
    → is_blank b ≡ false
no_blank-first bs b rest e =
    let h : stops is_blank (b ∷ rest) ≡ true =
    ap (stops is_blank) (e ∙ drop-back is_blank bs) ∙ back-stops is_blank bs in
    negated _ h

pub tokens_mark : (b : ℕ) (bs : List ℕ) → is_blank b ≡ false → is_word_byte b ≡ false
    → tokens (b ∷ bs) ≡ Mark b ∷ tokens bs
unfolding tokens
tokens_mark b bs e f = rw (e, f) refl

word_byte-no_blank : (b : ℕ) → is_word_byte b ≡ true → is_blank b ≡ false
word_byte-no_blank b h = grind (arith, nat_tests)

tokens_end : (b : ℕ) (bs : List ℕ) → is_word_byte b ≡ true → goes_on bs ≡ false
    → tokens (b ∷ bs) ≡ Word (b ∷ []) ∷ tokens bs
unfolding tokens
tokens_end b bs e f = rw (word_byte-no_blank b e, e, f) refl

tokens_more : (b : ℕ) (bs : List ℕ) → is_word_byte b ≡ true → goes_on bs ≡ true
    → tokens (b ∷ bs) ≡ onto_word b (tokens bs)
unfolding tokens
tokens_more b bs e f = rw (word_byte-no_blank b e, e, f) refl

-- a word and what follows it
tokens_word : (b : ℕ) (word rest : List ℕ) → list_all is_word_byte (b ∷ word) ≡ true → goes_on rest ≡ false
    → tokens ((b ∷ word) ++ rest) ≡ Word (b ∷ word) ∷ tokens rest
tokens_word b [] rest h e = tokens_end b rest (first_of_all _ _ h) e
tokens_word b (c ∷ word) rest h e =
    let tail : list_all is_word_byte (c ∷ word) ≡ true = rest_of_all _ _ h in
    tokens_more b ((c ∷ word) ++ rest) (first_of_all _ _ h) (first_of_all _ _ tail)
    ∙ ap (onto_word b) (tokens_word c word rest tail e)

ends : (rest : List ℕ) → stops is_word_byte rest ≡ true → goes_on rest ≡ false
ends [] h = refl
ends (b ∷ rest) h = negated _ h

word_by : (b : ℕ) (bs word rest : List ℕ) → word ++ rest ≡ b ∷ bs → list_all is_word_byte word ≡ true
    → stops is_word_byte rest ≡ true → is_word_byte b ≡ true
    → tokens (b ∷ bs) ≡ Word word ∷ tokens rest
word_by b bs (c ∷ word) rest e h s begin = ap tokens (sym e) ∙ tokens_word c word rest h (ends rest s)
word_by b bs [] (c ∷ rest) e h s begin =
    let head : c ≡ b = cc in
    let none : is_word_byte b ≡ false = rw head at (negated _ s) in
    cc
word_by b bs [] [] e h s begin = cc

-- the first token is a word
pub token_word : (b : ℕ) (bs : List ℕ) → is_word_byte b ≡ true
    → let n = prefix_len is_word_byte (b ∷ bs) in tokens (b ∷ bs) ≡ Word (take n (b ∷ bs)) ∷ tokens (drop n (b ∷ bs))
token_word b bs begin =
    rw (take-front is_word_byte (b ∷ bs), drop-back is_word_byte (b ∷ bs))
    (word_by b bs (front is_word_byte (b ∷ bs)) (back is_word_byte (b ∷ bs)) (front-append-back is_word_byte (b ∷ bs))
    (front-passes is_word_byte (b ∷ bs)) (back-stops is_word_byte (b ∷ bs)) begin)

-- the pieces of some bytes, whose blanks at the front are cut off
pub split_mark : (bs text : List ℕ) (first : ℕ) (others : List ℕ) → text ≡ drop (prefix_len is_blank bs) bs
    → text ≡ first ∷ others → is_word_byte first ≡ false → tokens bs ≡ Mark first ∷ tokens others
split_mark bs text first others cut pieces none =
    tokens-blanks bs text cut ∙ ap tokens pieces
    ∙ tokens_mark first others (no_blank-first bs first others (sym pieces ∙ cut)) none

pub split_word : (bs text : List ℕ) (first : ℕ) (others : List ℕ) → text ≡ drop (prefix_len is_blank bs) bs
    → text ≡ first ∷ others → is_word_byte first ≡ true
    → let n = prefix_len is_word_byte text in tokens bs ≡ Word (take n text) ∷ tokens (drop n text)
split_word bs text first others cut pieces some =
    tokens-blanks bs text cut ∙ rw pieces (token_word first others some)

onto_word-few : (b : ℕ) (ts : List Token) → length (onto_word b ts) ≤ length ts + 1
onto_word-few b [] = omega arith
onto_word-few b (Word w ∷ ts) = omega arith
onto_word-few b (Mark m ∷ ts) = omega arith

few_by : (b n : ℕ) (ts : List Token) → length ts ≤ n → (s t u : Bool)
    → length (cond s ts (cond t (Mark b ∷ ts) (cond u (onto_word b ts) (Word (b ∷ []) ∷ ts)))) ≤ n + 1
few_by b n ts h true t u = omega arith
few_by b n ts h false true u = omega arith
few_by b n ts h false false true = omega (arith, onto_word-few b ts)
few_by b n ts h false false false = omega arith

-- there are no more tokens than bytes
pub tokens-few : (bs : List ℕ) → length (tokens bs) ≤ length bs
unfolding tokens
tokens-few [] = omega arith
tokens-few (b ∷ bs) =
    omega (arith, few_by b (length bs) (tokens bs) (tokens-few bs) (is_blank b) (not (is_word_byte b)) (goes_on bs))
