-- Words parted by one space are the words of their line, and lines that are ended are the lines of their text.
use Rattle.std.proofs.Common.{◌≡◌, ℕ, ◌<◌, ◌≤◌, Bool, true, false, ◌&&◌, ◌==◌, nat_le, List, [], ◌∷◌, ◌++◌, length, Ok, refl, ap, sym, ◌∙◌, arith}
use Rattle.std.specs.List.{list_all}
use Rattle.std.proofs.lemmas.Bool.{le-ltb}
use Rattle.std.proofs.lemmas.Bool.Decides.{nat_tests}
use Rattle.std.proofs.lemmas.List.{append_assoc}
use Rattle.std.proofs.lemmas.List.Folds.{list_all-append}
use Rattle.gba_text.specs.Lines.{lines, onto_front}
use Rattle.gba_text.specs.Words.{words, is_text_byte, has_text_alone, ends_before}
use Rattle.gba_text.proofs.FirstPieces.{lines_feed, lines_more, no_blank, words_first, words_none}
use Rattle.gba_text.proofs.Spans.{first_of_all, rest_of_all}
use Rattle.gba_joblog.specs.Lines.{is_comment, is_said}
use Rattle.gba_joblog.specs.Log.{after_words, line_of}
use Rattle.gba_joblog.specs.Operands.{LineWords}

-- a byte of a word
abbrev pub is_word_byte : ℕ → Bool
is_word_byte b = nat_le 33 b && nat_le b 126

pub record IsWord (word : List ℕ) : Type 0 where
  pub some : 0 < length word
  pub bytes : list_all is_word_byte word ≡ true

-- each of these is a word
unfoldable pub AreWords : LineWords → Type 0
AreWords [] = Unit {0}
AreWords (word ∷ words) = IsWord word × AreWords words

pub are_none : AreWords []
unfolding AreWords
are_none = tt

pub are_more : (word : List ℕ) (words : LineWords) → IsWord word → AreWords words → AreWords (word ∷ words)
unfolding AreWords
are_more word words is rest = (is, rest)

pub list_all-weaker : (p q : ℕ → Bool) → ((b : ℕ) → p b ≡ true → q b ≡ true) → (xs : List ℕ) → list_all p xs ≡ true
    → list_all q xs ≡ true
list_all-weaker p q weaker [] h = refl
list_all-weaker p q weaker (x ∷ xs) h =
    let first = weaker x (first_of_all (p x) (list_all p xs) h) in
    let rest = list_all-weaker p q weaker xs (rest_of_all (p x) (list_all p xs) h) in
    rw (first, rest) refl

word_byte-no_blank : (b : ℕ) → is_word_byte b ≡ true → no_blank b ≡ true
word_byte-no_blank b h = grind (arith, nat_tests)

word_byte-text : (b : ℕ) → is_word_byte b ≡ true → is_text_byte b ≡ true
word_byte-text b h = grind (arith, nat_tests)

-- the words after the first one, each after a space
abbrev pub spaced : LineWords → List ℕ
spaced [] = []
spaced (word ∷ words) = 32 ∷ (word ++ spaced words)

ends-spaced : (ws : LineWords) → ends_before (spaced ws) ≡ true
ends-spaced [] = refl
ends-spaced (w ∷ ws) = refl

words_blank : (bs : List ℕ) → words (32 ∷ bs) ≡ words bs
unfolding words
words_blank bs = refl

words-front : (word : List ℕ) (ws : LineWords) → IsWord word → words (word ++ spaced ws) ≡ word ∷ words (spaced ws)
words-front [] ws is = absurd (omega (arith, is.some))
words-front (b ∷ word) ws is =
    words_first b word (spaced ws) (list_all-weaker is_word_byte no_blank word_byte-no_blank (b ∷ word) is.bytes)
    (ends-spaced ws)

words-spaced : (ws : LineWords) → AreWords ws → words (spaced ws) ≡ ws
unfolding AreWords
words-spaced [] are = words_none
words-spaced (w ∷ ws) are =
    words_blank (w ++ spaced ws) ∙ words-front w ws are.0 ∙ ap (λ rest. w ∷ rest) (words-spaced ws are.1)

-- the words of a line
pub words-line : (keyword : List ℕ) (ws : LineWords) → IsWord keyword → AreWords ws
    → words (keyword ++ spaced ws) ≡ keyword ∷ ws
words-line keyword ws is are = words-front keyword ws is ∙ ap (λ rest. keyword ∷ rest) (words-spaced ws are)

text-spaced : (ws : LineWords) → AreWords ws → has_text_alone (spaced ws) ≡ true
unfolding AreWords
text-spaced [] are = refl
text-spaced (w ∷ ws) are =
    list_all-append is_text_byte w (spaced ws)
    ∙ (let here = list_all-weaker is_word_byte is_text_byte word_byte-text w are.0.bytes in
    let rest = text-spaced ws are.1 in rw (here, rest) refl)

pub text-line : (keyword : List ℕ) (ws : LineWords) → IsWord keyword → AreWords ws
    → has_text_alone (keyword ++ spaced ws) ≡ true
text-line keyword ws is are =
    list_all-append is_text_byte keyword (spaced ws)
    ∙ (let here = list_all-weaker is_word_byte is_text_byte word_byte-text keyword is.bytes in
    let rest = text-spaced ws are in rw (here, rest) refl)

-- a line with its line feed
after-spaced : (ws : LineWords) → after_words ws ≡ spaced ws ++ 10 ∷ []
after-spaced [] = refl
after-spaced (w ∷ ws) =
    ap (λ rest. 32 ∷ (w ++ rest)) (after-spaced ws)
    ∙ ap (λ rest. 32 ∷ rest) (sym (append_assoc w (spaced ws) (10 ∷ [])))

pub line_of-spaced : (keyword : List ℕ) (ws : LineWords) → line_of keyword ws ≡ (keyword ++ spaced ws) ++ 10 ∷ []
line_of-spaced keyword ws =
    ap (λ rest. keyword ++ rest) (after-spaced ws) ∙ sym (append_assoc keyword (spaced ws) (10 ∷ []))

text_byte-feed : (b : ℕ) → is_text_byte b ≡ true → (b == 10) ≡ false
text_byte-feed b h = grind (arith, nat_tests)

text_byte-return : (b : ℕ) → is_text_byte b ≡ true → (b == 13) ≡ false
text_byte-return b h = grind (arith, nat_tests)

-- the first line of a text
pub lines-first : (line rest : List ℕ) → has_text_alone line ≡ true → lines (line ++ 10 ∷ rest) ≡ line ∷ lines rest
lines-first [] rest h = lines_feed rest
lines-first (b ∷ line) rest h =
    let here : is_text_byte b ≡ true = first_of_all (is_text_byte b) (has_text_alone line) h in
    let after = lines-first line rest (rest_of_all (is_text_byte b) (has_text_alone line) h) in
    lines_more b (line ++ 10 ∷ rest) (text_byte-feed b here) (rw (text_byte-return b here) refl)
    ∙ ap (onto_front b) after

-- a line that is no comment, and not too long
pub record IsLine (front : List ℕ) (ws : LineWords) : Type 0 where
  pub keyword : IsWord front
  pub words : AreWords ws
  pub plain : is_comment (front ++ spaced ws) ≡ false
  pub short : length (front ++ spaced ws) ≤ 400

pub is_said-line : (keyword : List ℕ) (ws : LineWords) → IsLine keyword ws → is_said (keyword ++ spaced ws) ≡ Ok true
unfolding is_said
is_said-line keyword ws is =
    let short = le-ltb _ _ is.short in
    let text = text-line keyword ws is.keyword is.words in
    let all = words-line keyword ws is.keyword is.words in
    rw (short, is.plain, text, all) refl
