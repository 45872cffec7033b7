-- The tokens of the text of pieces, and what it can't have.
use Rattle.std.proofs.Common.{◌≡◌, ◌<◌, ◌≤◌, ℕ, ◌+◌, Bool, true, false, cond, not, ◌&&◌, ◌||◌, ◌==◌, nat_lt, List, [], ◌∷◌, ◌++◌, length, Some, None, refl, sym, ap, ◌∙◌, append_assoc, take, drop, le-ltb, arith}
use Rattle.std.specs.List.{list_all, prefix_len}
use Rattle.std.proofs.lemmas.Bool.Decides.{nat_tests}
use Rattle.std.proofs.lemmas.List.{append-nil}
use Rattle.gba_text.specs.Lines.{lines, onto_front, begins_with_feed}
use Rattle.gba_text.specs.Words.{is_blank}
use Rattle.gba_text.proofs.FirstPieces.{lines_feed, lines_more}
use Rattle.gba_text.proofs.Spans.{front, back, take-front, drop-back, first_of_all, rest_of_all, negated}
use Rattle.gba_asm_words.specs.Names.{is_label}
use Rattle.gba_asm_words.specs.Readers.{begins, other_tokens}
use Rattle.gba_asm_words.specs.Tokens.{Token, Word, tokens, is_word_byte, is_mark, is_source_byte, goes_on, no_semicolon, code_of, fault_of}
use Rattle.gba_asm_words.specs.Tokens as token
use Rattle.gba_asm_words.proofs.FirstTokens.{tokens_none, tokens_mark, token_word}
use Rattle.gba_asm.specs.Statements.{label_of, line_says, split_label, statement_of}
use Rattle.gba_dis.specs.Pieces.{Piece, Name, Plain, Comma, Mark, piece_text, text_of}

-- a word that may stand in a line
pub record IsWord (word : List ℕ) : Type 0 where
  pub bytes : list_all is_word_byte word ≡ true
  pub some : 0 < length word

-- a mark that may stand in a line; no label ends with one
abbrev pub is_inner_mark : ℕ → Bool
is_inner_mark mark = is_mark mark && not (mark == 58)

-- whether a word ends before these pieces
abbrev pub EndsWord : List Piece → Type 0
EndsWord [] = Unit {0}
EndsWord (Name word ∷ pieces) = ⊥
EndsWord (Plain word ∷ pieces) = ⊥
EndsWord (Comma ∷ pieces) = Unit {0}
EndsWord (Mark mark ∷ pieces) = Unit {0}

-- pieces that are read again as they stand
abbrev pub IsSpelling : List Piece → Type 0
IsSpelling [] = Unit {0}
IsSpelling (Name word ∷ pieces) = IsWord word × IsSpelling pieces
IsSpelling (Plain word ∷ pieces) = IsWord word × EndsWord pieces × IsSpelling pieces
IsSpelling (Comma ∷ pieces) = IsSpelling pieces
IsSpelling (Mark mark ∷ pieces) = (is_inner_mark mark ≡ true) × IsSpelling pieces

abbrev pub token_of : Piece → Token
token_of (Name word) = Word word
token_of (Plain word) = Word word
token_of Comma = token.Mark 44
token_of (Mark mark) = token.Mark mark

abbrev pub tokens_of : List Piece → List Token
tokens_of [] = []
tokens_of (piece ∷ pieces) = token_of piece ∷ tokens_of pieces

mark_no_blank : (m : ℕ) → is_inner_mark m ≡ true → is_blank m ≡ false
mark_no_blank m h = grind (arith, nat_tests)

mark_no_word : (m : ℕ) → is_inner_mark m ≡ true → is_word_byte m ≡ false
mark_no_word m h = grind (arith, nat_tests)

pub tokens_blank : (bs : List ℕ) → tokens (32 ∷ bs) ≡ tokens bs
unfolding tokens
tokens_blank bs = refl

-- a word is the front of the bytes up to where it ends
word_front : (w rest : List ℕ) → list_all is_word_byte w ≡ true → goes_on rest ≡ false
    → front is_word_byte (w ++ rest) ≡ w
word_front [] [] h e = refl
word_front [] (r ∷ rest) h e = rw e refl
word_front (b ∷ w) rest h e =
    rw (first_of_all (is_word_byte b) (list_all is_word_byte w) h)
    (ap (λ bs. b ∷ bs) (word_front w rest (rest_of_all (is_word_byte b) (list_all is_word_byte w) h) e))

word_back : (w rest : List ℕ) → list_all is_word_byte w ≡ true → goes_on rest ≡ false
    → back is_word_byte (w ++ rest) ≡ rest
word_back [] [] h e = refl
word_back [] (r ∷ rest) h e = rw e refl
word_back (b ∷ w) rest h e =
    rw (first_of_all (is_word_byte b) (list_all is_word_byte w) h)
    (word_back w rest (rest_of_all (is_word_byte b) (list_all is_word_byte w) h) e)

word_tokens : (w rest : List ℕ) → IsWord w → goes_on rest ≡ false → tokens (w ++ rest) ≡ Word w ∷ tokens rest
word_tokens [] rest h e = absurd (omega (arith, h.some))
word_tokens (b ∷ w) rest h e =
    let t = token_word b (w ++ rest) (first_of_all (is_word_byte b) (list_all is_word_byte w) h.bytes) in
    t
    ∙ ap (λ v. Word v ∷ tokens (drop (prefix_len is_word_byte (b ∷ (w ++ rest))) (b ∷ (w ++ rest))))
    (take-front is_word_byte (b ∷ (w ++ rest)) ∙ word_front (b ∷ w) rest h.bytes e)
    ∙ ap (λ v. Word (b ∷ w) ∷ tokens v) (drop-back is_word_byte (b ∷ (w ++ rest)) ∙ word_back (b ∷ w) rest h.bytes e)

ends : (ps : List Piece) → EndsWord ps → IsSpelling ps → goes_on (text_of ps) ≡ false
ends [] h s = refl
ends (Name w ∷ ps) h s = absurd h
ends (Plain w ∷ ps) h s = absurd h
ends (Comma ∷ ps) h s = refl
ends (Mark m ∷ ps) h s = mark_no_word m s.0

-- the tokens of the text of pieces are the pieces
pub tokens_back : (ps : List Piece) → IsSpelling ps → tokens (text_of ps) ≡ tokens_of ps
tokens_back [] h = tokens_none
tokens_back (Name w ∷ ps) h =
    ap tokens (append_assoc w (32 ∷ []) (text_of ps)) ∙ word_tokens w (32 ∷ text_of ps) h.0 refl
    ∙ ap (λ ts. Word w ∷ ts) (tokens_blank (text_of ps) ∙ tokens_back ps h.1)
tokens_back (Plain w ∷ ps) h =
    word_tokens w (text_of ps) h.0 (ends ps h.1 h.2) ∙ ap (λ ts. Word w ∷ ts) (tokens_back ps h.2)
tokens_back (Comma ∷ ps) h =
    tokens_mark 44 (32 ∷ text_of ps) refl refl
    ∙ ap (λ ts. token.Mark 44 ∷ ts) (tokens_blank (text_of ps) ∙ tokens_back ps h)
tokens_back (Mark m ∷ ps) h =
    tokens_mark m (text_of ps) (mark_no_blank m h.0) (mark_no_word m h.0)
    ∙ ap (λ ts. token.Mark m ∷ ts) (tokens_back ps h.1)

-- a byte that ends no line and begins no comment
abbrev pub is_clean : ℕ → Bool
is_clean b = is_source_byte b && not (b == 10) && not (b == 13) && not (b == 59)

word_clean : (b : ℕ) → is_word_byte b ≡ true → is_clean b ≡ true
word_clean b h = grind (arith, nat_tests)

mark_clean : (b : ℕ) → is_inner_mark b ≡ true → is_clean b ≡ true
mark_clean b h = grind (arith, nat_tests)

pub both : (s t : Bool) → s ≡ true → t ≡ true → (s && t) ≡ true
both true t e f = f
both false t e f = cc

pub all_append : (p : ℕ → Bool) (xs ys : List ℕ) → list_all p xs ≡ true → list_all p ys ≡ true
    → list_all p (xs ++ ys) ≡ true
all_append p [] ys h k = k
all_append p (x ∷ xs) ys h k =
    both _ _ (first_of_all _ _ h) (all_append p xs ys (rest_of_all (p x) (list_all p xs) h) k)

all_clean : (w : List ℕ) → list_all is_word_byte w ≡ true → list_all is_clean w ≡ true
all_clean [] h = refl
all_clean (b ∷ w) h =
    both _ _ (word_clean b (first_of_all _ _ h))
    (all_clean w (rest_of_all (is_word_byte b) (list_all is_word_byte w) h))

piece_clean : (p : Piece) (ps : List Piece) → IsSpelling (p ∷ ps) → list_all is_clean (piece_text p) ≡ true
piece_clean (Name w) ps h = all_append is_clean w (32 ∷ []) (all_clean w h.0.bytes) refl
piece_clean (Plain w) ps h = all_clean w h.0.bytes
piece_clean Comma ps h = refl
piece_clean (Mark m) ps h = both _ _ (mark_clean m h.0) refl

spelled_rest : (p : Piece) (ps : List Piece) → IsSpelling (p ∷ ps) → IsSpelling ps
spelled_rest (Name w) ps h = h.1
spelled_rest (Plain w) ps h = h.2
spelled_rest Comma ps h = h
spelled_rest (Mark m) ps h = h.1

pub text_clean : (ps : List Piece) → IsSpelling ps → list_all is_clean (text_of ps) ≡ true
text_clean [] h = refl
text_clean (p ∷ ps) h =
    all_append is_clean (piece_text p) (text_of ps) (piece_clean p ps h) (text_clean ps (spelled_rest p ps h))

clean_feed : (b : ℕ) → is_clean b ≡ true → (b == 10) ≡ false
clean_feed b h = grind (arith, nat_tests)

clean_return : (b : ℕ) (t : Bool) → is_clean b ≡ true → (b == 13 && t) ≡ false
clean_return b t h = by_test (b == 13) refl where
  by_test : (s : Bool) → (b == 13) ≡ s → (s && t) ≡ false
  by_test true e = absurd (grind (arith, nat_tests))
  by_test false e = refl

-- a clean line before a line feed
pub line_first : (line rest : List ℕ) → list_all is_clean line ≡ true → lines (line ++ 10 ∷ rest) ≡ line ∷ lines rest
line_first [] rest h = lines_feed rest
line_first (b ∷ line) rest h =
    let here = first_of_all (is_clean b) (list_all is_clean line) h in
    lines_more b (line ++ 10 ∷ rest) (clean_feed b here) (clean_return b _ here)
    ∙ ap (onto_front b) (line_first line rest (rest_of_all (is_clean b) (list_all is_clean line) h))

clean_code : (line : List ℕ) → list_all is_clean line ≡ true → front no_semicolon line ≡ line
clean_code [] h = refl
clean_code (b ∷ line) h =
    let here = first_of_all (is_clean b) (list_all is_clean line) h in
    let none : no_semicolon b ≡ true = grind (arith, nat_tests) in
    rw none (ap (λ bs. b ∷ bs) (clean_code line (rest_of_all (is_clean b) (list_all is_clean line) h)))

pub code_whole : (line : List ℕ) → list_all is_clean line ≡ true → code_of line ≡ line
code_whole line h = take-front no_semicolon line ∙ clean_code line h

all_source : (line : List ℕ) → list_all is_clean line ≡ true → list_all is_source_byte line ≡ true
all_source [] h = refl
all_source (b ∷ line) h =
    let here = first_of_all (is_clean b) (list_all is_clean line) h in
    both _ _ (first_of_all (is_source_byte b) _ (first_of_all _ _ (first_of_all _ _ here)))
    (all_source line (rest_of_all (is_clean b) (list_all is_clean line) h))

pub no_fault : (line : List ℕ) → list_all is_clean line ≡ true → length line ≤ 400 → fault_of line ≡ None
unfolding fault_of
no_fault line h short = rw (le-ltb _ _ short, code_whole line h, all_source line h) refl

no_colon : (ps : List Piece) → IsSpelling ps → begins 58 (tokens_of ps) ≡ false
no_colon [] h = refl
no_colon (Name w ∷ ps) h = refl
no_colon (Plain w ∷ ps) h = refl
no_colon (Comma ∷ ps) h = refl
no_colon (Mark m ∷ ps) h =
    let inner = h.0 in
    grind (arith, nat_tests)

and_false : (s : Bool) → (s && false) ≡ false
and_false true = refl
and_false false = refl

pub unlabelled_rest : (ps : List Piece) → IsSpelling ps → (split_label (tokens_of ps)).rest ≡ tokens_of ps
unfolding split_label
unlabelled_rest [] h = refl
unlabelled_rest (Name w ∷ ps) h = rw (no_colon ps h.1, and_false (is_label w)) refl
unlabelled_rest (Plain w ∷ ps) h = rw (no_colon ps h.2, and_false (is_label w)) refl
unlabelled_rest (Comma ∷ ps) h = refl
unlabelled_rest (Mark m ∷ ps) h = refl

unlabelled_none : (ps : List Piece) → IsSpelling ps → (split_label (tokens_of ps)).label ≡ None
unfolding split_label
unlabelled_none [] h = refl
unlabelled_none (Name w ∷ ps) h = rw (no_colon ps h.1, and_false (is_label w)) refl
unlabelled_none (Plain w ∷ ps) h = rw (no_colon ps h.2, and_false (is_label w)) refl
unlabelled_none (Comma ∷ ps) h = refl
unlabelled_none (Mark m ∷ ps) h = refl

-- what the text of pieces says is what its pieces say
pub spelled_says : (thumb : Bool) (ps : List Piece) → IsSpelling ps → length (text_of ps) ≤ 400
    → line_says thumb (text_of ps) ≡ statement_of thumb (tokens_of ps)
unfolding line_says
spelled_says thumb ps h short =
    let clean = text_clean ps h in
    rw (no_fault (text_of ps) clean short, code_whole (text_of ps) clean, tokens_back ps h, unlabelled_rest ps h) refl

pub spelled_label : (ps : List Piece) → IsSpelling ps → length (text_of ps) ≤ 400 → label_of (text_of ps) ≡ None
unfolding label_of
spelled_label ps h short =
    let clean = text_clean ps h in
    rw (no_fault (text_of ps) clean short, code_whole (text_of ps) clean, tokens_back ps h, unlabelled_none ps h) refl
