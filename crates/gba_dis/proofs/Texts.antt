-- The texts of pieces.
use Rattle.std.proofs.Common.{◌≡◌, ℕ, List, [], ◌∷◌, ◌++◌, Result, Ok, Err, refl, sym, ap, ◌∙◌, append_assoc}
use Rattle.std.specs.Result.{OnOk}
use Rattle.gba_dis.specs.Pieces.{Piece, piece_text, text_of}

pub text_of_append : (front bs : List Piece) → text_of (front ++ bs) ≡ text_of front ++ text_of bs
text_of_append [] bs = refl
text_of_append (a ∷ front) bs =
    ap (λ rest. piece_text a ++ rest) (text_of_append front bs)
    ∙ sym (append_assoc (piece_text a) (text_of front) (text_of bs))

pub on_ok : {T E P Q : Type 0} (r : Result T E) → (P → Q) → OnOk r P → OnOk r Q
on_ok (Ok x) f h = f h
on_ok (Err e) f h = tt

-- texts that are added one after another
pub three_added : (old a b c one two three : List ℕ) → one ≡ old ++ a → two ≡ one ++ b → three ≡ two ++ c
    → three ≡ old ++ (a ++ (b ++ c))
three_added old a b c one two three e f g =
    rw (g, f, e) (append_assoc (old ++ a) b c ∙ append_assoc old a (b ++ c))

pub four_added : (old a b c d one two three four : List ℕ) → one ≡ old ++ a → two ≡ one ++ b → three ≡ two ++ c
    → four ≡ three ++ d → four ≡ old ++ (a ++ (b ++ (c ++ d)))
four_added old a b c d one two three four e f g h =
    h ∙ ap (λ xs. xs ++ d) (three_added old a b c one two three e f g) ∙ append_assoc old (a ++ (b ++ c)) d
    ∙ ap (λ xs. old ++ xs) (append_assoc a (b ++ c) d ∙ ap (λ xs. a ++ xs) (append_assoc b c d))

pub three_texts : (ps qs rs : List Piece) → text_of ps ++ (text_of qs ++ text_of rs) ≡ text_of (ps ++ (qs ++ rs))
three_texts ps qs rs =
    sym (text_of_append ps (qs ++ rs) ∙ ap (λ xs. text_of ps ++ xs) (text_of_append qs rs))

-- what stands before some pieces, and the pieces
pub after_front : (front xs : List ℕ) (ps qs rs : List Piece)
    → (front ++ (xs ++ text_of ps)) ++ (text_of qs ++ text_of rs) ≡ front ++ (xs ++ text_of (ps ++ (qs ++ rs)))
after_front front xs ps qs rs =
    append_assoc front (xs ++ text_of ps) (text_of qs ++ text_of rs)
    ∙ ap (λ ys. front ++ ys) (append_assoc xs (text_of ps) (text_of qs ++ text_of rs)
    ∙ ap (λ ys. xs ++ ys) (three_texts ps qs rs))
