-- The lines that are added one by one.
use Rattle.std.proofs.Common.{◌≡◌, ◌≤◌, ℕ, ◌+◌, Bool, List, [], ◌∷◌, ◌++◌, length, take, drop, refl, sym, ap, ◌∙◌, append_assoc, length-drop, ◌-◌, arith}
use Rattle.std.proofs.Math.Seq.{take-length}
use Rattle.std.proofs.lemmas.List.{append-nil, drop-drop}
use Rattle.gba_dis.specs.declared.units.Set.{Set}
use Rattle.gba_dis.specs.declared.units.Unit.{Unit}
use Rattle.gba_dis.specs.Listing.{line_text, lines_of}
use Rattle.gba_dis.specs.Units.{size_of, units}

pub lines_more : (thumb : Bool) (at : ℕ) (u : Unit) (us : List Unit)
    → lines_of thumb at (u ∷ us) ≡ line_text thumb at u ++ 10 ∷ lines_of thumb (at + size_of u) us
unfolding lines_of
lines_more thumb at u us = refl

pub lines_end : (thumb : Bool) (at : ℕ) → lines_of thumb at [] ≡ []
unfolding lines_of
lines_end thumb at = refl

-- the text with the lines that are left, after one more
pub line_added : (thumb : Bool) (at next : ℕ) (u : Unit) (us all : List Unit) (text lined new whole : List ℕ)
    → text ++ lines_of thumb at all ≡ whole → all ≡ u ∷ us → lined ≡ text ++ line_text thumb at u
    → new ≡ lined ++ 10 ∷ [] → next ≡ at + size_of u → new ++ lines_of thumb next us ≡ whole
line_added thumb at next u us all text lined new whole h split line feed place =
    let rest = lines_of thumb (at + size_of u) us in
    rw (feed, line, place)
    (append_assoc (text ++ line_text thumb at u) (10 ∷ []) rest ∙ append_assoc text (line_text thumb at u) (10 ∷ rest)
    ∙ ap (λ bs. text ++ bs) (sym (lines_more thumb at u us)) ∙ ap (λ v. text ++ lines_of thumb at v) (sym split) ∙ h)

pub all_added : (thumb : Bool) (at : ℕ) (all : List Unit) (text whole : List ℕ) → text ++ lines_of thumb at all ≡ whole
    → all ≡ [] → text ≡ whole
all_added thumb at all text whole h none =
    sym (append-nil text) ∙ ap (λ bs. text ++ bs) (sym (lines_end thumb at))
    ∙ ap (λ v. text ++ lines_of thumb at v) (sym none) ∙ h

-- all of what is left of bytes
pub left_whole : (k : ℕ) (bs : List ℕ) → take (length bs - k) (drop k bs) ≡ drop k bs
left_whole k bs =
    ap (λ n. take n (drop k bs)) (sym (length-drop k bs)) ∙ take-length (drop k bs)

pub split_left : (set : Set) (bs : List ℕ) (at size : ℕ) (u : Unit)
    → units set (take (length bs - at) (drop at bs))
    ≡ u ∷ units set (drop (size_of u) (take (length bs - at) (drop at bs)))
    → size ≡ size_of u → units set (drop at bs) ≡ u ∷ units set (drop (at + size) bs)
split_left set bs at size u h same =
    let here : units set (drop at bs) ≡ u ∷ units set (drop (size_of u) (drop at bs)) = rw (left_whole at bs) at h in
    here ∙ ap (λ xs. u ∷ units set xs) (drop-drop (size_of u) at bs ∙ ap (λ n. drop (at + n) bs) (sym same))

pub none_left : (set : Set) (bs : List ℕ) (at : ℕ) → units set (take (length bs - at) (drop at bs)) ≡ []
    → units set (drop at bs) ≡ []
none_left set bs at h = rw (left_whole at bs) at h

pub within_left : (bs : List ℕ) (at size : ℕ) → at ≤ length bs → size ≤ length (take (length bs - at) (drop at bs))
    → at + size ≤ length bs
within_left bs at size h k = omega (arith, ap length (left_whole at bs), length-drop at bs, h, k)
