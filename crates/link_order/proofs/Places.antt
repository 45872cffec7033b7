-- Putting an element in its place in an ordered list.
use Rattle.std.specs.Prelude.{Bool, true, false, List, [], ◌∷◌, All, AllPairs, IsTrue, filter, nat_lt, ◌==◌, ◌||◌, ◌&&◌}
use Rattle.std.proofs.Common.{ℕ, ◌≡◌, ◌≢◌, ◌<◌, ◌≤◌, ◌⊎◌, inl, inr, arith, refl, sym, ap, ◌∙◌}
use Rattle.std.proofs.lemmas.Bool.Decides.{nat_tests}
use Rattle.std.proofs.lemmas.List.Elements.{All-filter}
use Rattle.std.proofs.lemmas.Bool.{cases_Bool}
use Rattle.link_order.specs.declared.sent.Sent.{Sent}
use Rattle.link_order.specs.Order.{is_before, place, place_sent, clock_of, sender_of, IsOrdered, IsSorted}
use Rattle.link_order.proofs.Lists.{all_nil, all_cons, all_head, all_tail, all_map, pairs_cons, pairs_head}
use Rattle.link_order.proofs.Lists.{pairs_tail, pairs_map, filter_keeps, filter_drops}

-- the order of two pairs of numbers
abbrev less : ℕ → ℕ → ℕ → ℕ → Bool
less a b c d = nat_lt a c || ((a == c) && nat_lt b d)

less_true : (a b c d : ℕ) → less a b c d ≡ true → (a < c) ⊎ ((a ≡ c) × (b < d))
less_true a b c d e = grind (arith, nat_tests)

less_false : (a b c d : ℕ) → less a b c d ≡ false → (c < a) ⊎ ((a ≡ c) × (d ≤ b))
less_false a b c d e = grind (arith, nat_tests)

less_from : (a b c d : ℕ) → (a < c) ⊎ ((a ≡ c) × (b < d)) → less a b c d ≡ true
less_from a b c d h = grind (arith, nat_tests)

less_trans : (a b c d e f : ℕ) → less a b c d ≡ true → less c d e f ≡ true → less a b e f ≡ true
less_trans a b c d e f h k = let x = less_true a b c d h in let y = less_true c d e f k in
    less_from a b e f (grind arith)

less_other : (a b c d : ℕ) → (a ≢ c) ⊎ (b ≢ d) → less a b c d ≡ false → less c d a b ≡ true
less_other a b c d apart e = let x = less_false a b c d e in less_from c d a b (grind arith)

less_not : (a b c d : ℕ) → less a b c d ≡ true → less c d a b ≡ false
less_not a b c d e = let x = less_true a b c d e in grind (arith, nat_tests)

-- what comes first, and what doesn't
less_past : (a b c d e f : ℕ) → less a b e f ≡ true → less c d e f ≡ false → less c d a b ≡ false
less_past a b c d e f h k = let x = less_true a b e f h in let y = less_false c d e f k in grind (arith, nat_tests)

-- two elements with different numbers
abbrev pub Apart : {X : Type 0} → (X → ℕ) → (X → ℕ) → X → X → Type 0
Apart f s x y = (f x ≢ f y) ⊎ (s x ≢ s y)

abbrev pub Comes : {X : Type 0} → (X → ℕ) → (X → ℕ) → X → X → Type 0
Comes f s x y = IsTrue (is_before f s x y)

pub place_before : {X : Type 0} (f s : X → ℕ) (x y : X) (ys : List X) → is_before f s x y ≡ true
    → place f s x (y ∷ ys) ≡ x ∷ y ∷ ys
place_before f s x y ys e = rw e refl

pub place_past : {X : Type 0} (f s : X → ℕ) (x y : X) (ys : List X) → is_before f s x y ≡ false
    → place f s x (y ∷ ys) ≡ y ∷ place f s x ys
place_past f s x y ys e = rw e refl

pub All-place : {X : Type 0} (f s : X → ℕ) (P : X → Type 0) (x : X) (xs : List X) → P x → All P xs
    → All P (place f s x xs)
All-place f s P x [] here rest = all_cons P x [] here rest
All-place f s P x (y ∷ ys) here rest =
    elim (cases_Bool (is_before f s x y)) [
      | inl e ↦ rw (place_before f s x y ys e) (all_cons P x (y ∷ ys) here rest)
      | inr e ↦ rw (place_past f s x y ys e)
          (all_cons P y (place f s x ys) (all_head P y ys rest) (All-place f s P x ys here (all_tail P y ys rest)))
    ]

comes_all : {X : Type 0} (f s : X → ℕ) (x y : X) (ys : List X) → Comes f s x y → All (Comes f s y) ys
    → All (Comes f s x) ys
comes_all f s x y ys e h = all_map (Comes f s y) (Comes f s x) ys
    (λ z k. less_trans (f x) (s x) (f y) (s y) (f z) (s z) e k) h

pub AllPairs-place : {X : Type 0} (f s : X → ℕ) (x : X) (xs : List X) → All (Apart f s x) xs → AllPairs (Comes f s) xs
    → AllPairs (Comes f s) (place f s x xs)
AllPairs-place f s x [] apart h = pairs_cons (Comes f s) x [] (all_nil (Comes f s x)) h
AllPairs-place f s x (y ∷ ys) apart h =
    elim (cases_Bool (is_before f s x y)) [
      | inl e ↦ rw (place_before f s x y ys e)
          (pairs_cons (Comes f s) x (y ∷ ys)
          (all_cons (Comes f s x) y ys e (comes_all f s x y ys e (pairs_head (Comes f s) y ys h))) h)
      | inr e ↦
          let other : Comes f s y x = less_other (f x) (s x) (f y) (s y) (all_head (Apart f s x) y ys apart) e in
          rw (place_past f s x y ys e)
          (pairs_cons (Comes f s) y (place f s x ys)
          (All-place f s (Comes f s y) x ys other (pairs_head (Comes f s) y ys h))
          (AllPairs-place f s x ys (all_tail (Apart f s x) y ys apart) (pairs_tail (Comes f s) y ys h)))
    ]

-- an element that comes before all others stands first
place_front : {X : Type 0} (f s : X → ℕ) (x : X) (xs : List X) → All (Comes f s x) xs → place f s x xs ≡ x ∷ xs
place_front f s x [] h = refl
place_front f s x (y ∷ ys) h = place_before f s x y ys (all_head (Comes f s x) y ys h)

-- elements that are dropped don't change the places of the others
pub filter-place : {X : Type 0} (f s : X → ℕ) (p : X → Bool) (x : X) (xs : List X) → AllPairs (Comes f s) xs
    → p x ≡ true
    → filter p (place f s x xs) ≡ place f s x (filter p xs)
filter-place f s p x [] h keeps = filter_keeps p x [] keeps
filter-place f s p x (y ∷ ys) h keeps =
    elim (cases_Bool (is_before f s x y)) [
      | inl e ↦
          let firsts = all_cons (Comes f s x) y ys e (comes_all f s x y ys e (pairs_head (Comes f s) y ys h)) in
          ap (filter p) (place_before f s x y ys e) ∙ filter_keeps p x (y ∷ ys) keeps
          ∙ sym (place_front f s x (filter p (y ∷ ys)) (All-filter p (Comes f s x) (y ∷ ys) firsts))
      | inr e ↦
          let ih = filter-place f s p x ys (pairs_tail (Comes f s) y ys h) keeps in
          ap (filter p) (place_past f s x y ys e)
          ∙ elim (cases_Bool (p y)) [
            | inl k ↦ filter_keeps p y (place f s x ys) k ∙ ap (λ (t : List _). y ∷ t) ih
                ∙ sym (place_past f s x y (filter p ys) e)
                ∙ ap (place f s x) (sym (filter_keeps p y ys k))
            | inr k ↦ filter_drops p y (place f s x ys) k ∙ ih ∙ ap (place f s x) (sym (filter_drops p y ys k))
          ]
    ]

pub filter-place_dropped : {X : Type 0} (f s : X → ℕ) (p : X → Bool) (x : X) (xs : List X) → p x ≡ false
    → filter p (place f s x xs) ≡ filter p xs
filter-place_dropped f s p x [] drops = filter_drops p x [] drops
filter-place_dropped f s p x (y ∷ ys) drops =
    elim (cases_Bool (is_before f s x y)) [
      | inl e ↦ ap (filter p) (place_before f s x y ys e) ∙ filter_drops p x (y ∷ ys) drops
      | inr e ↦
          let ih = filter-place_dropped f s p x ys drops in
          ap (filter p) (place_past f s x y ys e)
          ∙ elim (cases_Bool (p y)) [
            | inl k ↦ filter_keeps p y (place f s x ys) k ∙ ap (λ (t : List _). y ∷ t) ih ∙ sym (filter_keeps p y ys k)
            | inr k ↦ filter_drops p y (place f s x ys) k ∙ ih ∙ sym (filter_drops p y ys k)
          ]
    ]

-- two elements with different numbers may be placed in either order
pub place_commutes : {X : Type 0} (f s : X → ℕ) (x y : X) (zs : List X) → Apart f s x y
    → place f s x (place f s y zs) ≡ place f s y (place f s x zs)
place_commutes f s x y [] apart =
    elim (cases_Bool (is_before f s x y)) [
      | inl e ↦ place_before f s x y [] e ∙ sym (place_past f s y x [] (less_not (f x) (s x) (f y) (s y) e))
      | inr e ↦ place_past f s x y [] e ∙ sym (place_before f s y x [] (less_other (f x) (s x) (f y) (s y) apart e))
    ]
place_commutes f s x y (z ∷ zs) apart =
    elim (cases_Bool (is_before f s x z)) [
      | inl xz ↦ elim (cases_Bool (is_before f s y z)) [
        | inl yz ↦ elim (cases_Bool (is_before f s x y)) [
          | inl xy ↦
              ap (place f s x) (place_before f s y z zs yz) ∙ place_before f s x y (z ∷ zs) xy
              ∙ sym (ap (place f s y) (place_before f s x z zs xz)
              ∙ place_past f s y x (z ∷ zs) (less_not (f x) (s x) (f y) (s y) xy)
              ∙ ap (λ (t : List _). x ∷ t) (place_before f s y z zs yz))
          | inr xy ↦
              ap (place f s x) (place_before f s y z zs yz) ∙ place_past f s x y (z ∷ zs) xy
              ∙ ap (λ (t : List _). y ∷ t) (place_before f s x z zs xz)
              ∙ sym (ap (place f s y) (place_before f s x z zs xz)
              ∙ place_before f s y x (z ∷ zs) (less_other (f x) (s x) (f y) (s y) apart xy))
        ]
        | inr yz ↦
            ap (place f s x) (place_past f s y z zs yz) ∙ place_before f s x z (place f s y zs) xz
            ∙ sym (ap (place f s y) (place_before f s x z zs xz)
            ∙ place_past f s y x (z ∷ zs) (less_past (f x) (s x) (f y) (s y) (f z) (s z) xz yz)
            ∙ ap (λ (t : List _). x ∷ t) (place_past f s y z zs yz))
      ]
      | inr xz ↦ elim (cases_Bool (is_before f s y z)) [
        | inl yz ↦
            ap (place f s x) (place_before f s y z zs yz)
            ∙ place_past f s x y (z ∷ zs) (less_past (f y) (s y) (f x) (s x) (f z) (s z) yz xz)
            ∙ ap (λ (t : List _). y ∷ t) (place_past f s x z zs xz)
            ∙ sym (ap (place f s y) (place_past f s x z zs xz) ∙ place_before f s y z (place f s x zs) yz)
        | inr yz ↦
            ap (place f s x) (place_past f s y z zs yz) ∙ place_past f s x z (place f s y zs) xz
            ∙ ap (λ (t : List _). z ∷ t) (place_commutes f s x y zs apart)
            ∙ sym (ap (place f s y) (place_past f s x z zs xz) ∙ place_past f s y z (place f s x zs) yz)
      ]
    ]

-- lists that are ordered but for equal elements
pub sorted_from_ordered : (xs : List Sent) → IsOrdered xs → IsSorted xs
sorted_from_ordered xs h = pairs_map (λ (a b : Sent). is_before clock_of sender_of a b
    ≡ true) (λ (a b : Sent). is_before clock_of sender_of b a ≡ false) xs
    (λ a b e. less_not (clock_of a) (sender_of a) (clock_of b) (sender_of b) e) h

not_past : (a b c d e f : ℕ) → less a b c d ≡ true → less e f c d ≡ false → less e f a b ≡ false
not_past a b c d e f h k = let x = less_true a b c d h in let y = less_false e f c d k in grind (arith, nat_tests)

pub sorted-place : (x : Sent) (xs : List Sent) → IsSorted xs → IsSorted (place_sent x xs)
sorted-place x [] h = pairs_cons (λ (a b : Sent). is_before clock_of sender_of b a
    ≡ false) x [] (all_nil (λ (b : Sent). is_before clock_of sender_of b x ≡ false)) h
sorted-place x (y ∷ ys) h =
    let R : Sent → Sent → Type 0 = λ (a b : Sent). is_before clock_of sender_of b a ≡ false in
    let later = pairs_head R y ys h in
    elim (cases_Bool (is_before clock_of sender_of x y)) [
      | inl e ↦ rw (place_before clock_of sender_of x y ys e)
          (pairs_cons R x (y ∷ ys)
          (all_cons (R x) y ys (less_not (clock_of x) (sender_of x) (clock_of y) (sender_of y) e)
          (all_map (R y) (R x) ys (λ z k. not_past (clock_of x) (sender_of x) (clock_of y) (sender_of y) (clock_of z)
          (sender_of z) e k) later)) h)
      | inr e ↦ rw (place_past clock_of sender_of x y ys e)
          (pairs_cons R y (place_sent x ys) (All-place clock_of sender_of (R y) x ys e later)
          (sorted-place x ys (pairs_tail R y ys h)))
    ]
