-- What the code reads, as the definitions say it.
use Rattle.std.specs.Prelude.{Bool, true, false, List, [], ◌∷◌, ◌++◌, length, map, insert}
use Rattle.std.proofs.Common.{ℕ, zero, suc, ◌≡◌, ◌≢◌, ◌+◌, ◌<◌, ◌≤◌, ◌⊎◌, inl, inr, arith, refl, sym, ap, ◌∙◌, get_or}
use Rattle.std.specs.List.{insert}
use Rattle.link_order.specs.Order.{is_before, place}
use Rattle.link_node.specs.declared.signal.Incoming.{Incoming}
use Rattle.link_order.specs.declared.sent.Sent.{Sent}
use Rattle.link_order.specs.Order.{from}
use Rattle.std.specs.Prelude.{None, Some, slice_get}
use Rattle.std.proofs.lemmas.Bool.{cases_Bool}
use Rattle.link_node.specs.declared.signal.LinkMode.TheVariants.{Normal8}
use Rattle.link_order.specs.Due.{is_due, incoming, place_due, due}
use Rattle.link_order.proofs.Numbers.{same_or_apart}
use Rattle.link_order.proofs.Places.{place_before, place_past}
use Rattle.link_order.proofs.DueSignals.{due_takes, due_leaves, due_own, due_other}

-- the place where an element is put
pub insert-place : {X : Type 0} (f s : X → ℕ) (x : X) (xs : List X) (i : ℕ) → i ≤ length xs
    → ((k : ℕ) (d : X) → k < i → is_before f s x (get_or xs k d) ≡ false)
    → (i ≡ length xs) ⊎ ((e : X) × (is_before f s x (get_or xs i e) ≡ true)) → insert xs i x ≡ place f s x xs
insert-place f s x [] zero within past here = refl
insert-place f s x [] (suc i) within past here = absurd (omega arith)
insert-place f s x (y ∷ ys) zero within past here =
    elim here [ inl none ↦ absurd (omega arith) | inr e ↦ sym (place_before f s x y ys e.1) ]
insert-place f s x (y ∷ ys) (suc i) within past here =
    ap (λ (t : List _). y ∷ t)
    (insert-place f s x ys i (omega arith) (λ k d less. past (suc k) d (omega arith))
    (elim here [ inl e ↦ inl (omega arith) | inr e ↦ inr e ]))
    ∙ sym (place_past f s x y ys (past 0 x (omega arith)))

-- a number of one node of a list
pub read-node : {N C : Type 0} (plain : N → C) (value : C → ℕ) (xs : List N) (i : ℕ) (d : N) → i < length xs
    → get_or (map value (map plain xs)) i 0 ≡ value (plain (get_or xs i d))
read-node plain value [] i d below = absurd (omega arith)
read-node plain value (x ∷ xs) zero d below = refl
read-node plain value (x ∷ xs) (suc i) d below = read-node plain value xs i d (omega arith)

-- the due signals of a list with one more sent signal
pub due_gathers : (between : ℕ → ℕ → ℕ) (xs ys : List Sent) (one : Sent)
    (i was clock n : ℕ) (old new : List Incoming)
    → ys ≡ xs ++ one ∷ [] → one.sender < n → old ≡ due between (λ j. from j xs) i was clock n
    → (one.sender ≢ i → is_due was clock (one.signal.clock + between one.sender i) ≡ true
    → new ≡ place_due (incoming (between one.sender i) one.sender one.signal) old)
    → ((one.sender ≡ i) ⊎ (is_due was clock (one.signal.clock + between one.sender i) ≡ false) → new ≡ old)
    → new ≡ due between (λ j. from j ys) i was clock n
due_gathers between xs ys one i was clock n old new more below was_due takes leaves =
    let whole = ap (λ (t : List Sent). due between (λ j. from j t) i was clock n) (sym more) in
    let passes : ℕ → Bool = is_due was clock in
    elim (same_or_apart one.sender i) [
      | inl own ↦ leaves (inl own) ∙ was_due ∙ sym (due_leaves between xs one i passes n (inl own)) ∙ whole
      | inr apart ↦ elim (cases_Bool (passes (one.signal.clock + between one.sender i))) [
        | inl e ↦ takes apart e ∙ ap (place_due (incoming (between one.sender i) one.sender one.signal)) was_due
            ∙ sym (due_takes between xs one i passes n below apart e) ∙ whole
        | inr e ↦ leaves (inr e) ∙ was_due ∙ sym (due_leaves between xs one i passes n (inr e)) ∙ whole
      ]
    ]

-- of no signals nothing is due
pub due_of_none : (between : ℕ → ℕ → ℕ) (i was clock n : ℕ) → due between (λ j. from j []) i was clock n ≡ []
due_of_none between i was clock zero = refl
due_of_none between i was clock (suc j) =
    let passes : ℕ → Bool = is_due was clock in
    elim (same_or_apart j i) [
      | inl e ↦
          let own : due between (λ k. from k []) i was clock (suc j) ≡ due between (λ k. from k []) i was clock j =
          rw e (due_own between (λ k. from k []) i passes) in
          own ∙ due_of_none between i was clock j
      | inr e ↦ due_other between (λ k. from k []) i passes j e ∙ due_of_none between i was clock j
    ]

-- what a list of sent signals reads as past its end
abbrev pub no_signal : Sent
no_signal = record { sender = 0; signal = record { clock = 0; mode = Normal8; start = None; reply = None } }

pub read-bound : {N : Type 0} (bound : N → ℕ) (xs : List N) (i : ℕ) (d : N) → i < length xs
    → get_or (map bound xs) i 0 ≡ bound (get_or xs i d)
read-bound bound [] i d below = absurd (omega arith)
read-bound bound (x ∷ xs) zero d below = refl
read-bound bound (x ∷ xs) (suc i) d below = read-bound bound xs i d (omega arith)

-- the record of one node of a list
pub read-record : {N C : Type 0} (plain : N → C) (xs : List N) (i : ℕ) (d : N) (x : C)
    → slice_get (map plain xs) i ≡ Some x → plain (get_or xs i d) ≡ x
read-record plain [] zero d x e = let f : None ≡ Some x = e in cc
read-record plain [] (suc i) d x e = let f : None ≡ Some x = e in cc
read-record plain (y ∷ ys) zero d x e = let f : Some (plain y) ≡ Some x = e in cc
read-record plain (y ∷ ys) (suc i) d x e = read-record plain ys i d x e
