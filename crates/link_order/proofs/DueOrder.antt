-- What is due stands in order, and each of it may be taken.
use Rattle.std.specs.Prelude.{Bool, true, false, List, [], ◌∷◌, All, AllPairs, filter}
use Rattle.std.proofs.Common.{ℕ, zero, suc, ◌≡◌, ◌≢◌, ◌+◌, ◌<◌, ◌≤◌, inl, inr, arith, refl, sym, ap, ◌∙◌, subst, get_or}
use Rattle.std.proofs.lemmas.Bool.Decides.{nat_tests}
use Rattle.std.proofs.lemmas.Bool.{cases_Bool}
use Rattle.link_node.specs.declared.signal.Incoming.{Incoming}
use Rattle.link_node.specs.declared.signal.Signal.{Signal}
use Rattle.link_node.specs.Due.{IsDue, InOrder, Precedes}
use Rattle.link_order.specs.declared.sent.Sent.{Sent}
use Rattle.link_order.specs.Order.{is_before, from, IsOrdered, clock_of, sender_of}
use Rattle.link_order.specs.Due.{is_due, incoming, arriving, arrival_of, player_of, place_due, place_all, arrivals, due}
use Rattle.link_order.proofs.Numbers.{same_or_apart}
use Rattle.link_order.proofs.Lists.{all_nil, all_cons, all_head, all_tail, all_map, pairs_nil, pairs_cons}
use Rattle.link_order.proofs.Lists.{pairs_head, pairs_tail, pairs_map, filter_keeps, filter_drops}
use Rattle.link_order.proofs.Places.{Apart, Comes, All-place, AllPairs-place}
use Rattle.link_order.proofs.Senders.{from_own, from_other}
use Rattle.link_order.proofs.DueSignals.{arriving_due, arriving_not, due_own, due_other, due_same}

-- what a step may take, as a fact
pub due_facts : (was clock arrival : ℕ) → is_due was clock arrival ≡ true → (was < arrival) × (arrival ≤ clock)
due_facts was clock arrival e = grind (arith, nat_tests)

pub due_from_facts : (was clock arrival : ℕ) → was < arrival → arrival ≤ clock → is_due was clock arrival ≡ true
due_from_facts was clock arrival h k = grind (arith, nat_tests)

pub arriving_all : (P : Incoming → Type 0) (passes : ℕ → Bool) (delay j : ℕ) (xs : List Signal)
    → All (λ (s : Signal). passes (s.clock + delay) ≡ true → P (incoming delay j s)) xs
    → All P (arriving passes delay j xs)
arriving_all P passes delay j [] h = all_nil P
arriving_all P passes delay j (x ∷ xs) h =
    let Q : Signal → Type 0 = λ (s : Signal). passes (s.clock + delay) ≡ true → P (incoming delay j s) in
    let ih = arriving_all P passes delay j xs (all_tail Q x xs h) in
    elim (cases_Bool (passes (x.clock + delay))) [
      | inl e ↦ rw (arriving_due passes delay j x xs e)
          (all_cons P (incoming delay j x) (arriving passes delay j xs) (all_head Q x xs h e) ih)
      | inr e ↦ rw (arriving_not passes delay j x xs e) ih
    ]

pub from_all : (P : Signal → Type 0) (j : ℕ) (xs : List Sent) → All (λ (one : Sent). one.sender ≡ j → P one.signal) xs
    → All P (from j xs)
from_all P j [] h = all_nil P
from_all P j (x ∷ xs) h =
    let Q : Sent → Type 0 = λ (one : Sent). one.sender ≡ j → P one.signal in
    let ih = from_all P j xs (all_tail Q x xs h) in
    elim (same_or_apart x.sender j) [
      | inl e ↦ rw (from_own j x xs e) (all_cons P x.signal (from j xs) (all_head Q x xs h e) ih)
      | inr e ↦ rw (from_other j x xs e) ih
    ]

pub place_all_all : (P : Incoming → Type 0) (xs ys : List Incoming) → All P xs → All P ys → All P (place_all xs ys)
place_all_all P [] ys h k = k
place_all_all P (x ∷ xs) ys h k =
    place_all_all P xs (place_due x ys) (all_tail P x xs h)
    (All-place arrival_of player_of P x ys (all_head P x xs h) k)

pub due_all : (P : Incoming → Type 0) (between : ℕ → ℕ → ℕ) (known : ℕ → List Signal) (i : ℕ) (passes : ℕ
    → Bool) (n : ℕ)
    → ((j : ℕ) → j < n → j ≢ i → All P (arriving passes (between j i) j (known j)))
    → All P (arrivals between known i passes n)
due_all P between known i passes zero h = all_nil P
due_all P between known i passes (suc j) h =
    let ih = due_all P between known i passes j (λ k below apart. h k (omega arith) apart) in
    elim (same_or_apart j i) [
      | inl e ↦
          let own : arrivals between known i passes (suc j) ≡ arrivals between known i passes j =
          rw e (due_own between known i passes) in
          rw own ih
      | inr e ↦ rw (due_other between known i passes j e)
          (place_all_all P (arriving passes (between j i) j (known j)) (arrivals between known i passes j)
          (h j (omega arith) e) ih)
    ]

-- a step may take what is due to it
pub due_is_due : (between : ℕ → ℕ → ℕ) (known : ℕ → List Signal) (i was clock n : ℕ) → n ≤ 4
    → ((j : ℕ) → j < n → j ≢ i → 0 < between j i) → All (IsDue was clock) (due between known i was clock n)
due_is_due between known i was clock n few later =
    due_all (IsDue was clock) between known i (is_due was clock) n (λ j below apart.
    arriving_all (IsDue was clock) (is_due was clock) (between j i) j (known j) (λ k d less e.
    let some = later j below apart in
    let s : Signal = get_or (known j) k d in
    let f = due_facts was clock (s.clock + between j i) e in
    record { after_last = f.0; by_now = f.1; from_player = omega arith; in_flight = omega arith }))

pub place_all_ordered : (xs ys : List Incoming) → AllPairs (Apart arrival_of player_of) xs
    → All (λ y. All (λ x. Apart arrival_of player_of x y) xs) ys
    → AllPairs (Comes arrival_of player_of) ys → AllPairs (Comes arrival_of player_of) (place_all xs ys)
place_all_ordered [] ys apart others ordered = ordered
place_all_ordered (x ∷ xs) ys apart others ordered =
    let R : Incoming → Incoming → Type 0 = Apart arrival_of player_of in
    let from_x : All (R x) ys = all_map (λ y. All (λ z. R z y) (x ∷ xs)) (R x) ys (λ y h. all_head (λ z. R z y) x xs h)
    others in
    let rest : All (λ y. All (λ z. R z y) xs) ys =
    all_map (λ y. All (λ z. R z y) (x ∷ xs)) (λ y. All (λ z. R z y) xs) ys (λ y h. all_tail (λ z. R z y) x xs h)
    others in
    let of_x : All (λ z. R z x) xs = all_map (R x) (λ z. R z x) xs
    (λ z h. elim h [ inl p ↦ inl (λ e. p (sym e)) | inr q ↦ inr (λ e. q (sym e)) ]) (pairs_head R x xs apart) in
    place_all_ordered xs (place_due x ys) (pairs_tail R x xs apart)
    (All-place arrival_of player_of (λ y. All (λ z. R z y) xs) x ys of_x rest)
    (AllPairs-place arrival_of player_of x ys from_x ordered)

pub arriving_apart : (passes : ℕ → Bool) (delay j : ℕ) (xs : List Signal)
    → AllPairs (λ (a b : Signal). a.clock < b.clock) xs
    → AllPairs (Apart arrival_of player_of) (arriving passes delay j xs)
arriving_apart passes delay j [] h = pairs_nil (Apart arrival_of player_of)
arriving_apart passes delay j (x ∷ xs) h =
    let Less : Signal → Signal → Type 0 = λ (a b : Signal). a.clock < b.clock in
    let ih = arriving_apart passes delay j xs (pairs_tail Less x xs h) in
    elim (cases_Bool (passes (x.clock + delay))) [
      | inl e ↦ rw (arriving_due passes delay j x xs e)
          (pairs_cons (Apart arrival_of player_of) (incoming delay j x) (arriving passes delay j xs)
          (arriving_all (Apart arrival_of player_of (incoming delay j x)) passes delay j xs
          (λ k d below t. let less = pairs_head Less x xs h k d below in
          inl (λ same. absurd (omega (arith, less, same)))))
          ih)
      | inr e ↦ rw (arriving_not passes delay j x xs e) ih
    ]

-- the signals of one player and those of the players before it stand apart
pub others_apart : (between : ℕ → ℕ → ℕ) (known : ℕ → List Signal) (i : ℕ) (passes : ℕ → Bool) (j : ℕ)
    → All (λ y. All (λ x. Apart arrival_of player_of x y) (arriving passes (between j i) j (known j)))
    (arrivals between known i passes j)
others_apart between known i passes j =
    let own : List Incoming = arriving passes (between j i) j (known j) in
    due_all (λ y. All (λ x. Apart arrival_of player_of x y) own) between known i passes j
    (λ k below apart. arriving_all (λ y. All (λ x. Apart arrival_of player_of x y) own) passes (between k i) k (known k)
    (λ a d less t. arriving_all (λ x. Apart arrival_of player_of x (incoming (between k i) k (get_or (known k) a d)))
    passes (between j i) j (known j)
    (λ b d' less' t'. inr (λ same. absurd (omega (arith, same))))))

pub due_ordered : (between : ℕ → ℕ → ℕ) (known : ℕ → List Signal) (i : ℕ) (passes : ℕ → Bool) (n : ℕ)
    → ((j : ℕ) → AllPairs (λ (a b : Signal). a.clock < b.clock) (known j))
    → AllPairs (Comes arrival_of player_of) (arrivals between known i passes n)
due_ordered between known i passes zero rising = pairs_nil (Comes arrival_of player_of)
due_ordered between known i passes (suc j) rising =
    let ih = due_ordered between known i passes j rising in
    elim (same_or_apart j i) [
      | inl e ↦
          let own : arrivals between known i passes (suc j) ≡ arrivals between known i passes j =
          rw e (due_own between known i passes) in
          rw own ih
      | inr e ↦ rw (due_other between known i passes j e)
          (place_all_ordered (arriving passes (between j i) j (known j)) (arrivals between known i passes j)
          (arriving_apart passes (between j i) j (known j) (rising j)) (others_apart between known i passes j) ih)
    ]

pub comes_precedes : (a b : Incoming) → is_before arrival_of player_of a b ≡ true → Precedes a b
comes_precedes a b e = grind (arith, nat_tests)

-- the signals of one player rise
pub from_rises : (j : ℕ) (xs : List Sent) → IsOrdered xs → AllPairs (λ (a b : Signal). a.clock < b.clock) (from j xs)
from_rises j [] h = pairs_nil (λ (a b : Signal). a.clock < b.clock)
from_rises j (x ∷ xs) h =
    let ih = from_rises j xs (pairs_tail (Comes clock_of sender_of) x xs h) in
    elim (same_or_apart x.sender j) [
      | inl e ↦ rw (from_own j x xs e) (pairs_cons (λ (a b : Signal). a.clock < b.clock) x.signal (from j xs)
          (from_all (λ (s : Signal). x.signal.clock < s.clock) j xs
          (λ k d below own. rises_own x (get_or xs k d) (pairs_head (Comes clock_of sender_of) x xs h k d below) (e
          ∙ sym own))) ih)
      | inr e ↦ rw (from_other j x xs e) ih
    ]
  where
    rises_own : (a b : Sent) → is_before clock_of sender_of a b ≡ true → a.sender ≡ b.sender
        → a.signal.clock < b.signal.clock
    rises_own a b e same = grind (arith, nat_tests)

-- what is due of ordered signals stands by arrival, then by sender
pub due_in_order : (between : ℕ → ℕ → ℕ) (xs : List Sent) (i : ℕ) (passes : ℕ → Bool) (n : ℕ) → IsOrdered xs
    → InOrder (arrivals between (λ j. from j xs) i passes n)
due_in_order between xs i passes n h =
    pairs_map (Comes arrival_of player_of) Precedes (arrivals between (λ j. from j xs) i passes n) comes_precedes
    (due_ordered between (λ j. from j xs) i passes n (λ j. from_rises j xs h))

pub arriving_filter : (p : Sent → Bool) (passes : ℕ → Bool) (delay j : ℕ) (xs : List Sent)
    → ((one : Sent) → one.sender ≡ j → passes (one.signal.clock + delay) ≡ true → p one ≡ true)
    → arriving passes delay j (from j (filter p xs)) ≡ arriving passes delay j (from j xs)
arriving_filter p passes delay j [] keeps = refl
arriving_filter p passes delay j (x ∷ xs) keeps =
    let ih = arriving_filter p passes delay j xs keeps in
    elim (cases_Bool (p x)) [
      | inl k ↦ ap (λ (t : List Sent). arriving passes delay j (from j t)) (filter_keeps p x xs k)
          ∙ elim (same_or_apart x.sender j) [
            | inl e ↦ ap (arriving passes delay j) (from_own j x (filter p xs) e)
                ∙ elim (cases_Bool (passes (x.signal.clock + delay))) [
                  | inl d ↦ arriving_due passes delay j x.signal (from j (filter p xs)) d
                      ∙ ap (λ (t : List Incoming). incoming delay j x.signal ∷ t) ih
                      ∙ sym (arriving_due passes delay j x.signal (from j xs) d)
                  | inr d ↦ arriving_not passes delay j x.signal (from j (filter p xs)) d ∙ ih
                      ∙ sym (arriving_not passes delay j x.signal (from j xs) d)
                ]
                ∙ sym (ap (arriving passes delay j) (from_own j x xs e))
            | inr e ↦ ap (arriving passes delay j) (from_other j x (filter p xs) e) ∙ ih
                ∙ sym (ap (arriving passes delay j) (from_other j x xs e))
          ]
      | inr k ↦ ap (λ (t : List Sent). arriving passes delay j (from j t)) (filter_drops p x xs k) ∙ ih
          ∙ elim (same_or_apart x.sender j) [
            | inl e ↦ elim (cases_Bool (passes (x.signal.clock + delay))) [
              | inl d ↦ let f : true ≡ false = sym (keeps x e d) ∙ k in cc
              | inr d ↦ sym (ap (arriving passes delay j) (from_own j x xs e)
                  ∙ arriving_not passes delay j x.signal (from j xs) d)
            ]
            | inr e ↦ sym (ap (arriving passes delay j) (from_other j x xs e))
          ]
    ]

-- signals that aren't due may be dropped
pub due_filter : (p : Sent → Bool) (between : ℕ → ℕ → ℕ) (xs : List Sent) (i : ℕ) (passes : ℕ → Bool) (n : ℕ)
    → ((one : Sent) → one.sender < n → one.sender ≢ i
    → passes (one.signal.clock + between one.sender i) ≡ true → p one ≡ true)
    → arrivals between (λ j. from j (filter p xs)) i passes n ≡ arrivals between (λ j. from j xs) i passes n
due_filter p between xs i passes n keeps =
    due_same between (λ j. from j (filter p xs)) (λ j. from j xs) i passes n (λ j below apart.
    arriving_filter p passes (between j i) j xs (λ one e d.
    keeps one (rw e below) (λ t. apart (sym e ∙ t))
    (subst (λ (m : ℕ). passes (one.signal.clock + between m i) ≡ true) (sym e) d)))
