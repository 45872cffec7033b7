-- Due signals: one more signal, signals that aren't due, and their order.
use Rattle.std.specs.Prelude.{Bool, true, false, List, [], ◌∷◌, ◌++◌, All, ◌==◌, if◌then◌else◌}
use Rattle.std.proofs.Common.{ℕ, zero, suc, ◌≡◌, ◌≢◌, ◌+◌, ◌<◌, ◌≤◌, ◌⊎◌, inl, inr, arith, refl, sym, ap, ◌∙◌, subst}
use Rattle.std.proofs.lemmas.Bool.Decides.{nat_tests}
use Rattle.std.proofs.lemmas.List.{append-nil}
use Rattle.std.proofs.lemmas.Bool.{cases_Bool}
use Rattle.link_node.specs.declared.signal.Incoming.{Incoming}
use Rattle.link_node.specs.declared.signal.Signal.{Signal}
use Rattle.link_order.specs.declared.sent.Sent.{Sent}
use Rattle.link_order.specs.Order.{from}
use Rattle.link_order.specs.Due.{incoming, arriving, arrival_of, player_of, place_due, place_all, arrivals}
use Rattle.link_order.proofs.Numbers.{same_or_apart}
use Rattle.link_order.proofs.Lists.{all_nil, all_cons, all_head, all_tail, all_map}
use Rattle.link_order.proofs.Places.{Apart, place_commutes}
use Rattle.link_order.proofs.Senders.{from_own, from_other, from-append}

pub arriving_due : (passes : ℕ → Bool) (delay j : ℕ) (s : Signal) (rest : List Signal) → passes (s.clock + delay) ≡ true
    → arriving passes delay j (s ∷ rest) ≡ incoming delay j s ∷ arriving passes delay j rest
arriving_due passes delay j s rest e = rw e refl

pub arriving_not : (passes : ℕ → Bool) (delay j : ℕ) (s : Signal) (rest : List Signal)
    → passes (s.clock + delay) ≡ false
    → arriving passes delay j (s ∷ rest) ≡ arriving passes delay j rest
arriving_not passes delay j s rest e = rw e refl

pub arriving-append : (passes : ℕ → Bool) (delay j : ℕ) (xs ys : List Signal)
    → arriving passes delay j (xs ++ ys) ≡ arriving passes delay j xs ++ arriving passes delay j ys
arriving-append passes delay j [] ys = refl
arriving-append passes delay j (x ∷ xs) ys =
    elim (cases_Bool (passes (x.clock + delay))) [
      | inl e ↦ arriving_due passes delay j x (xs ++ ys) e
          ∙ ap (λ (t : List Incoming). incoming delay j x ∷ t) (arriving-append passes delay j xs ys)
          ∙ sym (ap (λ (t : List Incoming). t ++ arriving passes delay j ys) (arriving_due passes delay j x xs e))
      | inr e ↦ arriving_not passes delay j x (xs ++ ys) e ∙ arriving-append passes delay j xs ys
          ∙ sym (ap (λ (t : List Incoming). t ++ arriving passes delay j ys) (arriving_not passes delay j x xs e))
    ]

-- signals that don't pass
pub arriving_none : (passes : ℕ → Bool) (delay j : ℕ) (xs : List Signal)
    → All (λ (s : Signal). passes (s.clock + delay) ≡ false) xs → arriving passes delay j xs ≡ []
arriving_none passes delay j [] none = refl
arriving_none passes delay j (x ∷ xs) none =
    let P : Signal → Type 0 = λ (s : Signal). passes (s.clock + delay) ≡ false in
    arriving_not passes delay j x xs (all_head P x xs none) ∙ arriving_none passes delay j xs (all_tail P x xs none)

pub place_all-push : (xs : List Incoming) (one : Incoming) (due : List Incoming)
    → place_all (xs ++ one ∷ []) due ≡ place_due one (place_all xs due)
place_all-push [] one due = refl
place_all-push (x ∷ xs) one due = place_all-push xs one (place_due x due)

-- a signal of another sender may be placed before or after them
pub place_all_commutes : (xs : List Incoming) (one : Incoming) (due : List Incoming)
    → All (λ x. Apart arrival_of player_of x one) xs
    → place_all xs (place_due one due) ≡ place_due one (place_all xs due)
place_all_commutes [] one due h = refl
place_all_commutes (x ∷ xs) one due h =
    ap (place_all xs) (place_commutes arrival_of player_of x one due
    (all_head (λ y. Apart arrival_of player_of y one) x xs h))
    ∙ place_all_commutes xs one (place_due x due) (all_tail (λ y. Apart arrival_of player_of y one) x xs h)

pub arriving_from : (passes : ℕ → Bool) (delay j : ℕ) (xs : List Signal)
    → All (λ (x : Incoming). x.sender ≡ j) (arriving passes delay j xs)
arriving_from passes delay j [] = all_nil (λ (x : Incoming). x.sender ≡ j)
arriving_from passes delay j (x ∷ xs) =
    elim (cases_Bool (passes (x.clock + delay))) [
      | inl e ↦ rw (arriving_due passes delay j x xs e)
          (all_cons (λ (y : Incoming). y.sender
          ≡ j) (incoming delay j x) (arriving passes delay j xs) refl (arriving_from passes delay j xs))
      | inr e ↦ rw (arriving_not passes delay j x xs e) (arriving_from passes delay j xs)
    ]

pub due_own : (between : ℕ → ℕ → ℕ) (known : ℕ → List Signal) (i : ℕ) (passes : ℕ → Bool)
    → arrivals between known i passes (suc i) ≡ arrivals between known i passes i
due_own between known i passes =
    let t : (i == i) ≡ true = grind (arith, nat_tests) in
    ap (λ b. if b then arrivals between known i passes i else place_all (arriving passes (between i i) i (known i))
    (arrivals between known i passes i)) t

pub due_other : (between : ℕ → ℕ → ℕ) (known : ℕ → List Signal) (i : ℕ) (passes : ℕ → Bool) (j : ℕ) → j ≢ i
    → arrivals between known i passes (suc j)
    ≡ place_all (arriving passes (between j i) j (known j)) (arrivals between known i passes j)
due_other between known i passes j apart =
    let t : (j == i) ≡ false = grind (arith, nat_tests) in
    ap (λ b. if b then arrivals between known i passes j else place_all (arriving passes (between j i) j (known j))
    (arrivals between known i passes j)) t

-- the due signals go by the windows of the other players alone
pub due_same : (between : ℕ → ℕ → ℕ) (known other : ℕ → List Signal) (i : ℕ) (passes : ℕ → Bool) (n : ℕ)
    → ((j : ℕ) → j < n → j ≢ i → arriving passes (between j i) j (known j)
    ≡ arriving passes (between j i) j (other j))
    → arrivals between known i passes n ≡ arrivals between other i passes n
due_same between known other i passes zero h = refl
due_same between known other i passes (suc j) h =
    let ih = due_same between known other i passes j (λ k below apart. h k (omega arith) apart) in
    elim (same_or_apart j i) [
      | inl e ↦
          let cycles_left : arrivals between known i passes (suc j) ≡ arrivals between known i passes j =
          rw e (due_own between known i passes) in
          let right : arrivals between other i passes (suc j) ≡ arrivals between other i passes j =
          rw e (due_own between other i passes) in
          cycles_left ∙ ih ∙ sym right
      | inr e ↦
          due_other between known i passes j e
          ∙ ap (λ (t : List Incoming). place_all t (arrivals between known i passes j)) (h j (omega arith) e)
          ∙ ap (place_all (arriving passes (between j i) j (other j))) ih
          ∙ sym (due_other between other i passes j e)
    ]

-- the signals of each player, with one more at the end of one player's list
abbrev pub more : (ℕ → List Signal) → ℕ → Signal → ℕ → List Signal
more known k s j = if j == k then known j ++ s ∷ [] else known j

pub more_same : (known : ℕ → List Signal) (k : ℕ) (s : Signal) → more known k s k ≡ known k ++ s ∷ []
more_same known k s = let t : (k == k) ≡ true = grind (arith, nat_tests) in
    ap (λ b. if b then known k ++ s ∷ [] else known k) t

pub more_other : (known : ℕ → List Signal) (k : ℕ) (s : Signal) (j : ℕ) → j ≢ k → more known k s j ≡ known j
more_other known k s j apart = let t : (j == k) ≡ false = grind (arith, nat_tests) in
    ap (λ b. if b then known j ++ s ∷ [] else known j) t

pub due_more_past : (between : ℕ → ℕ → ℕ) (known : ℕ → List Signal) (i : ℕ) (passes : ℕ
    → Bool) (k : ℕ) (s : Signal) (n : ℕ) → n ≤ k
    → arrivals between (more known k s) i passes n ≡ arrivals between known i passes n
due_more_past between known i passes k s n past =
    due_same between (more known k s) known i passes n
    (λ j below apart. ap (arriving passes (between j i) j) (more_other known k s j (omega arith)))

pub due_more : (between : ℕ → ℕ → ℕ) (known : ℕ → List Signal) (i : ℕ) (passes : ℕ → Bool) (k : ℕ) (s : Signal) (n : ℕ)
    → k < n → k ≢ i
    → passes (s.clock + between k i) ≡ true
    → arrivals between (more known k s) i passes n
    ≡ place_due (incoming (between k i) k s) (arrivals between known i passes n)
due_more between known i passes k s zero below apart is = absurd (omega arith)
due_more between known i passes k s (suc j) below apart is =
    let one : Incoming = incoming (between k i) k s in
    elim (same_or_apart j k) [
      | inl e ↦
          let aj : j ≢ i = λ t. apart (sym e ∙ t) in
          let window : arriving passes (between j i) j (more known k s j)
          ≡ arriving passes (between j i) j (known j) ++ one ∷ []
          = subst (λ (m : ℕ). arriving passes (between m i) m (more known k s m)
          ≡ arriving passes (between m i) m (known m) ++ one ∷ []) (sym e)
          (ap (arriving passes (between k i) k) (more_same known k s)
          ∙ arriving-append passes (between k i) k (known k) (s ∷ [])
          ∙ ap (λ (t : List Incoming). arriving passes (between k i) k (known k)
          ++ t) (arriving_due passes (between k i) k s [] is)) in
          due_other between (more known k s) i passes j aj
          ∙ ap (place_all (arriving passes (between j i) j (more known k s j)))
          (due_more_past between known i passes k s j (omega arith))
          ∙ ap (λ (t : List Incoming). place_all t (arrivals between known i passes j)) window
          ∙ place_all-push (arriving passes (between j i) j (known j)) one (arrivals between known i passes j)
          ∙ ap (place_due one) (sym (due_other between known i passes j aj))
      | inr e ↦
          let ih = due_more between known i passes k s j (omega arith) apart is in
          elim (same_or_apart j i) [
            | inl own ↦
                let cycles_left : arrivals between (more known k s) i passes (suc j)
                ≡ arrivals between (more known k s) i passes j
                = rw own (due_own between (more known k s) i passes) in
                let right : arrivals between known i passes (suc j) ≡ arrivals between known i passes j =
                rw own (due_own between known i passes) in
                cycles_left ∙ ih ∙ ap (place_due one) (sym right)
            | inr other ↦
                let apart_all : All (λ (x : Incoming). Apart arrival_of player_of x one)
                (arriving passes (between j i) j (known j))
                = all_map (λ (x : Incoming). x.sender
                ≡ j) (λ (x : Incoming). Apart arrival_of player_of x one)
                (arriving passes (between j i) j (known j))
                (λ x is_j. inr (λ t. e (sym is_j ∙ t))) (arriving_from passes (between j i) j (known j)) in
                due_other between (more known k s) i passes j other
                ∙ ap (λ (t : List Signal). place_all (arriving passes (between j i) j t)
                (arrivals between (more known k s) i passes j)) (more_other known k s j e)
                ∙ ap (place_all (arriving passes (between j i) j (known j))) ih
                ∙ place_all_commutes (arriving passes (between j i) j (known j)) one
                (arrivals between known i passes j) apart_all
                ∙ ap (place_due one) (sym (due_other between known i passes j other))
          ]
    ]

-- a list of sent signals, with one more at its end
from_more : (xs : List Sent) (one : Sent)
    → (λ (j : ℕ). from j (xs ++ one ∷ [])) ≡ more (λ j. from j xs) one.sender one.signal
from_more xs one =
    let each : (j : ℕ) → from j (xs ++ one ∷ []) ≡ more (λ k. from k xs) one.sender one.signal j
    = λ j. from-append j xs (one ∷ []) ∙ elim (same_or_apart one.sender j) [
      | inl e ↦ ap (λ (t : List Signal). from j xs ++ t) (from_own j one [] e)
          ∙ subst (λ (m : ℕ). from m xs ++ one.signal ∷ []
          ≡ more (λ k. from k xs) one.sender one.signal m) e
          (sym (more_same (λ k. from k xs) one.sender one.signal))
      | inr e ↦ ap (λ (t : List Signal). from j xs ++ t) (from_other j one [] e) ∙ append-nil (from j xs)
          ∙ sym (more_other (λ k. from k xs) one.sender one.signal j (λ t. e (sym t)))
    ] in
    λ t j. (each j) t

pub due_takes : (between : ℕ → ℕ → ℕ) (xs : List Sent) (one : Sent) (i : ℕ) (passes : ℕ → Bool) (n : ℕ) → one.sender < n
    → one.sender ≢ i
    → passes (one.signal.clock + between one.sender i) ≡ true
    → arrivals between (λ j. from j (xs ++ one ∷ [])) i passes n
    ≡ place_due (incoming (between one.sender i) one.sender one.signal) (arrivals between (λ j. from j xs) i passes n)
due_takes between xs one i passes n below apart is =
    ap (λ (k : ℕ → List Signal). arrivals between k i passes n) (from_more xs one)
    ∙ due_more between (λ j. from j xs) i passes one.sender one.signal n below apart is

pub due_leaves : (between : ℕ → ℕ → ℕ) (xs : List Sent) (one : Sent) (i : ℕ) (passes : ℕ → Bool) (n : ℕ)
    → (one.sender ≡ i) ⊎ (passes (one.signal.clock + between one.sender i) ≡ false)
    → arrivals between (λ j. from j (xs ++ one ∷ [])) i passes n ≡ arrivals between (λ j. from j xs) i passes n
due_leaves between xs one i passes n h =
    due_same between (λ j. from j (xs ++ one ∷ [])) (λ j. from j xs) i passes n (λ j below apart.
    ap (arriving passes (between j i) j) (from-append j xs (one ∷ []))
    ∙ arriving-append passes (between j i) j (from j xs) (from j (one ∷ []))
    ∙ elim (same_or_apart one.sender j) [
      | inl e ↦ elim h [
        | inl own ↦ absurd (apart (sym e ∙ own))
        | inr not_due ↦
            let f : passes (one.signal.clock + between j i) ≡ false =
            subst (λ (m : ℕ). passes (one.signal.clock + between m i) ≡ false) e not_due in
            ap (λ (t : List Incoming). arriving passes (between j i) j (from j xs) ++ t)
            (ap (arriving passes (between j i) j) (from_own j one [] e)
            ∙ arriving_not passes (between j i) j one.signal [] f)
            ∙ append-nil (arriving passes (between j i) j (from j xs))
      ]
      | inr e ↦ ap (λ (t : List Incoming). arriving passes (between j i) j (from j xs)
          ++ t) (ap (arriving passes (between j i) j) (from_other j one [] e))
          ∙ append-nil (arriving passes (between j i) j (from j xs))
    ])
