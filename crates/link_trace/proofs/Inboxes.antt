-- What is due and what waits: dead signals, and the split at a step.
use Rattle.std.specs.Prelude.{Bool, true, false, ◌&&◌, List, [], ◌∷◌, ◌++◌, All, AllPairs, filter, nat_le, nat_lt}
use Rattle.std.proofs.Common.{ℕ, zero, suc, ◌≡◌, ◌+◌, ◌<◌, ◌≤◌, inl, inr, arith, refl, sym, ap, ◌∙◌}
use Rattle.std.proofs.lemmas.Bool.{cases_Bool, leb-false, lt-ltb, lt-leb}
use Rattle.std.proofs.lemmas.Bool.Decides.{nat_tests}
use Rattle.link_node.specs.declared.signal.Incoming.{Incoming}
use Rattle.link_node.specs.declared.signal.Signal.{Signal}
use Rattle.link_order.specs.Order.{is_before}
use Rattle.link_order.specs.Due.{is_due, incoming, arriving, arrival_of, player_of, place_due, place_all, arrivals}
use Rattle.link_order.specs.Due.{due, waiting}
use Rattle.link_order.proofs.Numbers.{same_or_apart}
use Rattle.link_order.proofs.Lists.{all_cons, all_head, all_tail, all_map, pairs_head, pairs_tail, filter_keeps}
use Rattle.link_order.proofs.Lists.{filter_drops}
use Rattle.link_order.proofs.Places.{Apart, Comes, All-place, AllPairs-place, filter-place, filter-place_dropped}
use Rattle.link_order.proofs.DueSignals.{arriving_due, arriving_not, arriving_none, arriving-append}
use Rattle.link_order.proofs.DueSignals.{due_own, due_other, due_same}
use Rattle.link_order.proofs.DueOrder.{arriving_apart, others_apart, due_ordered}
use Rattle.link_trace.specs.Law.{AreDead, Rise, AddNothing}

-- signals that arrived by the last step's start pass no test for what comes later
dead_none : (between : ℕ → ℕ → ℕ) (dead known : ℕ → List Signal) (i was n : ℕ) (passes : ℕ → Bool)
    → ((arrival : ℕ) → arrival ≤ was → passes arrival ≡ false) → AreDead between dead i was n
    → arrivals between (λ j. dead j ++ known j) i passes n ≡ arrivals between known i passes n
dead_none between dead known i was n passes none are =
    due_same between (λ j. dead j ++ known j) known i passes n (λ j below apart.
    arriving-append passes (between j i) j (dead j) (known j)
    ∙ ap (λ (t : List Incoming). t ++ arriving passes (between j i) j (known j))
    (arriving_none passes (between j i) j (dead j)
    (all_map (λ (s : Signal). s.clock + between j i ≤ was) (λ (s : Signal). passes (s.clock + between j i) ≡ false)
    (dead j) (λ s h. none (s.clock + between j i) h) (are j below apart))))

pub drops_dead : (between : ℕ → ℕ → ℕ) (dead known : ℕ → List Signal) (i was n : ℕ) → AreDead between dead i was n
    → AddNothing between dead known i was n
drops_dead between dead known i was n are = record {
  to_due = λ clock. dead_none between dead known i was n (is_due was clock) (λ a h. not_due was clock a h) are;
  to_waiting = dead_none between dead known i was n (nat_lt was) (λ a h. not_waiting was a h) are;
}
  where
    not_due : (was clock a : ℕ) → a ≤ was → is_due was clock a ≡ false
    not_due was clock a h = grind (arith, nat_tests)

    not_waiting : (was a : ℕ) → a ≤ was → nat_lt was a ≡ false
    not_waiting was a h = grind (arith, nat_tests)

-- a filter of a list that others were placed in
filter-place_all : (p : Incoming → Bool) (xs ys : List Incoming) → AllPairs (Apart arrival_of player_of) xs
    → All (λ y. All (λ x. Apart arrival_of player_of x y) xs) ys → AllPairs (Comes arrival_of player_of) ys
    → filter p (place_all xs ys) ≡ place_all (filter p xs) (filter p ys)
filter-place_all p [] ys apart others ordered = refl
filter-place_all p (x ∷ xs) ys apart others ordered =
    let R : Incoming → Incoming → Type 0 = Apart arrival_of player_of in
    let from_x : All (R x) ys =
    all_map (λ y. All (λ z. R z y) (x ∷ xs)) (R x) ys (λ y h. all_head (λ z. R z y) x xs h) others in
    let rest : All (λ y. All (λ z. R z y) xs) ys =
    all_map (λ y. All (λ z. R z y) (x ∷ xs)) (λ y. All (λ z. R z y) xs) ys (λ y h. all_tail (λ z. R z y) x xs h)
    others in
    let of_x : All (λ z. R z x) xs = all_map (R x) (λ z. R z x) xs
    (λ z h. elim h [ inl q ↦ inl (λ e. q (sym e)) | inr q ↦ inr (λ e. q (sym e)) ]) (pairs_head R x xs apart) in
    let ih = filter-place_all p xs (place_due x ys) (pairs_tail R x xs apart)
    (All-place arrival_of player_of (λ y. All (λ z. R z y) xs) x ys of_x rest)
    (AllPairs-place arrival_of player_of x ys from_x ordered) in
    elim (cases_Bool (p x)) [
      | inl e ↦
          ih ∙ ap (place_all (filter p xs)) (filter-place arrival_of player_of p x ys ordered e)
          ∙ ap (λ (t : List Incoming). place_all t (filter p ys)) (sym (filter_keeps p x xs e))
      | inr e ↦
          ih ∙ ap (place_all (filter p xs)) (filter-place_dropped arrival_of player_of p x ys e)
          ∙ ap (λ (t : List Incoming). place_all t (filter p ys)) (sym (filter_drops p x xs e))
    ]

-- a filter by arrivals is one test more
filter-arriving : (passes more : ℕ → Bool) (delay j : ℕ) (xs : List Signal)
    → filter (λ (one : Incoming). more one.arrival) (arriving passes delay j xs)
    ≡ arriving (λ a. more a && passes a) delay j xs
filter-arriving passes more delay j [] = refl
filter-arriving passes more delay j (x ∷ xs) =
    let p : Incoming → Bool = λ (one : Incoming). more one.arrival in
    let both : ℕ → Bool = λ a. more a && passes a in
    let ih = filter-arriving passes more delay j xs in
    elim (cases_Bool (passes (x.clock + delay))) [
      | inl e ↦ elim (cases_Bool (more (x.clock + delay))) [
        | inl f ↦
            let b : both (x.clock + delay) ≡ true = rw (f, e) refl in
            ap (filter p) (arriving_due passes delay j x xs e)
            ∙ filter_keeps p (incoming delay j x) (arriving passes delay j xs) f
            ∙ ap (λ (t : List Incoming). incoming delay j x ∷ t) ih ∙ sym (arriving_due both delay j x xs b)
        | inr f ↦
            let b : both (x.clock + delay) ≡ false = rw f refl in
            ap (filter p) (arriving_due passes delay j x xs e)
            ∙ filter_drops p (incoming delay j x) (arriving passes delay j xs) f
            ∙ ih ∙ sym (arriving_not both delay j x xs b)
      ]
      | inr e ↦
          let b : both (x.clock + delay) ≡ false = and_false (more (x.clock + delay)) (passes (x.clock + delay)) e in
          ap (filter p) (arriving_not passes delay j x xs e) ∙ ih ∙ sym (arriving_not both delay j x xs b)
    ]
  where
    and_false : (a b : Bool) → b ≡ false → (a && b) ≡ false
    and_false true b e = e
    and_false false b e = refl

filter-arrivals : (between : ℕ → ℕ → ℕ) (known : ℕ → List Signal) (i : ℕ) (passes more : ℕ → Bool) (n : ℕ) → Rise known
    → filter (λ (one : Incoming). more one.arrival) (arrivals between known i passes n)
    ≡ arrivals between known i (λ a. more a && passes a) n
filter-arrivals between known i passes more zero rising = refl
filter-arrivals between known i passes more (suc j) rising =
    let p : Incoming → Bool = λ (one : Incoming). more one.arrival in
    let both : ℕ → Bool = λ a. more a && passes a in
    let ih = filter-arrivals between known i passes more j rising in
    elim (same_or_apart j i) [
      | inl e ↦
          let cycles_left : arrivals between known i passes (suc j) ≡ arrivals between known i passes j =
          rw e (due_own between known i passes) in
          let right : arrivals between known i both (suc j) ≡ arrivals between known i both j =
          rw e (due_own between known i both) in
          ap (filter p) cycles_left ∙ ih ∙ sym right
      | inr e ↦
          ap (filter p) (due_other between known i passes j e)
          ∙ filter-place_all p (arriving passes (between j i) j (known j)) (arrivals between known i passes j)
          (arriving_apart passes (between j i) j (known j) (rising j)) (others_apart between known i passes j)
          (due_ordered between known i passes j rising)
          ∙ ap (λ (t : List Incoming). place_all t (filter p (arrivals between known i passes j)))
          (filter-arriving passes more (between j i) j (known j))
          ∙ ap (place_all (arriving both (between j i) j (known j))) ih
          ∙ sym (due_other between known i both j e)
    ]

pub filters_waiting : (between : ℕ → ℕ → ℕ) (known : ℕ → List Signal) (i was clock n : ℕ) → Rise known
    → due between known i was clock n
    ≡ filter (λ (one : Incoming). nat_le one.arrival clock) (waiting between known i was n)
filters_waiting between known i was clock n rising =
    sym (filter-arrivals between known i (nat_lt was) (λ a. nat_le a clock) n rising)

-- of ordered signals the later ones don't arrive earlier
split_ordered : (clock : ℕ) (xs : List Incoming) → AllPairs (Comes arrival_of player_of) xs
    → xs ≡ filter (λ (one : Incoming). nat_le one.arrival clock) xs
    ++ filter (λ (one : Incoming). nat_lt clock one.arrival) xs
split_ordered clock [] ordered = refl
split_ordered clock (x ∷ xs) ordered =
    let now : Incoming → Bool = λ (one : Incoming). nat_le one.arrival clock in
    let later : Incoming → Bool = λ (one : Incoming). nat_lt clock one.arrival in
    elim (cases_Bool (nat_le x.arrival clock)) [
      | inl e ↦
          let not_later : later x ≡ false = past x.arrival clock e in
          ap (λ (t : List Incoming). x ∷ t)
          (split_ordered clock xs (pairs_tail (Comes arrival_of player_of) x xs ordered))
          ∙ ap (λ (t : List Incoming). t ++ filter later xs) (sym (filter_keeps now x xs e))
          ∙ ap (λ (t : List Incoming). filter now (x ∷ xs) ++ t) (sym (filter_drops later x xs not_later))
      | inr e ↦
          let far : All (λ (y : Incoming). clock < y.arrival) (x ∷ xs)
          = all_late clock x xs e (pairs_head (Comes arrival_of player_of) x xs ordered) in
          sym (ap (λ (t : List Incoming). t ++ filter later (x ∷ xs)) (none_now clock (x ∷ xs) far)
          ∙ all_later clock (x ∷ xs) far)
    ]
  where
    past : (a c : ℕ) → nat_le a c ≡ true → nat_lt c a ≡ false
    past a c e = grind (arith, nat_tests)

    not_earlier : (a b : Incoming) → is_before arrival_of player_of a b ≡ true → a.arrival ≤ b.arrival
    not_earlier a b e = grind (arith, nat_tests)

    all_late : (c : ℕ) (y : Incoming) (ys : List Incoming) → nat_le y.arrival c ≡ false
        → All (Comes arrival_of player_of y) ys → All (λ (z : Incoming). c < z.arrival) (y ∷ ys)
    all_late c y ys e h =
        let far : c < y.arrival = leb-false y.arrival c e in
        all_cons (λ (z : Incoming). c < z.arrival) y ys far
        (all_map (Comes arrival_of player_of y) (λ (z : Incoming). c < z.arrival) ys
        (λ z k. omega (arith, not_earlier y z k)) h)

    none_now : (c : ℕ) (ys : List Incoming) → All (λ (z : Incoming). c < z.arrival) ys
        → filter (λ (one : Incoming). nat_le one.arrival c) ys ≡ []
    none_now c [] h = refl
    none_now c (y ∷ ys) h =
        let P : Incoming → Type 0 = λ (z : Incoming). c < z.arrival in
        filter_drops (λ (one : Incoming). nat_le one.arrival c) y ys (lt-leb y.arrival c (all_head P y ys h))
        ∙ none_now c ys (all_tail P y ys h)

    all_later : (c : ℕ) (ys : List Incoming) → All (λ (z : Incoming). c < z.arrival) ys
        → filter (λ (one : Incoming). nat_lt c one.arrival) ys ≡ ys
    all_later c [] h = refl
    all_later c (y ∷ ys) h =
        let P : Incoming → Type 0 = λ (z : Incoming). c < z.arrival in
        filter_keeps (λ (one : Incoming). nat_lt c one.arrival) y ys (lt-ltb c y.arrival (all_head P y ys h))
        ∙ ap (λ (t : List Incoming). y ∷ t) (all_later c ys (all_tail P y ys h))

pub waits_in_parts : (between : ℕ → ℕ → ℕ) (known : ℕ → List Signal) (i was clock n : ℕ) → was ≤ clock → Rise known
    → waiting between known i was n ≡ due between known i was clock n ++ waiting between known i clock n
waits_in_parts between known i was clock n le rising =
    let all : List Incoming = waiting between known i was n in
    let later : List Incoming = filter (λ (one : Incoming). nat_lt clock one.arrival) all in
    let test : (λ a. nat_lt clock a && nat_lt was a) ≡ nat_lt clock = λ t a. (both was clock a le) t in
    split_ordered clock all (due_ordered between known i (nat_lt was) n rising)
    ∙ ap (λ (t : List Incoming). t ++ later) (sym (filters_waiting between known i was clock n rising))
    ∙ ap (λ (t : List Incoming). due between known i was clock n ++ t)
    (filter-arrivals between known i (nat_lt was) (nat_lt clock) n rising
    ∙ ap (λ (passes : ℕ → Bool). arrivals between known i passes n) test)
  where
    both : (w c a : ℕ) → w ≤ c → (nat_lt c a && nat_lt w a) ≡ nat_lt c a
    both w c a h = grind (arith, nat_tests)
