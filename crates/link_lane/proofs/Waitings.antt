-- What waits for a console: how much that is, and how it changes.
use Rattle.std.specs.Prelude.{Bool, true, false, ◌&&◌, List, [], ◌∷◌, ◌++◌, length, All, AllPairs, nat_le, nat_lt, if◌then◌else◌}
use Rattle.std.proofs.Common.{ℕ, zero, suc, ◌≡◌, ◌≢◌, ◌+◌, ◌*◌, ◌<◌, ◌≤◌, inl, inr, arith, refl, ap, ◌∙◌}
use Rattle.std.proofs.lemmas.Bool.{cases_Bool}
use Rattle.std.proofs.lemmas.Bool.Decides.{nat_tests}
use Rattle.std.proofs.lemmas.List.{append-nil}
use Rattle.link_node.specs.declared.signal.Incoming.{Incoming}
use Rattle.link_node.specs.declared.signal.Signal.{Signal}
use Rattle.link_node.specs.Due.{InOrder, Precedes}
use Rattle.link_order.specs.Due.{incoming, arriving, arrival_of, player_of, place_due, place_all, is_due, due, waiting}
use Rattle.link_order.proofs.Numbers.{same_or_apart}
use Rattle.link_order.proofs.Lists.{all_nil, all_cons, all_head, all_tail, all_map, pairs_nil, pairs_cons, pairs_head, pairs_tail, pairs_map}
use Rattle.link_order.proofs.Places.{Comes}
use Rattle.link_core.proofs.Keeping.{length-place}
use Rattle.link_order.proofs.Live.{rising_length}
use Rattle.link_order.proofs.DueSignals.{arriving_due, arriving_not, arriving_none, arriving-append, due_own, due_other}
use Rattle.link_order.proofs.DueSignals.{due_same, more, more_same, more_other, due_more}
use Rattle.link_order.proofs.DueOrder.{arriving_all, due_all, due_ordered, comes_precedes}
use Rattle.link_trace.specs.Law.{Rise}
use Rattle.link_trace.proofs.Inboxes.{waits_in_parts}
use Rattle.link_inbox.specs.Waiting.{arrived, later}

arriving_rises : (passes : ℕ → Bool) (delay j : ℕ) (xs : List Signal)
    → AllPairs (λ (a b : Signal). a.clock < b.clock) xs
    → AllPairs (λ (a b : Incoming). a.arrival < b.arrival) (arriving passes delay j xs)
arriving_rises passes delay j [] h = pairs_nil (λ (a b : Incoming). a.arrival < b.arrival)
arriving_rises passes delay j (x ∷ xs) h =
    let Less : Signal → Signal → Type 0 = λ (a b : Signal). a.clock < b.clock in
    let R : Incoming → Incoming → Type 0 = λ (a b : Incoming). a.arrival < b.arrival in
    let ih = arriving_rises passes delay j xs (pairs_tail Less x xs h) in
    elim (cases_Bool (passes (x.clock + delay))) [
      | inl e ↦ rw (arriving_due passes delay j x xs e)
          (pairs_cons R (incoming delay j x) (arriving passes delay j xs)
          (arriving_all (R (incoming delay j x)) passes delay j xs
          (λ k d below t. let less = pairs_head Less x xs h k d below in omega (arith, less)))
          ih)
      | inr e ↦ rw (arriving_not passes delay j x xs e) ih
    ]

-- few signals of one player wait: they arrive after the last step's start, and before a peer that has heard of it could
-- send another one
few_arriving : (was high delay j : ℕ) (xs : List Signal) → AllPairs (λ (a b : Signal). a.clock < b.clock) xs
    → All (λ (s : Signal). s.clock + delay < high) xs → was < high
    → length (arriving (nat_lt was) delay j xs) + suc was ≤ high
few_arriving was high delay j xs rising soon room =
    rising_length (λ (a : Incoming). a.arrival) (suc was) high (arriving (nat_lt was) delay j xs)
    (arriving_rises (nat_lt was) delay j xs rising)
    (arriving_all (λ (a : Incoming). suc was ≤ a.arrival) (nat_lt was) delay j xs
    (λ k d below t. after was _ t))
    (arriving_all (λ (a : Incoming). a.arrival < high) (nat_lt was) delay j xs (λ k d below t. soon k d below))
    room
  where
    after : (a b : ℕ) → nat_lt a b ≡ true → suc a ≤ b
    after a b e = grind (arith, nat_tests)

length-place_all : (xs ys : List Incoming) → length (place_all xs ys) ≡ length xs + length ys
length-place_all [] ys = omega arith
length-place_all (x ∷ xs) ys =
    let ih = length-place_all xs (place_due x ys) in
    let one = length-place arrival_of player_of x ys in
    omega (arith, ih, one)

pub few_waiting : (between : ℕ → ℕ → ℕ) (known : ℕ → List Signal) (i was clock n : ℕ) → clock ≤ was + 512 → Rise known
    → ((j : ℕ) → j < n → j ≢ i → All (λ (s : Signal). s.clock < clock + between i j) (known j))
    → ((j : ℕ) → j < n → j ≢ i → (0 < between j i) × (between i j + between j i ≤ 2048))
    → was ≤ clock
    → length (waiting between known i was n) ≤ 2559 * n
few_waiting between known i was clock zero short rising soon near begun = omega arith
few_waiting between known i was clock (suc j) short rising soon near begun =
    let ih = few_waiting between known i was clock j short rising (λ k below apart. soon k (omega arith) apart)
    (λ k below apart. near k (omega arith) apart) begun in
    elim (same_or_apart j i) [
      | inl e ↦
          let own : waiting between known i was (suc j) ≡ waiting between known i was j
          = rw e (due_own between known i (nat_lt was)) in
          rw own (omega (arith, ih))
      | inr e ↦
          let delays = near j (omega arith) e in
          let some = soon j (omega arith) e in
          let few = few_arriving was (clock + between i j + between j i) (between j i) j (known j) (rising j)
          (all_map (λ (s : Signal). s.clock < clock + between i j)
          (λ (s : Signal). s.clock + between j i < clock + between i j + between j i) (known j)
          (λ s h. omega arith) some) (omega arith) in
          let all : length (waiting between known i was (suc j))
          ≡ length (arriving (nat_lt was) (between j i) j (known j)) + length (waiting between known i was j)
          = ap length (due_other between known i (nat_lt was) j e)
          ∙ length-place_all (arriving (nat_lt was) (between j i) j (known j)) (waiting between known i was j) in
          omega (arith, all, few, ih)
    ]

-- with one more signal of a player: it waits, or it arrives too late to be taken
pub waits_one_more : (between : ℕ → ℕ → ℕ) (known : ℕ → List Signal) (i was n k : ℕ) (s : Signal) → k < n → k ≢ i
    → was < s.clock + between k i
    → waiting between (more known k s) i was n
    ≡ place_due (incoming (between k i) k s) (waiting between known i was n)
waits_one_more between known i was n k s below apart late =
    due_more between known i (nat_lt was) k s n below apart (test was (s.clock + between k i) late)
  where
    test : (a b : ℕ) → a < b → nat_lt a b ≡ true
    test a b h = grind (arith, nat_tests)

pub waits_no_more : (between : ℕ → ℕ → ℕ) (known : ℕ → List Signal) (i was n k : ℕ) (s : Signal)
    → s.clock + between k i ≤ was
    → waiting between (more known k s) i was n ≡ waiting between known i was n
waits_no_more between known i was n k s late =
    due_same between (more known k s) known i (nat_lt was) n (λ j below apart.
    elim (same_or_apart j k) [
      | inl e ↦
          let P : Signal → Type 0 = λ (x : Signal). nat_lt was (x.clock + between j i) ≡ false in
          let dead : P s = rw e (test was (s.clock + between k i) late) in
          let one : more known k s j ≡ known j ++ s ∷ [] = rw e (more_same known k s) in
          ap (arriving (nat_lt was) (between j i) j) one
          ∙ arriving-append (nat_lt was) (between j i) j (known j) (s ∷ [])
          ∙ ap (λ (t : List Incoming). arriving (nat_lt was) (between j i) j (known j) ++ t)
          (arriving_none (nat_lt was) (between j i) j (s ∷ []) (all_cons P s [] dead (all_nil P)))
          ∙ append-nil (arriving (nat_lt was) (between j i) j (known j))
      | inr e ↦ ap (arriving (nat_lt was) (between j i) j) (more_other known k s j e)
    ])
  where
    test : (a b : ℕ) → b ≤ a → nat_lt a b ≡ false
    test a b h = grind (arith, nat_tests)

-- what has arrived of signals that stand by arrival
record IsSplit (clock : ℕ) (xs ys : List Incoming) : Type 0 where
  first : arrived clock (xs ++ ys) ≡ xs
  others : later clock (xs ++ ys) ≡ ys

arrived_on : (clock : ℕ) (x : Incoming) (xs : List Incoming) → x.arrival ≤ clock
    → arrived clock (x ∷ xs) ≡ x ∷ arrived clock xs
arrived_on clock x xs h =
    let t : nat_le x.arrival clock ≡ true = grind (arith, nat_tests) in
    ap (λ b. if b then x ∷ arrived clock xs else []) t

later_on : (clock : ℕ) (x : Incoming) (xs : List Incoming) → x.arrival ≤ clock → later clock (x ∷ xs) ≡ later clock xs
later_on clock x xs h =
    let t : nat_le x.arrival clock ≡ true = grind (arith, nat_tests) in
    ap (λ b. if b then later clock xs else x ∷ xs) t

arrived_no : (clock : ℕ) (x : Incoming) (xs : List Incoming) → clock < x.arrival → arrived clock (x ∷ xs) ≡ []
arrived_no clock x xs h =
    let t : nat_le x.arrival clock ≡ false = grind (arith, nat_tests) in
    ap (λ b. if b then x ∷ arrived clock xs else []) t

later_no : (clock : ℕ) (x : Incoming) (xs : List Incoming) → clock < x.arrival → later clock (x ∷ xs) ≡ x ∷ xs
later_no clock x xs h =
    let t : nat_le x.arrival clock ≡ false = grind (arith, nat_tests) in
    ap (λ b. if b then later clock xs else x ∷ xs) t

splits : (clock : ℕ) (xs ys : List Incoming) → All (λ (a : Incoming). a.arrival ≤ clock) xs
    → All (λ (a : Incoming). clock < a.arrival) ys → IsSplit clock xs ys
splits clock [] [] now then_on = record { first = refl; others = refl }
splits clock [] (y ∷ ys) now then_on =
    let h = all_head (λ (a : Incoming). clock < a.arrival) y ys then_on in
    record { first = arrived_no clock y ys h; others = later_no clock y ys h }
splits clock (x ∷ xs) ys now then_on =
    let h = all_head (λ (a : Incoming). a.arrival ≤ clock) x xs now in
    let ih = splits clock xs ys (all_tail (λ (a : Incoming). a.arrival ≤ clock) x xs now) then_on in
    record {
      first = arrived_on clock x (xs ++ ys) h ∙ ap (λ (t : List Incoming). x ∷ t) ih.first;
      others = later_on clock x (xs ++ ys) h ∙ ih.others;
    }

-- what a step takes of what waits, and what waits after it
pub record IsTaken (between : ℕ → ℕ → ℕ) (known : ℕ → List Signal) (i was clock n : ℕ) (waits : List Incoming) : Type 0
  where
    pub now : arrived clock waits ≡ due between known i was clock n
    pub after : later clock waits ≡ waiting between known i clock n
    pub ordered : InOrder (due between known i was clock n)

pub is_taken : (between : ℕ → ℕ → ℕ) (known : ℕ → List Signal) (i was clock n : ℕ) (waits : List Incoming)
    → Rise known → was ≤ clock → waits ≡ waiting between known i was n → IsTaken between known i was clock n waits
is_taken between known i was clock n waits rising begun are =
    let xs : List Incoming = due between known i was clock n in
    let ys : List Incoming = waiting between known i clock n in
    let whole : waits ≡ xs ++ ys = are ∙ waits_in_parts between known i was clock n begun rising in
    let s = splits clock xs ys
    (due_all (λ (a : Incoming). a.arrival ≤ clock) between known i (is_due was clock) n (λ j below apart.
    arriving_all (λ (a : Incoming). a.arrival ≤ clock) (is_due was clock) (between j i) j (known j)
    (λ k d less t. by_now was clock _ t)))
    (due_all (λ (a : Incoming). clock < a.arrival) between known i (nat_lt clock) n (λ j below apart.
    arriving_all (λ (a : Incoming). clock < a.arrival) (nat_lt clock) (between j i) j (known j)
    (λ k d less t. after clock _ t))) in
    record {
      now = ap (arrived clock) whole ∙ s.first;
      after = ap (later clock) whole ∙ s.others;
      ordered = pairs_map (Comes arrival_of player_of) Precedes xs comes_precedes
          (due_ordered between known i (is_due was clock) n rising);
    }
  where
    by_now : (w c a : ℕ) → (nat_le a c && nat_lt w a) ≡ true → a ≤ c
    by_now w c a e = grind (arith, nat_tests)

    after : (a b : ℕ) → nat_lt a b ≡ true → a < b
    after a b e = grind (arith, nat_tests)
