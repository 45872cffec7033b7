-- From any cut on the history, the global order goes on to the history's end.
use Rattle.std.specs.Prelude.{true, false, List, [], ◌∷◌, length, All, Some, slice_get, nat_lt}
use Rattle.std.proofs.Common.{ℕ, zero, suc, ◌≡◌, ◌≢◌, ◌<◌, ◌≤◌, ◌⊎◌, inl, inr, arith, refl, sym, ap, ◌∙◌, subst}
use Rattle.std.proofs.lemmas.Bool.Decides.{nat_tests}
use Rattle.std.proofs.lemmas.Bool.{cases_Bool, cases_lt, ltb-false, ltb-true}
use Rattle.link_node.specs.declared.signal.Signal.{Signal}
use Rattle.link_order.specs.declared.sent.Sent.{Sent}
use Rattle.link_order.specs.NodeKind.{NodeKind, IsLawful}
use Rattle.link_order.specs.Order.{is_before, clock_of, sender_of, IsOrdered, from}
use Rattle.link_order.specs.Cut.{HasDelays, Cut, count, clock_at, IsSound, IsSoundSignal}
use Rattle.link_order.specs.GlobalOrder.{least, step, cycles_left, after_turns, run}
use Rattle.link_order.specs.Interleaving.{moment, count_of}
use Rattle.link_order.proofs.Numbers.{same_or_apart, put, least_is_player, least_is_least}
use Rattle.link_order.proofs.Lists.{all_head, all_tail, all_map, pairs_head, pairs_tail}
use Rattle.link_order.proofs.Places.{Comes}
use Rattle.link_order.proofs.Senders.{from_own, from_other}
use Rattle.link_order.proofs.Runs.{falls, ends, run_unrolls, run_ends}
use Rattle.link_order.proofs.Hops.{delays_same}
use Rattle.link_order.proofs.Sound.{least_ahead}
use Rattle.link_laws.proofs.Advance.{number_found}
use Rattle.link_laws.proofs.History.{Leads, Same, same_is, same_trans, On, on_step, moment_all, history_ends, goes}

-- two lists with the same elements at each index
pub same_lists : {X : Type 0} (xs ys : List X) → length xs ≡ length ys
    → ((i : ℕ) → i < length xs → slice_get xs i ≡ slice_get ys i) → xs ≡ ys
same_lists [] [] e h = refl
same_lists [] (y ∷ ys) e h = absurd (omega arith)
same_lists (x ∷ xs) [] e h = absurd (omega arith)
same_lists (x ∷ xs) (y ∷ ys) e h =
    let first : Some x ≡ Some y = h 0 (omega arith) in
    let head : x ≡ y = cc in
    let rest : xs ≡ ys = same_lists xs ys (omega arith) (λ i below. h (suc i) (omega arith)) in
    cc

-- the first of a player's signals comes no earlier than the first of all
first_bound : (j : ℕ) (s : Signal) (rest : List Signal) (x : Sent) (xs : List Sent) → IsOrdered (x ∷ xs)
    → from j (x ∷ xs) ≡ s ∷ rest
    → (x.signal.clock < s.clock) ⊎ ((x.signal.clock ≡ s.clock) × (x.sender ≤ j))
first_bound j s rest x [] ordered e =
    elim (same_or_apart x.sender j) [
      | inl own ↦ let f : x.signal ∷ [] ≡ s ∷ rest = sym (from_own j x [] own) ∙ e in let t : x.signal ≡ s = cc in
          inr (ap (λ (z : Signal). z.clock) t, omega arith)
      | inr other ↦ let f : [] ≡ s ∷ rest = sym (from_other j x [] other) ∙ e in cc
    ]
first_bound j s rest x (y ∷ ys) ordered e =
    elim (same_or_apart x.sender j) [
      | inl own ↦ let f : x.signal ∷ from j (y ∷ ys) ≡ s ∷ rest = sym (from_own j x (y ∷ ys) own) ∙ e in
          let t : x.signal ≡ s = cc in inr (ap (λ (z : Signal). z.clock) t, omega arith)
      | inr other ↦
          let f : from j (y ∷ ys) ≡ s ∷ rest = sym (from_other j x (y ∷ ys) other) ∙ e in
          let b = first_bound j s rest y ys (pairs_tail (Comes clock_of sender_of) x (y ∷ ys) ordered) f in
          let c : is_before clock_of sender_of x y ≡ true =
          all_head (Comes clock_of sender_of x) y ys (pairs_head (Comes clock_of sender_of) x (y ∷ ys) ordered) in
          before_bound x y j s.clock c b
    ]
  where
    before_bound : (a b : Sent) (k n : ℕ) → is_before clock_of sender_of a b ≡ true
        → (b.signal.clock < n) ⊎ ((b.signal.clock ≡ n) × (b.sender ≤ k))
        → (a.signal.clock < n) ⊎ ((a.signal.clock ≡ n) × (a.sender ≤ k))
    before_bound a b k n c h = grind (arith, nat_tests)

-- ordered lists with the same signals of each player are the same
pub same_sent : (xs ys : List Sent) → IsOrdered xs → IsOrdered ys → ((j : ℕ) → from j xs ≡ from j ys) → xs ≡ ys
same_sent [] [] ox oy h = refl
same_sent [] (y ∷ ys) ox oy h = let f : [] ≡ y.signal ∷ from y.sender ys = h y.sender ∙ from_own y.sender y ys refl in
    cc
same_sent (x ∷ xs) [] ox oy h = let f : x.signal ∷ from x.sender xs ≡ [] = sym (from_own x.sender x xs refl)
    ∙ h x.sender in cc
same_sent (x ∷ xs) (y ∷ ys) ox oy h =
    let bx = first_bound y.sender y.signal (from y.sender ys) x xs ox (h y.sender ∙ from_own y.sender y ys refl) in
    let by_ = first_bound x.sender x.signal (from x.sender xs) y ys oy (sym (h x.sender)
    ∙ from_own x.sender x xs refl) in
    let senders : x.sender ≡ y.sender = grind arith in
    let heads : x.signal ∷ from x.sender xs ≡ y.signal ∷ from x.sender ys
    = sym (from_own x.sender x xs refl) ∙ h x.sender ∙ from_own x.sender y ys (sym senders) in
    let signals : x.signal ≡ y.signal = cc in
    let first : x ≡ y = same_one x y senders signals in
    let rest : xs ≡ ys = same_sent xs ys (pairs_tail (Comes clock_of sender_of) x xs ox)
    (pairs_tail (Comes clock_of sender_of) y ys oy)
    (λ j. elim (same_or_apart x.sender j) [
      | inl own ↦
          let t : x.signal ∷ from j xs ≡ y.signal ∷ from j ys = sym (from_own j x xs own) ∙ h j
          ∙ from_own j y ys (sym senders ∙ own) in
          tails (from j xs) (from j ys) x.signal y.signal t
      | inr other ↦ sym (from_other j x xs other) ∙ h j ∙ from_other j y ys (λ t. other (senders ∙ t))
    ]) in
    cc
  where
    same_one : (a b : Sent) → a.sender ≡ b.sender → a.signal ≡ b.signal → a ≡ b
    same_one a b p q = λ t. record { sender = p t; signal = q t }

    tails : (us vs : List Signal) (u v : Signal) → u ∷ us ≡ v ∷ vs → us ≡ vs
    tails us vs u v e = cc

from_past : (n j : ℕ) (xs : List Sent) → All (λ (one : Sent). one.sender < n) xs → n ≤ j → from j xs ≡ []
from_past n j [] h past = refl
from_past n j (x ∷ xs) h past =
    let s = all_head (λ (one : Sent). one.sender < n) x xs h in
    let apart : x.sender ≢ j = λ e. absurd (omega arith) in
    from_other j x xs apart ∙ from_past n j xs (all_tail (λ (one : Sent). one.sender < n) x xs h) past

-- two sound cuts with the same consoles and the same signals of each player
pub same_cuts : {C : Type 0} (kind : NodeKind C) (d e : Cut C) → IsSound kind d → IsSound kind e → count d ≡ count e
    → d.delays ≡ e.delays
    → ((i : ℕ) → i < count d → Same d e i) → d ≡ e
same_cuts {C = C} kind d e sd se counts delays same =
    let senders : (f : Cut C) → IsSound kind f → All (λ (one : Sent). one.sender < count f) f.sent
    = λ f s. all_map (IsSoundSignal kind f)
    (λ (one : Sent). one.sender < count f) f.sent (λ one h. h.from_player) s.signals in
    let consoles : d.consoles ≡ e.consoles =
    same_lists d.consoles e.consoles counts (λ i below. (same i below).console) in
    let sents : d.sent ≡ e.sent = same_sent d.sent e.sent sd.ordered se.ordered (λ j.
    elim (cases_lt j (count d)) [
      | inl below ↦ (same j below).signals
      | inr past ↦ from_past (count d) j d.sent (senders d sd) past
          ∙ sym (from_past (count e) j e.sent (senders e se) (omega (arith, past, counts)))
    ]) in
    λ t. record { consoles = consoles t; delays = delays t; sent = sents t }

-- where all clocks have come to `until`, each console has made all its steps
on_end : {C : Type 0} (kind : NodeKind C) → IsLawful kind
    → (until : ℕ) (cut : Cut C) (ps : List ℕ) (d : Cut C) (made : ℕ → ℕ)
    → Leads kind until cut ps → IsSound kind cut → On kind cut ps d made
    → ((i : ℕ) → i < count cut → until ≤ clock_at kind d i)
    → d ≡ after_turns kind cut ps
on_end {C = C} kind law until cut ps d made leads sound on late =
    let e = history_ends kind law until ps cut leads sound in
    same_cuts kind d (after_turns kind cut ps) on.sound e.sound (on.count_is ∙ sym e.count_is)
    (on.delays_are ∙ sym e.delays_are) (λ i below.
    let less : i < count cut = subst (λ (n : ℕ). i < n) on.count_is below in
    let s = on.same i less in
    let m : Cut C = moment kind cut ps i (made i) in
    elim (cases_lt (made i) (count_of i ps)) [
      | inl more ↦
          let g = goes kind law until ps cut i (made i) leads sound more in
          let c : clock_at kind d i ≡ kind.clock g.x =
          number_found kind.clock d.consoles i g.x (s.console ∙ g.stands) in
          let early = g.early in
          let l = late i less in absurd (omega arith)
      | inr past ↦ same_trans d m (after_turns kind cut ps) i s
          (same_is m (after_turns kind cut ps) i (moment_all kind ps cut i (made i) past))
    ])

goes_over : {C : Type 0} (kind : NodeKind C) → IsLawful kind
    → (until : ℕ) (cut : Cut C) (ps : List ℕ) (d : Cut C) (made : ℕ → ℕ)
    → Leads kind until cut ps → IsSound kind cut → On kind cut ps d made
    → nat_lt (clock_at kind d (least kind d)) until ≡ false
    → run kind d until ≡ after_turns kind cut ps
goes_over kind law until cut ps d made leads sound on e =
    let late : until ≤ clock_at kind d (least kind d) = ltb-false (clock_at kind d (least kind d)) until e in
    run_ends kind d until e
    ∙ on_end kind law until cut ps d made leads sound on
    (λ i below. omega (
      arith,
      late,
      least_is_least (clock_at kind d) (count d) i
          (subst (λ (n : ℕ). i < n) (sym on.count_is) below),
    ))

goes_on_by : {C : Type 0} (kind : NodeKind C) → IsLawful kind
    → (most until : ℕ) (cut : Cut C) (ps : List ℕ) (d : Cut C) (made : ℕ → ℕ)
    → Leads kind until cut ps → IsSound kind cut → 0 < count cut → HasDelays cut
    → On kind cut ps d made → cycles_left kind d until ≤ most → run kind d until ≡ after_turns kind cut ps
goes_on_by kind law zero until cut ps d made leads sound some later on few =
    let some_d : 0 < count d = subst (λ (n : ℕ). 0 < n) (sym on.count_is) some in
    goes_over kind law until cut ps d made leads sound on (ends kind d until some_d (omega arith))
goes_on_by {C = C} kind law (suc most) until cut ps d made leads sound some later on few =
    let some_d : 0 < count d = subst (λ (n : ℕ). 0 < n) (sym on.count_is) some in
    let later_d : HasDelays d = delays_same d cut on.count_is on.delays_are later in
    elim (cases_Bool (nat_lt (clock_at kind d (least kind d)) until)) [
      | inr e ↦ goes_over kind law until cut ps d made leads sound on e
      | inl e ↦
          let i : ℕ = least kind d in
          let below : i < count cut = subst
          (λ (n : ℕ). i < n) on.count_is (least_is_player (clock_at kind d) (count d) some_d) in
          let f = falls kind law d until some_d e in
          let less : cycles_left kind (step kind d) until < cycles_left kind d until = f.fewer in
          let next = on_step kind law until cut ps d made i leads sound on below (ltb-true (clock_at kind d i) until e)
          (least_ahead kind d some_d later_d) in
          run_unrolls kind law d until some_d e
          ∙ goes_on_by kind law most until cut ps (step kind d) (put i (suc (made i)) made) leads sound some later next
          (omega arith)
    ]

-- the global order from a cut on the history ends where the history ends
pub goes_on : {C : Type 0} (kind : NodeKind C) → IsLawful kind
    → (until : ℕ) (cut : Cut C) (ps : List ℕ) (d : Cut C) (made : ℕ → ℕ)
    → Leads kind until cut ps → IsSound kind cut → 0 < count cut → HasDelays cut
    → On kind cut ps d made → run kind d until ≡ after_turns kind cut ps
goes_on kind law until cut ps d made leads sound some later on =
    goes_on_by kind law (cycles_left kind d until) until cut ps d made leads sound some later on (omega arith)
