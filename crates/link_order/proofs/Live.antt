-- Dropping signals that nobody can take any more changes no step, and few signals are live.
use Rattle.std.specs.Prelude.{Bool, true, List, [], ◌∷◌, length, All, AllPairs, Option, None, Some, filter}
use Rattle.std.proofs.Common.{ℕ, suc, ◌≡◌, ◌+◌, ◌*◌, ◌-◌, ◌<◌, ◌≤◌, inl, inr, arith, sym, ap, ◌∙◌, subst, get_or}
use Rattle.std.proofs.lemmas.Bool.Decides.{nat_tests}
use Rattle.std.proofs.lemmas.List.Kept.{AllPairs-filter}
use Rattle.std.proofs.lemmas.Bool.{cases_Bool}
use Rattle.link_node.specs.declared.signal.Incoming.{Incoming}
use Rattle.link_node.specs.declared.signal.Signal.{Signal}
use Rattle.link_order.specs.declared.sent.Sent.{Sent}
use Rattle.link_order.specs.NodeKind.{NodeKind, IsLawful}
use Rattle.link_order.specs.Order.{is_before, place_sent, clock_of, sender_of, IsOrdered}
use Rattle.link_order.specs.Due.{is_due}
use Rattle.link_order.specs.Cut.{Cut, hop, count, clock_at, was_at, live, is_live, is_awaited, IsSound, IsSoundSignal}
use Rattle.link_order.specs.Cut.{HasDelaysWithin}
use Rattle.link_order.specs.GlobalOrder.{least_below, step_with, with_signal, step_of, due_at}
use Rattle.link_order.proofs.Numbers.{same_or_apart, least_is_player, least_is_least}
use Rattle.link_order.proofs.Lists.{all_head, all_tail, pairs_head, pairs_tail, filter_twice}
use Rattle.link_order.proofs.Places.{Comes, filter-place, filter-place_dropped}
use Rattle.link_order.proofs.DueOrder.{due_facts, due_filter}
use Rattle.link_order.proofs.Awaited.{awaits, is_awaited_by, awaited_before}
use Rattle.link_order.proofs.Stepping.{IsConsole, console_at, after_step, is_stepped, put_cases}

-- live signals alone give the same due signals
pub due_live : {C : Type 0} (kind : NodeKind C) (cut : Cut C) (i : ℕ) → i < count cut
    → due_at kind (live kind cut) i ≡ due_at kind cut i
due_live kind cut i below =
    due_filter (is_live kind cut) (hop cut) cut.sent i (is_due (was_at kind cut i) (clock_at kind cut i)) (count cut)
    (λ one from_player apart is.
    is_awaited_by (hop cut) (was_at kind cut) (count cut) one i below (λ t. apart (sym t))
    (due_facts (was_at kind cut i) (clock_at kind cut i) (one.signal.clock + hop cut one.sender i) is).0)

filter_joined : (p q : Sent → Bool) → ((one : Sent) → q one ≡ true → p one ≡ true)
    → (i : ℕ) (o : Option Signal) (sent : List Sent) → IsOrdered sent
    → filter q (with_signal i o (filter p sent)) ≡ filter q (with_signal i o sent)
filter_joined p q sub i None sent ordered = filter_twice p q sub sent
filter_joined p q sub i (Some s) sent ordered =
    let new : Sent = record { sender = i; signal = s } in
    elim (cases_Bool (q new)) [
      | inl e ↦
          filter-place clock_of sender_of q new (filter p sent)
          (AllPairs-filter (Comes clock_of sender_of) p sent ordered) e
          ∙ ap (place_sent new) (filter_twice p q sub sent)
          ∙ sym (filter-place clock_of sender_of q new sent ordered e)
      | inr e ↦
          filter-place_dropped clock_of sender_of q new (filter p sent) e
          ∙ filter_twice p q sub sent
          ∙ sym (filter-place_dropped clock_of sender_of q new sent e)
    ]

-- a step from the live signals alone leaves the same live signals
pub live_step : {C : Type 0} (kind : NodeKind C) → IsLawful kind → (cut : Cut C) (i : ℕ) → i < count cut
    → IsSound kind cut
    → live kind (step_of kind (live kind cut) i) ≡ live kind (step_of kind cut i)
live_step {C = C} kind law cut i below sound =
    let at = console_at kind cut i below in
    let x : C = at.0 in
    let at_live : IsConsole kind (live kind cut) i x =
    record { stands = at.1.stands; clock_is = at.1.clock_is; was_is = at.1.was_is } in
    let signals : List Incoming = due_at kind cut i in
    let s = is_stepped kind law cut i x signals below at.1 in
    let l = is_stepped kind law (live kind cut) i x signals below at_live in
    let d : Cut C = after_step kind cut i x signals in
    let own = at.1.clock_is in
    let was_of_d = put_cases i (kind.clock x) (was_at kind cut) (was_at kind d) s.wases in
    let rises : (k : ℕ) → k < count d → was_at kind cut k ≤ was_at kind d k
    = λ k less. elim (was_of_d k) [
      | inl e ↦ let f = ap (was_at kind cut) e.0 in omega (arith, e.1, f, own, sound.begun i below)
      | inr e ↦ omega (arith, e.1)
    ] in
    let sub : (one : Sent) → is_live kind d one ≡ true → is_live kind cut one ≡ true
    = λ one e. subst (λ (n : ℕ). is_awaited (hop cut) (was_at kind cut) n one ≡ true) s.count_is
    (awaited_before (hop cut) (was_at kind cut) (was_at kind d) (count d) rises one e) in
    ap (live kind) (ap (step_with kind (live kind cut) i) (due_live kind cut i below) ∙ l.cut_is)
    ∙ ap (λ (t : List Sent). let e : Cut C = record { consoles = d.consoles; delays = d.delays; sent = t } in e)
    (filter_joined (is_live kind cut) (is_live kind d) sub i (kind.next x signals).1 cut.sent sound.ordered)
    ∙ ap (live kind) (sym s.cut_is)

-- numbers that rise between two bounds are no more than the bounds leave room for
pub rising_length : {X : Type 0} (f : X → ℕ) (low high : ℕ) (xs : List X) → AllPairs (λ a b. f a < f b) xs
    → All (λ a. low ≤ f a) xs → All (λ a. f a < high) xs → low ≤ high → length xs + low ≤ high
rising_length f low high [] rising above below room = omega arith
rising_length {X = X} f low high (x ∷ xs) rising above below room =
    let h : f x < high = all_head (λ a. f a < high) x xs below in
    let k : low ≤ f x = all_head (λ a. low ≤ f a) x xs above in
    let ih = rising_length f (suc (f x)) high xs (pairs_tail (λ a b. f a < f b) x xs rising)
    (pairs_head (λ a b. f a < f b) x xs rising)
    (all_tail (λ a. f a < high) x xs below) h in
    omega arith

-- a live signal of a sound cut was sent near the start of the last step that began first
pub live_near : {C : Type 0} (kind : NodeKind C) (cut : Cut C) (most : ℕ) → 0 < count cut
    → HasDelaysWithin most cut
    → IsSound kind cut → (one : Sent) → IsSoundSignal kind cut one → is_live kind cut one ≡ true
    → (was_at kind cut (least_below (was_at kind cut) (count cut)) < one.signal.clock + most)
    × (one.signal.clock < was_at kind cut (least_below (was_at kind cut) (count cut)) + 512 + most)
live_near kind cut most some few sound one good awaited =
    let m : ℕ = least_below (was_at kind cut) (count cut) in
    let below : m < count cut = least_is_player (was_at kind cut) (count cut) some in
    let a = awaits (hop cut) (was_at kind cut) (count cut) one awaited in
    let first = least_is_least (was_at kind cut) (count cut) a.player a.below in (
      omega (arith, first, a.hears, few one.sender a.player good.from_player a.below (λ t. a.apart (sym t))),
      elim (same_or_apart m one.sender) [
        | inl e ↦ let f = ap (clock_at kind cut) e in omega (arith, good.sent_before, f, sound.short m below)
        | inr e ↦ omega (arith, good.allowed m below e, sound.short m below, few m one.sender below good.from_player e)
      ],
    )

-- all live signals of a sound cut together
pub few_live : {C : Type 0} (kind : NodeKind C) (cut : Cut C) (most : ℕ) → 0 < count cut → count cut ≤ 4
    → HasDelaysWithin most cut
    → IsSound kind cut → All (λ one. is_live kind cut one ≡ true) cut.sent → length cut.sent ≤ 4 * (2 * most + 511)
few_live kind cut most some four few sound awaited =
    let w : ℕ = was_at kind cut (least_below (was_at kind cut) (count cut)) in
    let low : ℕ = 4 * (w + 1 - most) in
    let high : ℕ = 4 * (w + 512 + most) in
    let near = λ (k : ℕ) (d : Sent) (below : k < length cut.sent).
    live_near kind cut most some few sound (get_or cut.sent k d) (sound.signals k d below) (awaited k d below) in
    let rising : AllPairs (λ (a b : Sent). 4 * a.signal.clock + a.sender < 4 * b.signal.clock + b.sender) cut.sent
    = λ i j d less below. rises (get_or cut.sent i d) (get_or cut.sent j d)
    (omega (arith, four, (sound.signals i d (omega arith)).from_player))
    (omega (arith, four, (sound.signals j d below).from_player)) (sound.ordered i j d less below) in
    let all = rising_length (λ (a : Sent). 4 * a.signal.clock + a.sender) low high cut.sent rising
    (λ k d below. let h = near k d below in omega (arith, h.0))
    (λ k d below. let h = near k d below in let s = (sound.signals k d below).from_player in
    omega (arith, h.1, s, four))
    (omega arith) in
    omega arith
  where
    rises : (a b : Sent) → a.sender < 4 → b.sender < 4 → is_before clock_of sender_of a b ≡ true
        → 4 * a.signal.clock + a.sender < 4 * b.signal.clock + b.sender
    rises a b la lb e = grind (arith, nat_tests)
