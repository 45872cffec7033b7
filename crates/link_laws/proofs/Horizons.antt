-- No signal in the past, the furthest behind may step, and few signals that aren't seen.
use Rattle.std.specs.Prelude.{List, [], ◌∷◌, ◌++◌, length, All, AllPairs}
use Rattle.std.proofs.Common.{ℕ, ◌≡◌, ◌≢◌, ◌+◌, ◌*◌, ◌-◌, ◌<◌, ◌≤◌, ◌⊎◌, inl, inr, arith, refl, sym, ap, ◌∙◌, subst}
use Rattle.std.proofs.Common.{get_or}
use Rattle.std.proofs.lemmas.List.Elements.{All-filter, filter_passes}
use Rattle.std.proofs.lemmas.List.Kept.{AllPairs-filter}
use Rattle.link_node.specs.declared.signal.Signal.{Signal}
use Rattle.link_order.specs.declared.sent.Sent.{Sent}
use Rattle.link_order.specs.NodeKind.{NodeKind, IsLawful}
use Rattle.link_order.specs.Order.{from, clock_of, sender_of, IsOrdered}
use Rattle.link_order.specs.Cut.{HasDelaysWithin, Cut, hop, count, clock_at, was_at, live, is_live, IsSound}
use Rattle.link_order.specs.Cut.{IsSoundSignal, IsInTime}
use Rattle.link_order.specs.Cut.{IsCable}
use Rattle.link_order.specs.GlobalOrder.{least_below, step_of}
use Rattle.link_order.specs.Interleaving.{Watched, first_watch, Action, Look, Step, update, happens, MayStepHere, May}
use Rattle.link_order.specs.Interleaving.{IsInterleaving, after_actions}
use Rattle.link_order.proofs.Numbers.{same_or_apart}
use Rattle.link_order.proofs.Lists.{all_tail, all_map, pairs_tail}
use Rattle.link_order.proofs.Places.{Comes}
use Rattle.link_order.proofs.DueOrder.{from_rises, from_all}
use Rattle.link_order.proofs.Hops.{hop_same, cable_same}
use Rattle.link_order.proofs.Live.{rising_length, live_near}
use Rattle.link_laws.specs.Law.{Adds, ArrivesLater, LooksAhead, FewUnread, LooksAt, StaysAside, IsFurthestBehind}
use Rattle.link_laws.proofs.Advance.{advance, Later}
use Rattle.link_laws.proofs.Watching.{looked, Watching, watching_opened, watching_happens, may_ahead, may_due}
use Rattle.link_laws.proofs.Watching.{changed_cases}
use Rattle.link_laws.proofs.Equality.{hears_played, watching_played}

adds : {C : Type 0} (kind : NodeKind C) (w : Watched C) (i j : ℕ)
    (l : Later (w.seen i j) (w.got i j) (from j w.cut.sent))
    → Adds kind w i j l.rest
adds kind w i j l = record {
  got_is = looked i j (from j w.cut.sent) w.got ∙ l.all_is;
  sent_is = l.all_is;
}

-- what a look adds arrives after the last step began
pub looks_ahead : {C : Type 0} (kind : NodeKind C) → IsLawful kind
    → (cut : Cut C) (until : ℕ) (actions : List Action) (i j : ℕ) → IsCable cut → IsSound kind cut → IsInTime kind cut
    → IsInterleaving kind until actions (first_watch kind cut) → i < count cut → j < count cut → i ≢ j
    → LooksAhead kind (after_actions kind actions (first_watch kind cut)) i j
looks_ahead {C = C} kind law cut until actions i j cable sound time may li lj apart =
    let start = watching_opened kind cut sound in
    let w : Watched C = after_actions kind actions (first_watch kind cut) in
    let watch = watching_played kind law cut until actions (first_watch kind cut) start may in
    let hears =
    hears_played kind law cut until actions (first_watch kind cut) start (λ a b la lb e. time a b la lb e) may in
    let up : (k : ℕ) → k < count cut → k < count w.cut = λ k h. subst (λ (n : ℕ). k < n) (sym watch.count_is) h in
    let l = watch.known i j (up j lj) in
    let heard = hears i j (up i li) (up j lj) apart in
    record {
      added = l.rest;
      adds = adds kind w i j l;
      later = all_map
          (λ (s : Signal). w.seen i j ≤ s.clock) (ArrivesLater kind w i j) l.rest (λ s h. omega arith) l.late;
    }

rises_tail : (xs ys : List Signal) → AllPairs (λ (a b : Signal). a.clock < b.clock) (xs ++ ys)
    → AllPairs (λ (a b : Signal). a.clock < b.clock) ys
rises_tail [] ys h = h
rises_tail (x ∷ xs) ys h = rises_tail xs ys (pairs_tail (λ (a b : Signal). a.clock < b.clock) x (xs ++ ys) h)

all_drop : (P : Signal → Type 0) (xs ys : List Signal) → All P (xs ++ ys) → All P ys
all_drop P [] ys h = h
all_drop P (x ∷ xs) ys h = all_drop P xs ys (all_tail P x (xs ++ ys) h)

pub few_unread : {C : Type 0} (kind : NodeKind C) → IsLawful kind
    → (cut : Cut C) (until : ℕ) (actions : List Action) (i j : ℕ) → IsCable cut → IsSound kind cut
    → IsInterleaving kind until actions (first_watch kind cut) → i < count cut → j < count cut → i ≢ j
    → FewUnread kind (after_actions kind actions (first_watch kind cut)) i j
few_unread {C = C} kind law cut until actions i j cable sound may li lj apart =
    let start = watching_opened kind cut sound in
    let w : Watched C = after_actions kind actions (first_watch kind cut) in
    let watch = watching_played kind law cut until actions (first_watch kind cut) start may in
    let up : (k : ℕ) → k < count cut → k < count w.cut = λ k h. subst (λ (n : ℕ). k < n) (sym watch.count_is) h in
    let l = watch.known i j (up j lj) in
    let close = watch.close i j (up i li) (up j lj) apart in
    let rising : AllPairs (λ (a b : Signal). a.clock < b.clock) l.rest
    = rises_tail (w.got i j) l.rest
    (subst (AllPairs (λ (a b : Signal). a.clock < b.clock)) l.all_is
    (from_rises j w.cut.sent watch.sound.ordered)) in
    let bound : All (λ (s : Signal). s.clock < clock_at kind w.cut i + hop w.cut i j) (from j w.cut.sent)
    = from_all (λ (s : Signal). s.clock < clock_at kind w.cut i + hop w.cut i j) j w.cut.sent
    (all_map (IsSoundSignal kind w.cut) (λ (one : Sent). one.sender ≡ j
    → one.signal.clock < clock_at kind w.cut i + hop w.cut i j) w.cut.sent
    (λ one h e.
    let n = h.allowed i (up i li) (λ t. apart (t ∙ e)) in
    let f : hop w.cut i one.sender ≡ hop w.cut i j = ap (hop w.cut i) e in
    omega (arith, n, f)) watch.sound.signals) in
    let below : All (λ (s : Signal). s.clock < clock_at kind w.cut i + hop w.cut i j) l.rest
    = all_drop (λ (s : Signal). s.clock < clock_at kind w.cut i + hop w.cut i j) (w.got i j) l.rest
    (subst (All (λ (s : Signal). s.clock < clock_at kind w.cut i + hop w.cut i j)) l.all_is bound) in
    let here = cable_same w.cut cut watch.count_is watch.delays_are cable in
    let some : 0 < hop w.cut i j = here.some_delay i j (up i li) (up j lj) apart in
    let short : hop w.cut i j ≤ 1024 = here.short_delay i j (up i li) (up j lj) apart in
    let short' : hop w.cut j i ≤ 1024 = here.short_delay j i (up j lj) (up i li) (λ t. apart (sym t)) in
    let long = rising_length (λ (s : Signal). s.clock) (w.seen i j) (w.seen i j + hop w.cut j i + 511 + hop w.cut i j)
    l.rest rising l.late
    (all_map (λ (s : Signal). s.clock < clock_at kind w.cut i + hop w.cut i j)
    (λ (s : Signal). s.clock < w.seen i j + hop w.cut j i + 511 + hop w.cut i j) l.rest
    (λ s h. omega arith) below) (omega arith) in
    record {
      added = l.rest;
      adds = adds kind w i j l;
      few = omega arith;
      fits = omega arith;
    }

-- the live signals of one sender
pub few_live_of : {C : Type 0} (kind : NodeKind C) (cut : Cut C) (most j : ℕ) → IsCable cut → IsSound kind cut
    → HasDelaysWithin most cut
    → length (from j (live kind cut).sent) ≤ 2 * most + 511
few_live_of kind cut most j cable sound far =
    let w : ℕ = was_at kind cut (least_below (was_at kind cut) (count cut)) in
    let sent : List Sent = (live kind cut).sent in
    let good = All-filter (is_live kind cut) (IsSoundSignal kind cut) cut.sent sound.signals in
    let lives = filter_passes (is_live kind cut) cut.sent in
    let ordered : IsOrdered sent = AllPairs-filter (Comes clock_of sender_of) (is_live kind cut) cut.sent
    sound.ordered in
    let Near : Sent → Type 0 = λ (one : Sent). (w < one.signal.clock + most) × (one.signal.clock < w + 512 + most) in
    let near : All Near sent
    = λ k d below. live_near kind cut most cable.some_console far sound (get_or sent k d) (good k d below)
    (lives k d below) in
    let long = rising_length (λ (s : Signal). s.clock) (w + 1 - most) (w + 512 + most) (from j sent)
    (from_rises j sent ordered)
    (from_all (λ (s : Signal). w + 1 - most ≤ s.clock) j sent
    (all_map Near (λ (one : Sent). one.sender ≡ j
    → w + 1 - most ≤ one.signal.clock) sent (λ one h e. omega (arith, h.0)) near))
    (from_all (λ (s : Signal). s.clock < w + 512 + most) j sent
    (all_map Near (λ (one : Sent). one.sender ≡ j → one.signal.clock < w + 512 + most) sent (λ one h e. h.1) near))
    (omega arith) in
    omega arith

-- what holds of a console that waits while the others go on: its clock stays, and no clock falls below it
record Waits {C : Type 0} (kind : NodeKind C) (cut : Cut C) (until : ℕ) (i clock : ℕ) (w : Watched C) : Type 0 where
  watch : Watching kind cut w
  stays : clock_at kind w.cut i ≡ clock
  least : (j : ℕ) → j < count w.cut → clock ≤ clock_at kind w.cut j

waits_happens : {C : Type 0} (kind : NodeKind C) → IsLawful kind
    → (cut : Cut C) (until : ℕ) (i clock : ℕ) (act : Action) (rest : List Action) (w : Watched C)
    → Waits kind cut until i clock w → May kind until w act → StaysAside i (act ∷ rest)
    → Waits kind cut until i clock (happens kind act w)
waits_happens kind law cut until i clock (Look a b) rest w waits may aside = record {
  watch = watching_happens kind law cut until (Look a b) w waits.watch may;
  stays = waits.stays;
  least = waits.least;
}
waits_happens {C = C} kind law cut until i clock (Step a) rest w waits may aside =
    let s = advance kind law w.cut a may.player (may_ahead kind cut until w a waits.watch may) waits.watch.sound in
    let is = may_due kind cut until w a waits.watch may in
    record {
      watch = watching_happens kind law cut until (Step a) w waits.watch may;
      stays = ap (λ (d : Cut C). clock_at kind d i) is ∙ s.other_clock i (λ e. aside.0 (sym e)) ∙ waits.stays;
      least = subst (λ (d : Cut C). (j : ℕ) → j < count d → clock ≤ clock_at kind d j) (sym is)
          (λ j below.
          let less : j < count w.cut = subst (λ (n : ℕ). j < n) s.count_is below in
          let h = waits.least j less in
          elim (same_or_apart j a) [
            | inl e ↦ let f = ap (clock_at kind w.cut) e in let g = ap (clock_at kind (step_of kind w.cut a)) e in
                omega (arith, h, f, g, s.own_clock)
            | inr e ↦ omega (arith, h, s.other_clock j e)
          ]);
    }

aside_rest : (i : ℕ) (act : Action) (rest : List Action) → StaysAside i (act ∷ rest) → StaysAside i rest
aside_rest i (Look a b) rest h = h
aside_rest i (Step a) rest h = h.1

-- once looked at, a peer stays seen at the waiting console's clock or later
seen_stays : {C : Type 0} (kind : NodeKind C) → IsLawful kind
    → (cut : Cut C) (until : ℕ) (i j clock : ℕ) (actions : List Action) (w : Watched C) → j < count cut
    → Waits kind cut until i clock w → IsInterleaving kind until actions w → StaysAside i actions
    → (LooksAt i j actions ⊎ (clock ≤ w.seen i j))
    → clock ≤ (after_actions kind actions w).seen i j
seen_stays kind law cut until i j clock [] w below waits may aside (inl looks) = absurd looks
seen_stays kind law cut until i j clock [] w below waits may aside (inr seen) = seen
seen_stays kind law cut until i j clock (Look a b ∷ rest) w below waits may aside has =
    let next = waits_happens kind law cut until i clock (Look a b) rest w waits may.0 aside in
    let less : j < count w.cut = subst (λ (n : ℕ). j < n) (sym waits.watch.count_is) below in
    let l = waits.least j less in
    let now : (LooksAt i j rest ⊎ (clock ≤ update a b (clock_at kind w.cut b) w.seen i j))
    = elim has [
      | inl looks ↦ elim looks [
        | inl here ↦
            let f : clock_at kind w.cut b ≡ clock_at kind w.cut j = ap (clock_at kind w.cut) here.1 in
            let g : update a b (clock_at kind w.cut b) w.seen i j ≡ clock_at kind w.cut b
            = subst (λ (m : ℕ). update a b (clock_at kind w.cut b) w.seen m j ≡ clock_at kind w.cut b) here.0
            (subst (λ (n : ℕ). update a b (clock_at kind w.cut b) w.seen a n
            ≡ clock_at kind w.cut b) here.1 (looked a b (clock_at kind w.cut b) w.seen)) in
            inr (omega (arith, f, g, l))
        | inr later ↦ inl later
      ]
      | inr seen ↦ elim (changed_cases a b (clock_at kind w.cut b) w.seen i j) [
        | inl e ↦ let f = ap (clock_at kind w.cut) e.1 in inr (omega (arith, e.2, f, l))
        | inr e ↦ inr (omega (arith, e, seen))
      ]
    ] in
    seen_stays kind law cut until i j clock rest (happens kind (Look a b) w) below next may.1
    (aside_rest i (Look a b) rest aside) now
seen_stays kind law cut until i j clock (Step a ∷ rest) w below waits may aside has =
    let next = waits_happens kind law cut until i clock (Step a) rest w waits may.0 aside in
    seen_stays kind law cut until i j clock rest (happens kind (Step a) w) below next may.1
    (aside_rest i (Step a) rest aside) has

waits_played : {C : Type 0} (kind : NodeKind C) → IsLawful kind
    → (cut : Cut C) (until : ℕ) (i clock : ℕ) (actions : List Action) (w : Watched C)
    → Waits kind cut until i clock w → IsInterleaving kind until actions w → StaysAside i actions
    → Waits kind cut until i clock (after_actions kind actions w)
waits_played kind law cut until i clock [] w waits may aside = waits
waits_played kind law cut until i clock (act ∷ rest) w waits may aside =
    waits_played kind law cut until i clock rest (happens kind act w)
    (waits_happens kind law cut until i clock act rest w waits may.0 aside) may.1
    (aside_rest i act rest aside)

-- the console that is furthest behind may step once it has looked at each peer
pub furthest_behind : {C : Type 0} (kind : NodeKind C) → IsLawful kind
    → (cut : Cut C) (until : ℕ) (actions more : List Action) (i : ℕ) → IsCable cut → IsSound kind cut
    → IsInterleaving kind until actions (first_watch kind cut)
    → IsFurthestBehind kind until (after_actions kind actions (first_watch kind cut)).cut i
    → IsInterleaving kind until more (after_actions kind actions (first_watch kind cut)) → StaysAside i more
    → ((j : ℕ) → j < count cut → j ≢ i → LooksAt i j more)
    → MayStepHere kind until (after_actions kind more (after_actions kind actions (first_watch kind cut))) i
furthest_behind {C = C} kind law cut until actions more i cable sound may last may_more aside looks =
    let w : Watched C = after_actions kind actions (first_watch kind cut) in
    let watch =
    watching_played kind law cut until actions (first_watch kind cut) (watching_opened kind cut sound) may in
    let clock : ℕ = clock_at kind w.cut i in
    let waits : Waits kind cut until i clock w = record { watch = watch; stays = refl; least = last.least } in
    let v : Watched C = after_actions kind more w in
    let after_turns = waits_played kind law cut until i clock more w waits may_more aside in
    record {
      player = subst (λ (n : ℕ). i < n) (watch.count_is ∙ sym after_turns.watch.count_is) last.player;
      early = omega (arith, after_turns.stays, last.early);
      ahead = λ j below apart.
          let less : j < count cut = subst (λ (n : ℕ). j < n) after_turns.watch.count_is below in
          let seen = seen_stays kind law cut until i j clock more w less waits may_more aside
          (inl (looks j less apart)) in
          let here = cable_same v.cut cut after_turns.watch.count_is after_turns.watch.delays_are cable in
          let own : i < count v.cut =
          subst (λ (n : ℕ). i < n) (watch.count_is ∙ sym after_turns.watch.count_is) last.player in
          let some : 0 < hop v.cut j i = here.some_delay j i below own apart in
          omega (arith, after_turns.stays, seen, some);
    }

-- no two clocks are further from each other than the delay and a step
pub clocks_near : {C : Type 0} (kind : NodeKind C) → IsLawful kind
    → (cut : Cut C) (until : ℕ) (actions : List Action) (i j : ℕ) → IsCable cut → IsSound kind cut
    → IsInterleaving kind until actions (first_watch kind cut) → i < count cut → j < count cut
    → clock_at kind (after_actions kind actions (first_watch kind cut)).cut i
    < clock_at kind (after_actions kind actions (first_watch kind cut)).cut j + hop cut j i + 512
clocks_near {C = C} kind law cut until actions i j cable sound may li lj =
    let w : Watched C = after_actions kind actions (first_watch kind cut) in
    let watch =
    watching_played kind law cut until actions (first_watch kind cut) (watching_opened kind cut sound) may in
    let up : (k : ℕ) → k < count cut → k < count w.cut = λ k h. subst (λ (n : ℕ). k < n) (sym watch.count_is) h in
    elim (same_or_apart i j) [
      | inl e ↦ let f = ap (clock_at kind w.cut) e in omega (arith, f)
      | inr apart ↦
          let h : hop w.cut j i ≡ hop cut j i = ap (λ (f : ℕ → ℕ → ℕ). f j i) (hop_same w.cut cut watch.delays_are) in
          omega (arith, h, watch.sound.near i j (up i li) (up j lj) apart)
    ]
