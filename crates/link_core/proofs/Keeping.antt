-- What a cut keeps.
use Rattle.std.specs.Prelude.{false, List, [], ◌∷◌, length, map, filter, All, Option, Some, slice_get, slice_set}
use Rattle.std.specs.Prelude.{slice_index}
use Rattle.std.proofs.Common.{ℕ, zero, suc, ◌≡◌, ◌+◌, ◌<◌, ◌≤◌, inl, inr, arith, refl, sym, ap, ◌∙◌, subst}
use Rattle.link_node.specs.Due.{FitsWidths, IsDue, InOrder}
use Rattle.link_order.specs.declared.sent.Sent.{Sent}
use Rattle.link_order.specs.NodeKind.{NodeKind, IsLawful}
use Rattle.link_order.specs.Order.{is_before, place, place_sent, clock_of, sender_of}
use Rattle.std.proofs.lemmas.List.{length-map}
use Rattle.std.proofs.lemmas.List.Elements.{All-filter, filter_passes}
use Rattle.link_node.specs.declared.signal.Incoming.{Incoming}
use Rattle.link_node.specs.declared.signal.Signal.{Signal}
use Rattle.link_node.specs.Delays.{hop_of}
use Rattle.link_order.specs.Cut.{Cut, plain_cut, count, clock_at, was_at, hop, live, is_live, is_awaited}
use Rattle.link_order.specs.Cut.{IsSound}
use Rattle.link_order.specs.Cut.{IsSoundSignal}
use Rattle.link_order.specs.GlobalOrder.{least, least_below, step, due_at, with_signal, run}
use Rattle.link_order.proofs.Numbers.{least_is_player, least_is_least}
use Rattle.link_order.proofs.Runs.{run_ends}
use Rattle.link_order.proofs.LiveRuns.{live_whole}
use Rattle.std.specs.Prelude.{nat_lt}
use Rattle.std.proofs.lemmas.Bool.{cases_Bool}
use Rattle.std.proofs.lemmas.Bool.Decides.{nat_tests}
use Rattle.link_order.proofs.Hops.{cable_same}
use Rattle.link_order.proofs.Stepping.{console_at, is_stepped}
use Rattle.link_order.proofs.Sound.{sound_live, sound_step, joined_all}
use Rattle.link_order.proofs.Lists.{all_map, all_cons, all_head, all_tail}
use Rattle.link_order.specs.Order.{from}
use Rattle.link_order.specs.Due.{is_due, due}
use Rattle.link_order.proofs.DueOrder.{due_in_order, due_is_due}
use Rattle.link_order.proofs.Places.{place_before, place_past, All-place, sorted_from_ordered, sorted-place}
use Rattle.link_order.proofs.Live.{few_live}
use Rattle.link_core.specs.Kept.{Flight, IsKept, IsFlight, with_sent, AllLive, AllFit}

-- few signals are live at once
pub kept_few : {N C : Type 0} (kind : NodeKind C) (plain : N → C) (cut : Cut N) (sent_room due_room : ℕ)
    → IsKept kind plain cut sent_room due_room → length cut.sent ≤ 10236
kept_few kind plain cut sent_room due_room kept =
    few_live kind (plain_cut plain cut) 1024 kept.cable.some_console kept.cable.at_most_four
    kept.cable.short_delay kept.sound kept.awaited

-- a cut with other sound signals, which are live
pub kept_with : {N C : Type 0} (kind : NodeKind C) (plain : N → C) (cut : Cut N) (sent : List Sent)
    (sent_room due_room room : ℕ) → IsKept kind plain cut sent_room due_room
    → IsSound kind (plain_cut plain (with_sent sent cut)) → AllLive kind (plain_cut plain (with_sent sent cut))
    → AllFit sent → 16384 ≤ room → IsKept kind plain (with_sent sent cut) room due_room
kept_with kind plain cut sent sent_room due_room room kept sound live widths large = record {
  cable = record {
    some_console = kept.cable.some_console;
    at_most_four = kept.cable.at_most_four;
    some_delay = kept.cable.some_delay;
    short_delay = kept.cable.short_delay;
  };
  delays = kept.delays;
  sound = sound;
  awaited = live;
  widths = widths;
  room_of_sent = large;
  room_of_due = kept.room_of_due;
}

pub flight_from_kept : {N C : Type 0} (kind : NodeKind C) (plain : N → C) (cut : Cut N) (sent_room due_room : ℕ)
    → IsKept kind plain cut sent_room due_room
    → IsFlight (record { delays = cut.delays; sent = cut.sent }) sent_room due_room
flight_from_kept kind plain cut sent_room due_room kept = record {
  delays = kept.delays;
  few = omega (arith, kept_few kind plain cut sent_room due_room kept);
  sorted = sorted_from_ordered cut.sent kept.sound.ordered;
  widths = kept.widths;
  room_of_sent = kept.room_of_sent;
  room_of_due = kept.room_of_due;
}

pub length-place : {X : Type 0} (f s : X → ℕ) (x : X) (xs : List X) → length (place f s x xs) ≡ length xs + 1
length-place f s x [] = omega arith
length-place f s x (y ∷ ys) =
    elim (cases_Bool (is_before f s x y)) [
      | inl e ↦ rw (place_before f s x y ys e) (omega arith)
      | inr e ↦ rw (place_past f s x y ys e) (omega (arith, length-place f s x ys))
    ]

-- one more signal
pub flight_more : (flight : Flight) (one : Sent) (sent_room due_room more_room : ℕ) → IsFlight flight sent_room due_room
    → length flight.sent < 16384 → FitsWidths one.signal → sent_room ≤ more_room
    → IsFlight (record { delays = flight.delays; sent = place_sent one flight.sent }) more_room due_room
flight_more flight one sent_room due_room more_room packed room speed more = record {
  delays = packed.delays;
  few = omega (arith, length-place clock_of sender_of one flight.sent);
  sorted = sorted-place one flight.sent packed.sorted;
  widths = All-place clock_of sender_of (λ (other : Sent). FitsWidths other.signal) one flight.sent speed packed.widths;
  room_of_sent = omega (arith, packed.room_of_sent);
  room_of_due = packed.room_of_due;
}

-- what a step of the least console made of the nodes and of the signals
pub record Turned {N C : Type 0} (kind : NodeKind C) (plain : N → C) (cut : Cut N) (i : ℕ) (due : List Incoming)
    (nodes : List N) (signal : Option Signal) (sent : List Sent) : Type 0 where
  pub least_is : i ≡ least kind (plain_cut plain cut)
  pub due_is : due ≡ due_at kind (plain_cut plain cut) i
  pub node_is : (x : C) → slice_get (map plain cut.consoles) i ≡ Some x
      → map plain nodes ≡ slice_set (map plain cut.consoles) i (kind.next x due).0
  pub signal_is : (x : C) → slice_get (map plain cut.consoles) i ≡ Some x → signal ≡ (kind.next x due).1
  pub sent_is : sent ≡ filter (is_awaited (hop_of cut.delays) (slice_index (map kind.was (map plain nodes)))
      (length nodes)) (with_signal i signal cut.sent)

pub turned_live : {N C : Type 0} (kind : NodeKind C) → IsLawful kind
    → (plain : N → C) (cut : Cut N) (i : ℕ) (due : List Incoming) (nodes : List N) (signal : Option Signal)
    (sent : List Sent)
    → 0 < count (plain_cut plain cut) → Turned kind plain cut i due nodes signal sent
    → plain_cut plain (record { consoles = nodes; delays = cut.delays; sent = sent })
    ≡ live kind (step kind (plain_cut plain cut))
turned_live {C = C} kind law plain cut i due nodes signal sent some t =
    let p : Cut C = plain_cut plain cut in
    let l : ℕ = least kind p in
    let below : l < count p = least_is_player (clock_at kind p) (count p) some in
    let at = console_at kind p l below in
    let x : C = at.0 in
    let s = is_stepped kind law p l x (due_at kind p l) below at.1 in
    let stands : slice_get p.consoles i ≡ Some x = ap (slice_get p.consoles) t.least_is ∙ at.1.stands in
    let due_l : due ≡ due_at kind p l = t.due_is ∙ ap (due_at kind p) t.least_is in
    let consoles : map plain nodes ≡ slice_set p.consoles l (kind.next x (due_at kind p l)).0
    = t.node_is x stands ∙ ap (λ (m : ℕ). slice_set p.consoles m (kind.next x due).0) t.least_is
    ∙ ap (λ (d : List Incoming). slice_set p.consoles l (kind.next x d).0) due_l in
    let told : with_signal i signal cut.sent ≡ with_signal l (kind.next x (due_at kind p l)).1 cut.sent
    = ap (λ (o : Option Signal). with_signal i o cut.sent) (t.signal_is x stands
    ∙ ap (λ (d : List Incoming). (kind.next x d).1) due_l)
    ∙ ap (λ (m : ℕ). with_signal m (kind.next x (due_at kind p l)).1 cut.sent) t.least_is in
    let sent_now : sent ≡ filter (is_awaited (hop_of cut.delays) (slice_index (map kind.was (map plain nodes)))
    (length (map plain nodes))) (with_signal i signal cut.sent)
    = rw length-map t.sent_is in
    let make : List C → List Sent → Cut C = λ (cs : List C) (ss : List Sent).
    record {
      consoles = cs;
      delays = cut.delays;
      sent =
          filter (is_awaited (hop_of cut.delays) (slice_index (map kind.was cs)) (length cs)) ss;
    } in
    let first : plain_cut plain (record { consoles = nodes; delays = cut.delays; sent = sent })
    ≡ make (map plain nodes) (with_signal i signal cut.sent)
    = ap (λ (ss : List Sent). let d : Cut C = record { consoles = map plain nodes; delays = cut.delays; sent = ss } in
    d)
    sent_now in
    first
    ∙ ap (λ (cs : List C). make cs (with_signal i signal cut.sent)) consoles
    ∙ ap (make (slice_set p.consoles l (kind.next x (due_at kind p l)).0)) told
    ∙ ap (live kind) (sym s.cut_is)

-- a cut keeps all of this in a step
pub turned_kept : {N C : Type 0} (kind : NodeKind C) → IsLawful kind
    → (plain : N → C) (cut : Cut N) (i : ℕ) (due : List Incoming) (nodes : List N) (signal : Option Signal)
    (sent : List Sent)
    (sent_room due_room more_sent more_due : ℕ) → IsKept kind plain cut sent_room due_room → sent_room ≤ more_sent
    → due_room ≤ more_due
    → Turned kind plain cut i due nodes signal sent
    → IsKept kind plain (record { consoles = nodes; delays = cut.delays; sent = sent }) more_sent more_due
turned_kept {C = C} kind law plain cut i due nodes signal sent sent_room due_room more_sent more_due kept rs rd t =
    let p : Cut C = plain_cut plain cut in
    let l : ℕ = least kind p in
    let some : 0 < count p = kept.cable.some_console in
    let below : l < count p = least_is_player (clock_at kind p) (count p) some in
    let at = console_at kind p l below in
    let s = is_stepped kind law p l at.0 (due_at kind p l) below at.1 in
    let e = turned_live kind law plain cut i due nodes signal sent some t in
    let count_is : count (live kind (step kind p)) ≡ count p = ap count s.cut_is ∙ s.count_is in
    let same_count : length (map plain nodes) ≡ count p = ap count e ∙ count_is in
    let sent_is : sent ≡ filter (is_live kind (step kind p)) (step kind p).sent = ap (λ (d : Cut C). d.sent) e in
    let told : All (λ (one : Sent). FitsWidths one.signal) (step kind p).sent
    = subst (λ (d : Cut C). All (λ (one : Sent). FitsWidths one.signal) d.sent) (sym s.cut_is)
    (joined_all (λ (one : Sent). FitsWidths one.signal) l (kind.next at.0 (due_at kind p l)).1 cut.sent
    (law.fits at.0 (due_at kind p l)) kept.widths) in
    record {
      cable = cable_same _ p same_count refl kept.cable;
      delays = kept.delays;
      sound = subst (IsSound kind) (sym e)
          (sound_live kind (step kind p) (sound_step kind law p some kept.cable.some_delay kept.sound));
      awaited = subst (AllLive kind) (sym e) (filter_passes (is_live kind (step kind p)) (step kind p).sent);
      widths = subst (λ (ss : List Sent). AllFit ss) (sym sent_is)
          (All-filter (is_live kind (step kind p)) (λ (one : Sent). FitsWidths one.signal) (step kind p).sent told);
      room_of_sent = omega (arith, kept.room_of_sent);
      room_of_due = omega (arith, kept.room_of_due);
    }

pub least_known : {N C : Type 0} (kind : NodeKind C) (plain : N → C) (cut : Cut N) (xs : List N) (r : ℕ)
    → xs ≡ cut.consoles
    → r ≡ least_below (slice_index (map kind.clock (map plain xs))) (length xs) → r ≡ least kind (plain_cut plain cut)
least_known {N = N} kind plain cut xs r same is =
    is ∙ ap (λ (ys : List N). least_below (slice_index (map kind.clock (map plain ys))) (length ys)) same
    ∙ ap (least_below (clock_at kind (plain_cut plain cut))) (sym (length-map cut.consoles plain))

senders_known : {C : Type 0} (kind : NodeKind C) (cut : Cut C) (ss : List Sent) → IsSound kind cut → ss ≡ cut.sent
    → All (λ (one : Sent). one.sender < count cut) ss
senders_known kind cut ss sound same =
    subst (λ (t : List Sent). All (λ (one : Sent). one.sender < count cut) t) (sym same)
    (all_map (IsSoundSignal kind cut)
    (λ (one : Sent). one.sender < count cut) cut.sent (λ one h. h.from_player) sound.signals)

-- what was gathered is what is due
pub due_known : {N C : Type 0} (kind : NodeKind C)
    (plain : N → C) (cut : Cut N) (i was clock : ℕ) (ss : List Sent) (xs ys : List N) (new : List Incoming)
    → IsSound kind (plain_cut plain cut) → ss ≡ cut.sent → xs ≡ cut.consoles
    → was ≡ slice_index (map kind.was (map plain xs)) i
    → ys ≡ cut.consoles → clock ≡ slice_index (map kind.clock (map plain ys)) i
    → ((n : ℕ) → All (λ (one : Sent). one.sender < n) ss → new ≡ due (hop_of cut.delays) (λ j. from j ss) i was clock n)
    → new ≡ due_at kind (plain_cut plain cut) i
due_known {N = N} kind plain cut i was clock ss xs ys new sound same here was_is there clock_is gathered =
    let n : ℕ = count (plain_cut plain cut) in
    gathered n (senders_known kind (plain_cut plain cut) ss sound same)
    ∙ ap (λ (t : List Sent). due (hop_of cut.delays) (λ j. from j t) i was clock n) same
    ∙ ap (λ (w : ℕ). due (hop_of cut.delays) (λ j. from j cut.sent) i w clock n)
    (was_is ∙ ap (λ (zs : List N). slice_index (map kind.was (map plain zs)) i) here)
    ∙ ap (λ (k : ℕ). due (hop_of cut.delays) (λ j. from j cut.sent) i (was_at kind (plain_cut plain cut) i) k n)
    (clock_is ∙ ap (λ (zs : List N). slice_index (map kind.clock (map plain zs)) i) there)

-- it stands in order, and each of it may be taken
pub due_may_go : {N C : Type 0} (kind : NodeKind C) (plain : N → C) (cut : Cut N)
    (i : ℕ) (signals : List Incoming) (sent_room due_room : ℕ)
    → IsKept kind plain cut sent_room due_room → i ≡ least kind (plain_cut plain cut)
    → signals ≡ due_at kind (plain_cut plain cut) i
    → InOrder signals × All (IsDue (was_at kind (plain_cut plain cut) i) (clock_at kind (plain_cut plain cut) i))
    signals
due_may_go {C = C} kind plain cut i signals sent_room due_room kept least_is is =
    let p : Cut C = plain_cut plain cut in
    let own : i < count p = subst (λ (n : ℕ). n < count p) (sym least_is)
    (least_is_player (clock_at kind p) (count p) kept.cable.some_console) in (
      subst InOrder (sym is)
          (due_in_order (hop p) p.sent i (is_due (was_at kind p i) (clock_at kind p i)) (count p) kept.sound.ordered),
      subst (All (IsDue (was_at kind p i) (clock_at kind p i))) (sym is)
          (due_is_due (hop p) (λ j. from j p.sent) i (was_at kind p i) (clock_at kind p i) (count p)
          kept.cable.at_most_four (λ j below apart. kept.cable.some_delay j i below own apart)),
    )

-- where the least clock has come to the end, all have, and the run is over
pub all_done : {C : Type 0} (kind : NodeKind C) (p : Cut C) (until : ℕ) → until ≤ clock_at kind p (least kind p)
    → (i : ℕ)
    → i < count p → until ≤ clock_at kind p i
all_done kind p until late i below = omega (arith, late, least_is_least (clock_at kind p) (count p) i below)

pub run_over : {C : Type 0} (kind : NodeKind C) (p : Cut C) (until : ℕ) → AllLive kind p
    → until ≤ clock_at kind p (least kind p)
    → p ≡ live kind (run kind p until)
run_over kind p until awaited late =
    let over : nat_lt (clock_at kind p (least kind p)) until ≡ false = grind (arith, nat_tests) in
    sym (ap (live kind) (run_ends kind p until over) ∙ live_whole kind p awaited)

-- limits that stayed are still as far
pub limits_reach : {N : Type 0} (bound : N → ℕ) (xs ys : List N) (until i : ℕ) → map bound xs ≡ map bound ys
    → All (λ n. until ≤ bound n) ys → i < length xs → until ≤ slice_index (map bound xs) i
limits_reach bound [] ys until i same all below = absurd (omega arith)
limits_reach bound (x ∷ xs) [] until i same all below = cc
limits_reach bound (x ∷ xs) (y ∷ ys) until zero same all below =
    let h : until ≤ bound y = all_head (λ n. until ≤ bound n) y ys all in
    let e : bound x ≡ bound y = cc in
    omega arith
limits_reach bound (x ∷ xs) (y ∷ ys) until (suc i) same all below =
    let e : map bound xs ≡ map bound ys = cc in
    limits_reach bound xs ys until i e (all_tail (λ n. until ≤ bound n) y ys all) (omega arith)

pub limits_stay : {N : Type 0} (bound : N → ℕ) (xs ys : List N) (until : ℕ) → map bound xs ≡ map bound ys
    → All (λ n. until ≤ bound n) ys → All (λ n. until ≤ bound n) xs
limits_stay bound [] ys until same all = λ k d below. absurd (omega arith)
limits_stay bound (x ∷ xs) [] until same all = cc
limits_stay {N = N} bound (x ∷ xs) (y ∷ ys) until same all =
    let e : bound x ≡ bound y = cc in
    let f : map bound xs ≡ map bound ys = cc in
    let h : until ≤ bound y = all_head (λ (n : N). until ≤ bound n) y ys all in
    all_cons (λ (n : N). until ≤ bound n) x xs (omega arith)
    (limits_stay bound xs ys until f (all_tail (λ (n : N). until ≤ bound n) y ys all))
