-- Lanes at their opening.
use Rattle.std.specs.Prelude.{true, false, List, [], ◌∷◌, ◌++◌, length, map, All, Some, slice_get, nat_lt}
use Rattle.std.proofs.Common.{ℕ, zero, suc, ◌≡◌, ◌≢◌, ◌+◌, ◌^◌, ◌<◌, ◌≤◌, ◌⊎◌, inl, inr, arith, refl, sym, ap, ◌∙◌, subst}
use Rattle.std.proofs.lemmas.Bool.{cases_lt}
use Rattle.std.proofs.lemmas.Bool.Decides.{nat_tests}
use Rattle.std.proofs.lemmas.List.{length-map, length-append}
use Rattle.link_node.specs.declared.signal.Incoming.{Incoming}
use Rattle.link_order.specs.declared.sent.Sent.{Sent}
use Rattle.link_order.specs.NodeKind.{NodeKind}
use Rattle.link_order.specs.Order.{from}
use Rattle.link_order.specs.Due.{incoming, place_due, waiting}
use Rattle.link_node.specs.declared.delays.Delays.{Delays}
use Rattle.link_node.specs.Delays.{hop_of}
use Rattle.link_order.specs.Cut.{Cut, hop, count, clock_at, IsSound, IsSoundSignal}
use Rattle.link_order.proofs.Numbers.{same_or_apart}
use Rattle.link_order.proofs.Lists.{all_map}
use Rattle.link_order.proofs.DueSignals.{due_takes, due_leaves, due_own, due_other}
use Rattle.link_table.specs.declared.key.Key.{Key}
use Rattle.link_table.specs.Text.{script_of}
use Rattle.link_table.specs.Seated.{SeatState}
use Rattle.link_lane.specs.Following.{LaneState, key_cut, Opens}
use Rattle.link_run.specs.Opening.{CanOpen}
use Rattle.link_run.specs.Rounds.{node_of}

-- of no signals nothing waits
pub nothing_waits : (between : ℕ → ℕ → ℕ) (i was n : ℕ) → waiting between (λ j. from j []) i was n ≡ []
nothing_waits between i was zero = refl
nothing_waits between i was (suc j) =
    let ih = nothing_waits between i was j in
    elim (same_or_apart j i) [
      | inl e ↦
          let own : waiting between (λ (k : ℕ). from k []) i was (suc j)
          ≡ waiting between (λ (k : ℕ). from k []) i was j
          = rw e (due_own between (λ (k : ℕ). from k []) i (nat_lt was)) in
          own ∙ ih
      | inr e ↦ due_other between (λ (k : ℕ). from k []) i (nat_lt was) j e ∙ ih
    ]

-- what waits of a list with one more sent signal
pub one_more_waits : (between : ℕ → ℕ → ℕ) (xs ys : List Sent) (one : Sent) (i was n : ℕ) (old new : List Incoming)
    → ys ≡ xs ++ one ∷ [] → one.sender < n → old ≡ waiting between (λ j. from j xs) i was n
    → (one.sender ≢ i → was < one.signal.clock + between one.sender i
    → new ≡ place_due (incoming (between one.sender i) one.sender one.signal) old)
    → ((one.sender ≡ i) ⊎ (one.signal.clock + between one.sender i ≤ was) → new ≡ old)
    → new ≡ waiting between (λ j. from j ys) i was n
one_more_waits between xs ys one i was n old new more below is takes leaves =
    let whole = ap (λ (t : List Sent). waiting between (λ j. from j t) i was n) (sym more) in
    let arrival : ℕ = one.signal.clock + between one.sender i in
    elim (same_or_apart one.sender i) [
      | inl own ↦ leaves (inl own) ∙ is ∙ sym (due_leaves between xs one i (nat_lt was) n (inl own)) ∙ whole
      | inr apart ↦ elim (cases_lt was arrival) [
        | inl late ↦
            let t : nat_lt was arrival ≡ true = grind (arith, nat_tests) in
            takes apart late ∙ ap (place_due (incoming (between one.sender i) one.sender one.signal)) is
            ∙ sym (due_takes between xs one i (nat_lt was) n below apart t) ∙ whole
        | inr dead ↦
            let t : nat_lt was arrival ≡ false = grind (arith, nat_tests) in
            leaves (inr dead) ∙ is ∙ sym (due_leaves between xs one i (nat_lt was) n (inr t)) ∙ whole
      ]
    ]

-- the signals of a table's cut bear small clocks, and players of the cut sent them
pub sent_early : {N C : Type 0} (kind : NodeKind C) (plain : N → C) (bound : N → ℕ) (node : N)
    (seat : SeatState (Key N)) (sent : List Sent) (delays : Delays) → CanOpen kind plain bound node seat sent delays
    → All (λ (one : Sent). one.signal.clock < 2 ^ 40) sent
unfolding script_of
sent_early {N = N} {C = C} kind plain bound node seat sent delays can =
    let cut : Cut C = key_cut plain can.key in
    subst (λ (l : List Sent). All (λ (one : Sent). one.signal.clock < 2 ^ 40) l) (sym can.sent_is)
    (all_map (IsSoundSignal kind cut) (λ (one : Sent). one.signal.clock < 2 ^ 40) can.key.cut.value.sent
    (λ one h. let below = h.sent_before in
    let small : clock_at kind cut one.sender < 2 ^ 40 = can.script.opens one.sender h.from_player in
    omega (arith, below, small)) can.sound.signals)

pub senders_are : {C : Type 0} (kind : NodeKind C) (cut : Cut C) → IsSound kind cut
    → All (λ (one : Sent). one.sender < count cut) cut.sent
senders_are kind cut sound =
    all_map (IsSoundSignal kind cut) (λ (one : Sent). one.sender < count cut) cut.sent (λ one h. h.from_player)
    sound.signals

-- a node and its seat make a lane with what the node can still take
pub opens_with : {N C : Type 0} (kind : NodeKind C) (plain : N → C) (bound : N → ℕ) (node : N)
    (seat : SeatState (Key N)) (sent : List Sent) (delays : Delays) (player was : ℕ) (opening : List Incoming)
    → CanOpen kind plain bound node seat sent delays → player ≡ seat.player → was ≡ kind.was (plain node)
    → ((n : ℕ) → All (λ (one : Sent). one.sender < n) sent
    → opening ≡ waiting (hop_of delays) (λ j. from j sent) player was n)
    → Opens kind plain bound node seat opening
opens_with {N = N} {C = C} kind plain bound node seat sent delays player was opening can player_is was_is made =
    let cut : Cut C = key_cut plain can.key in
    let n : ℕ = count cut in
    let senders : All (λ (one : Sent). one.sender < n) sent
    = subst (λ (l : List Sent). All (λ (one : Sent). one.sender < n) l) (sym can.sent_is)
    (senders_are kind cut can.sound) in
    record {
      key = can.key;
      seat_is = can.seat_is;
      node_is = can.node_is;
      cable = can.cable;
      sound = can.sound;
      script = can.script;
      limit = can.limit;
      small_limit = can.small_limit;
      opening_is =
          made n senders
          ∙ ap (λ (d : Delays). waiting (hop_of d) (λ j. from j sent) player was n) can.delays_are
          ∙ ap (λ (l : List Sent). waiting (hop cut) (λ j. from j l) player was n) can.sent_is
          ∙ ap (λ (i : ℕ). waiting (hop cut) (λ j. from j can.key.cut.value.sent) i was n) player_is
          ∙ ap (λ (w : ℕ). waiting (hop cut) (λ j. from j can.key.cut.value.sent) seat.player w n) was_is;
    }

-- an element between two parts of a list
pub get_between : {X : Type 0} (xs : List X) (x : X) (ys : List X)
    → slice_get ((xs ++ x ∷ []) ++ ys) (length xs) ≡ Some x
get_between [] x ys = refl
get_between (z ∷ zs) x ys = get_between zs x ys

pub get_there : {X : Type 0} (all old xs ys : List X) (x : X) → old ++ ys ≡ all → old ≡ xs ++ x ∷ []
    → slice_get all (length xs) ≡ Some x
get_there all old xs ys x whole is =
    ap (λ (l : List _). slice_get l (length xs)) (sym whole ∙ ap (λ (l : List _). l ++ ys) is) ∙ get_between xs x ys

-- so many lanes were made of these nodes, and one more is to come
pub one_to_come : {N : Type 0} (all nodes new : List N) (x : N) (lanes : List (LaneState N))
    → nodes ++ map node_of lanes ≡ all → nodes ≡ new ++ x ∷ [] → length lanes + 1 ≤ length all
one_to_come {N = N} all nodes new x lanes whole is =
    omega (
      arith,
      ap length whole,
      ap length is,
      length-append nodes (map node_of lanes),
      length-append new (x ∷ []),
      length-map lanes node_of,
    )
