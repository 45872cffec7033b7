-- The signals of the cut that some lanes make.
use Rattle.std.specs.Prelude.{true, List, [], length, map, take, All, Contains, Some}
use Rattle.std.specs.Prelude.{slice_get, slice_index, nat_lt}
use Rattle.std.proofs.Common.{ℕ, ◌≡◌, ◌≢◌, ◌+◌, ◌<◌, ◌≤◌, ◌⊎◌, inl, inr, arith, refl, sym, ap, ◌∙◌, subst}
use Rattle.std.proofs.Common.{get_or}
use Rattle.std.proofs.lemmas.Bool.{cases_lt}
use Rattle.std.proofs.lemmas.Bool.Decides.{nat_tests}
use Rattle.std.proofs.lemmas.List.{length-map}
use Rattle.std.proofs.lemmas.List.Elements.{All-contains, All-contains_itself, Contains-append_left, Contains-append_right}
use Rattle.std.proofs.lemmas.List.Elements.{Contains-append_cases, filter_passes}
use Rattle.atomic_table.specs.Seated.{TableId}
use Rattle.link_node.specs.Due.{FitsWidths}
use Rattle.link_node.specs.declared.signal.Incoming.{Incoming}
use Rattle.link_node.specs.declared.signal.Signal.{Signal}
use Rattle.link_order.specs.declared.sent.Sent.{Sent}
use Rattle.link_order.specs.NodeKind.{NodeKind, IsLawful}
use Rattle.link_order.specs.Order.{from, IsOrdered}
use Rattle.link_order.specs.Due.{incoming, waiting}
use Rattle.link_node.specs.declared.delays.Delays.{Delays}
use Rattle.link_node.specs.Delays.{hop_of}
use Rattle.link_order.specs.Cut.{Cut, hop, count, was_at, live, is_live, IsSoundSignal}
use Rattle.link_order.proofs.Hops.{hop_same}
use Rattle.link_order.proofs.Lists.{all_nil, all_map, pairs_nil}
use Rattle.link_order.proofs.Awaited.{awaits, is_awaited_by}
use Rattle.link_order.proofs.DueOrder.{arriving_all, due_all}
use Rattle.link_order.proofs.Live.{few_live}
use Rattle.link_order.proofs.Sound.{sound_live}
use Rattle.link_order.proofs.Places.{Comes}
use Rattle.link_order.specs.Order.{clock_of, sender_of}
use Rattle.link_laws.proofs.Advance.{number_found}
use Rattle.link_trace.proofs.Gatherings.{ordered_members}
use Rattle.link_script.specs.Script.{Script, sent, told}
use Rattle.link_script.proofs.Scripts.{sent_up, signal_is}
use Rattle.link_rule.specs.declared.view.Progress.{Progress}
use Rattle.link_rule.specs.Rule.{peer_at}
use Rattle.link_table.specs.declared.key.Key.{Key}
use Rattle.link_table.specs.Text.{script_of}
use Rattle.link_table.specs.Uniting.{made_of, pair_place, AreTaken}
use Rattle.link_table.specs.Joining.{JoinedState}
use Rattle.link_lane.specs.Following.{LaneState, key_cut, known_of}
use Rattle.link_run.specs.Rounds.{node_of, seat_of_lane, waits_of}
use Rattle.link_run.specs.Adding.{Adds, MayAdd, as_sent, WaitsIn, PairsRest, sent_at}
use Rattle.link_run.proofs.Closings.{HaveMet, Closed, get_map, slice_below, lane_at}
use Rattle.link_run.proofs.Members.{first_at, at_first, first_more, here_passes, passes_here}
use Rattle.link_run.proofs.Members.{here_from, from_here, here_arrivals}

-- two kinds of signals that together are an ordered list
pub record Gathering (P Q : Sent → Type 0) (all : List Sent) : Type 0 where
  pub ordered : IsOrdered all
  pub few : length all < 16384
  pub fit : (one : Sent) → Contains all one → FitsWidths one.signal
  pub first : (one : Sent) → P one → Contains all one
  pub second : (one : Sent) → Q one → Contains all one
  pub cover : (one : Sent) → Contains all one → P one ⊎ Q one

pub may_first : (P Q : Sent → Type 0) (all : List Sent) → Gathering P Q all → MayAdd P []
may_first P Q all g = record {
  all = all;
  ordered = g.ordered;
  few = g.few;
  part = record { ordered = pairs_nil (Comes clock_of sender_of); inside = all_nil (Contains all) };
  inside = g.first;
  fit = λ one p. g.fit one (g.first one p);
}

pub may_second : (P Q : Sent → Type 0) (all mid : List Sent) → Gathering P Q all → Adds P [] mid → MayAdd Q mid
may_second P Q all mid g a = record {
  all = all;
  ordered = g.ordered;
  few = g.few;
  part =
      a.part all g.ordered g.first
      (record { ordered = pairs_nil (Comes clock_of sender_of); inside = all_nil (Contains all) });
  inside = g.second;
  fit = λ one q. g.fit one (g.second one q);
}

pub gathered_all : (P Q : Sent → Type 0) (all mid new : List Sent) → Gathering P Q all → Adds P [] mid → Adds Q mid new
    → new ≡ all
gathered_all P Q all mid new g a b =
    let first = a.part all g.ordered g.first
    (record { ordered = pairs_nil (Comes clock_of sender_of); inside = all_nil (Contains all) }) in
    let part = b.part all g.ordered g.second first in
    ordered_members new all part.ordered g.ordered part.inside
    (all_map (Contains all) (Contains new) all
    (λ one c. elim (g.cover one c) [ inl p ↦ b.kept one (a.there one p) | inr q ↦ b.there one q ])
    (All-contains_itself all))

-- a joined seat of these lanes
pub record IsJoint {N : Type 0} (lanes : List (LaneState N)) (joined : JoinedState (Key N)) : Type 0 where
  pub made_is : joined.made ≡ map made_of (map seat_of_lane lanes)
  pub taken_is : AreTaken (map seat_of_lane lanes) joined.fetched (length (map seat_of_lane lanes))

module _ {N C : Type 0} (kind : NodeKind C) (law : IsLawful kind) (plain : N → C) (key : Key N) (table : TableId)
    (lanes : List (LaneState N)) (h : HaveMet kind plain key table lanes) (e : Cut C)
    (c : Closed kind plain key key.limit lanes e) where
  total_is : length lanes ≡ count (key_cut plain key)
  total_is = h.lanes_are.count_is ∙ sym (length-map key.cut.value.consoles plain)

  below_of : (i : ℕ) (lane : LaneState N) → slice_get lanes i ≡ Some lane → i < count (key_cut plain key)
  below_of i lane stands = omega (arith, slice_below lanes i lane stands, total_is)

  was_is : (i : ℕ) (lane : LaneState N) → slice_get lanes i ≡ Some lane → was_at kind e i ≡ kind.was (plain lane.node)
  was_is i lane stands =
      number_found kind.was e.consoles i (plain lane.node)
      (ap (λ (l : List C). slice_get l i) c.consoles
      ∙ get_map plain (map node_of lanes) i lane.node (get_map node_of lanes i lane stands))

  hop_is_so : hop e ≡ hop (key_cut plain key)
  hop_is_so = hop_same e (key_cut plain key) c.goes_on.delays_are

  -- a signal that some lane's node can still take is live
  live_by : (i : ℕ) (lane : LaneState N) → slice_get lanes i ≡ Some lane → (one : Sent) → Contains e.sent one
      → i ≢ one.sender
      → kind.was (plain lane.node) < one.signal.clock + hop (key_cut plain key) one.sender i
      → Contains (live kind e).sent one
  live_by i lane stands one there apart late =
      let hops : hop e one.sender i ≡ hop (key_cut plain key) one.sender i
      = ap (λ (f : ℕ → ℕ → ℕ). f one.sender i) hop_is_so in
      let below : i < count e = omega (arith, below_of i lane stands, c.goes_on.count_is) in
      here_passes (is_live kind e) e.sent one there
      (is_awaited_by (hop e) (was_at kind e) (count e) one i below apart
      (omega (arith, late, hops, was_is i lane stands)))

  -- what a lane has fetched was sent
  taken_sent : (i j : ℕ) (a b : LaneState N) → slice_get lanes i ≡ Some a → slice_get lanes j ≡ Some b → i ≢ j
      → (peer_at a.seat.made.peers j).taken ≤ sent (script_of kind plain key) j b.seat.made.steps
  unfolding script_of
  taken_sent i j a b sa sb apart =
      let k = h.knows i j a b sa sb apart in
      let up = sent_up (script_of kind plain key) h.lanes_are.script j k.seen.at b.seat.made.steps (below_of j b sb)
      k.seen.past in
      omega (arith, k.fetched, k.seen.count_is, up)

  known_sent : (i j : ℕ) (a b : LaneState N) → slice_get lanes i ≡ Some a → slice_get lanes j ≡ Some b → i ≢ j
      → (signal : Signal)
      → Contains (known_of (key_cut plain key) (script_of kind plain key) a.seat.made.peers j) signal
      → Contains e.sent (record { sender = j; signal = signal })
  known_sent i j a b sa sb apart signal known =
      let old : List Signal = from j key.cut.value.sent in
      let all : List Signal = told (script_of kind plain key) j in
      let taken : ℕ = (peer_at a.seat.made.peers j).taken in
      let made : ℕ = sent (script_of kind plain key) j b.seat.made.steps in
      here_from e.sent j signal (subst (λ (l : List Signal). Contains l signal) (sym (c.signals j b sb))
      (elim (Contains-append_cases old (take taken all) signal known) [
        | inl before ↦ Contains-append_left old (take made all) signal before
        | inr since ↦ Contains-append_right old (take made all) signal
            (first_more all taken made signal (taken_sent i j a b sa sb apart) since)
      ]))

  lane_of : (j : ℕ) → j < count (key_cut plain key) → (lane : LaneState N) × (slice_get lanes j ≡ Some lane)
  lane_of j below = let a = lane_at kind plain key table lanes h.lanes_are j below in (a.0, a.1)

  -- what waits for player i: a signal that it knows of another player, and that it can still take
  record IsKnownOf (i : ℕ) (lane : LaneState N) (one : Incoming) : Type 0 where
    below : one.sender < count (key_cut plain key)
    apart : one.sender ≢ i
    known : Contains (known_of (key_cut plain key) (script_of kind plain key) lane.seat.made.peers one.sender)
        one.signal
    late : kind.was (plain lane.node) < one.signal.clock + hop (key_cut plain key) one.sender i

  waits_known : (i : ℕ) (lane : LaneState N) → slice_get lanes i ≡ Some lane → All (IsKnownOf i lane) lane.waits
  waits_known i lane stands =
      let known : ℕ → List Signal = known_of (key_cut plain key) (script_of kind plain key) lane.seat.made.peers in
      let was : ℕ = kind.was (plain lane.node) in
      let followed = h.follows i lane stands in
      let player : lane.seat.player ≡ i = (h.lanes_are.each i lane stands).player_is in
      let waits_are : lane.waits ≡ waiting (hop (key_cut plain key)) known i was (count (key_cut plain key))
      = followed.waits_are
      ∙ ap (λ (p : ℕ). waiting (hop (key_cut plain key)) known p was (count (key_cut plain key))) player in
      subst (λ (l : List Incoming). All (IsKnownOf i lane) l) (sym waits_are)
      (due_all (IsKnownOf i lane) (hop (key_cut plain key)) known i (nat_lt was) (count (key_cut plain key))
      (λ j below apart. arriving_all (IsKnownOf i lane) (nat_lt was) (hop (key_cut plain key) j i) j (known j)
      (all_map (Contains (known j))
      (λ (s : Signal). nat_lt was (s.clock + hop (key_cut plain key) j i) ≡ true
      → IsKnownOf i lane (incoming (hop (key_cut plain key) j i) j s)) (known j)
      (λ s there test. record {
        below = below;
        apart = apart;
        known = there;
        late = less was (s.clock + hop (key_cut plain key) j i) test;
      }) (All-contains_itself (known j)))))
    where
      less : (a b : ℕ) → nat_lt a b ≡ true → a < b
      less a b e = grind (arith, nat_tests)

  waits_inside : (one : Sent) → WaitsIn (map waits_of lanes) one → Contains (live kind e).sent one
  waits_inside one w =
      let below : w.place < length lanes
      = omega (arith, slice_below (map waits_of lanes) w.place w.waits w.stands, length-map lanes waits_of) in
      let at = lane_of w.place (omega (arith, below, total_is)) in
      let lane : LaneState N = at.0 in
      let same : Some w.waits ≡ Some lane.waits = sym w.stands ∙ get_map waits_of lanes w.place lane at.1 in
      let own : w.waits ≡ lane.waits = cc in
      let all : All (IsKnownOf w.place lane) w.waits
      = subst (λ (l : List Incoming). All (IsKnownOf w.place lane) l) (sym own) (waits_known w.place lane at.1) in
      let here = all w.waiting.place w.waiting.other w.waiting.below in
      let other : Incoming = get_or w.waits w.waiting.place w.waiting.other in
      let peer = lane_of other.sender here.below in
      let there =
      known_sent w.place other.sender lane peer.0 at.1 peer.1 (λ s. here.apart (sym s)) other.signal here.known
      in
      subst (λ (z : Sent). Contains (live kind e).sent z) (sym w.waiting.is)
      (live_by w.place lane at.1 (as_sent other) there (λ s. here.apart (sym s)) here.late)

  -- what a player knows of another and can still take waits for it
  waits_by : (i : ℕ) (lane : LaneState N) → slice_get lanes i ≡ Some lane → (one : Sent)
      → one.sender < count (key_cut plain key) → one.sender ≢ i
      → Contains (known_of (key_cut plain key) (script_of kind plain key) lane.seat.made.peers one.sender) one.signal
      → kind.was (plain lane.node) < one.signal.clock + hop (key_cut plain key) one.sender i
      → WaitsIn (map waits_of lanes) one
  waits_by i lane stands one below apart there late =
      let known : ℕ → List Signal = known_of (key_cut plain key) (script_of kind plain key) lane.seat.made.peers in
      let was : ℕ = kind.was (plain lane.node) in
      let between : ℕ → ℕ → ℕ = hop (key_cut plain key) in
      let followed = h.follows i lane stands in
      let player : lane.seat.player ≡ i = (h.lanes_are.each i lane stands).player_is in
      let waits_are : lane.waits ≡ waiting between known i was (count (key_cut plain key))
      = followed.waits_are ∙ ap (λ (p : ℕ). waiting between known p was (count (key_cut plain key))) player in
      let other : Incoming = incoming (between one.sender i) one.sender one.signal in
      let here : Contains lane.waits other
      = subst (λ (l : List Incoming). Contains l other) (sym waits_are)
      (here_arrivals between known i (nat_lt was) (count (key_cut plain key)) one.sender one.signal below apart there
      (test was (one.signal.clock + between one.sender i) late)) in
      record {
        place = i;
        waits = lane.waits;
        stands = get_map waits_of lanes i lane stands;
        waiting = record { place = here.0; other = other; below = here.1; is = ap as_sent (sym here.2) };
      }
    where
      test : (a b : ℕ) → a < b → nat_lt a b ≡ true
      test a b less = grind (arith, nat_tests)

  fits_all : (one : Sent) → Contains (live kind e).sent one → FitsWidths one.signal
  unfolding script_of
  fits_all one there =
      let passes = passes_here (is_live kind e) e.sent one there in
      let j : ℕ = one.sender in
      let sound = All-contains (IsSoundSignal kind e) e.sent one c.goes_on.sound.signals passes.0 in
      let below : j < count (key_cut plain key) = omega (arith, sound.from_player, c.goes_on.count_is) in
      let b = lane_of j below in
      let old : List Signal = from j key.cut.value.sent in
      let s : Script = script_of kind plain key in
      let made : ℕ = sent s j b.0.seat.made.steps in
      elim (Contains-append_cases old (take made (told s j)) one.signal
      (subst (λ (l : List Signal). Contains l one.signal) (c.signals j b.0 b.1) (from_here e.sent one passes.0))) [
        | inl before ↦ All-contains (λ (z : Sent). FitsWidths z.signal) key.cut.value.sent
            (record { sender = j; signal = one.signal }) h.lanes_are.fit
            (here_from key.cut.value.sent j one.signal before)
        | inr since ↦
            let at = at_first (told s j) made one.signal since in
            (signal_is s h.lanes_are.script j at.place one.signal below at.stands).fits
      ]

  module _ (joined : JoinedState (Key N)) (joint : IsJoint lanes joined) (nodes : List N) (delays : Delays)
      (nodes_are : nodes ≡ map node_of lanes) (delays_are : delays ≡ key.cut.value.delays) where
    sent_is : (j : ℕ) (lane : LaneState N) → slice_get lanes j ≡ Some lane
        → sent_at joined.made j ≡ sent (script_of kind plain key) j lane.seat.made.steps
    sent_is j lane stands =
        number_found (λ (z : Progress). z.sent) joined.made j lane.seat.made
        (ap (λ (l : List Progress). slice_get l j) joint.made_is
        ∙ get_map made_of (map seat_of_lane lanes) j lane.seat (get_map seat_of_lane lanes j lane stands))
        ∙ (h.placed j lane stands).counted

    fetched_is : (i j : ℕ) (lane : LaneState N) → slice_get lanes i ≡ Some lane → j < 4
        → slice_index joined.fetched (pair_place i j) ≡ (peer_at lane.seat.made.peers j).taken
    fetched_is i j lane stands small =
        joint.taken_is i j lane.seat (get_map seat_of_lane lanes i lane stands)
        (omega (arith, slice_below lanes i lane stands, length-map lanes seat_of_lane)) small

    was_of_node : (i : ℕ) (lane : LaneState N) → slice_get lanes i ≡ Some lane
        → slice_index (map kind.was (map plain nodes)) i ≡ kind.was (plain lane.node)
    was_of_node i lane stands =
        number_found kind.was (map plain nodes) i (plain lane.node)
        (get_map plain nodes i lane.node
        (ap (λ (l : List N). slice_get l i) nodes_are ∙ get_map node_of lanes i lane stands))

    node_count : length nodes ≡ count (key_cut plain key)
    node_count = ap length nodes_are ∙ length-map lanes node_of ∙ total_is

    rests_inside : (one : Sent) → PairsRest kind plain key joined nodes delays 16 one → Contains (live kind e).sent one
    rests_inside one p =
        let q = p.rest in
        let r = q.rest in
        let a = lane_of q.own (omega (arith, q.own_below, node_count)) in
        let b = lane_of q.peer (omega (arith, q.peer_below, node_count)) in
        let there : Contains (from q.peer e.sent) r.signal
        = subst (λ (l : List Signal). Contains l r.signal) (sym (c.signals q.peer b.0 b.1))
        (Contains-append_right (from q.peer key.cut.value.sent)
        (take (sent (script_of kind plain key) q.peer b.0.seat.made.steps) (told (script_of kind plain key) q.peer))
        r.signal (first_at (told (script_of kind plain key) q.peer)
        (sent (script_of kind plain key) q.peer b.0.seat.made.steps) r.number r.signal r.stands
        (omega (arith, r.before, sent_is q.peer b.0 b.1)))) in
        let hops : hop_of delays q.peer q.own ≡ hop (key_cut plain key) q.peer q.own
        = ap (λ (d : Delays). hop_of d q.peer q.own) delays_are in
        subst (λ (z : Sent). Contains (live kind e).sent z) (sym r.is)
        (live_by q.own a.0 a.1 (record { sender = q.peer; signal = r.signal })
        (here_from e.sent q.peer r.signal there) (λ s. q.apart (sym s))
        (omega (arith, r.late, hops, was_of_node q.own a.0 a.1)))

    cover_all : (one : Sent) → Contains (live kind e).sent one
        → WaitsIn (map waits_of lanes) one ⊎ PairsRest kind plain key joined nodes delays 16 one
    cover_all one there =
        let passes = passes_here (is_live kind e) e.sent one there in
        let heard = awaits (hop e) (was_at kind e) (count e) one passes.1 in
        let j : ℕ = one.sender in
        let i : ℕ = heard.player in
        let sound = All-contains (IsSoundSignal kind e) e.sent one c.goes_on.sound.signals passes.0 in
        let peer_below : j < count (key_cut plain key) = omega (arith, sound.from_player, c.goes_on.count_is) in
        let own_below : i < count (key_cut plain key) = omega (arith, heard.below, c.goes_on.count_is) in
        let a = lane_of i own_below in
        let b = lane_of j peer_below in
        let old : List Signal = from j key.cut.value.sent in
        let told_all : List Signal = told (script_of kind plain key) j in
        let made : ℕ = sent (script_of kind plain key) j b.0.seat.made.steps in
        let taken : ℕ = (peer_at a.0.seat.made.peers j).taken in
        let known : ℕ → List Signal = known_of (key_cut plain key) (script_of kind plain key) a.0.seat.made.peers in
        let apart : j ≢ i = λ s. heard.apart (sym s) in
        let hops : hop e j i ≡ hop (key_cut plain key) j i = ap (λ (f : ℕ → ℕ → ℕ). f j i) hop_is_so in
        let late : kind.was (plain a.0.node) < one.signal.clock + hop (key_cut plain key) j i
        = omega (arith, heard.hears, hops, was_is i a.0 a.1) in
        let four : j < 4 = omega (arith, peer_below, h.lanes_are.cable.at_most_four) in
        let as_waiting : Contains (known j) one.signal
        → WaitsIn (map waits_of lanes) one ⊎ PairsRest kind plain key joined nodes delays 16 one
        = λ k. inl (waits_by i a.0 a.1 one peer_below apart k late) in
        elim (Contains-append_cases old (take made told_all) one.signal
        (subst (λ (l : List Signal). Contains l one.signal) (c.signals j b.0 b.1) (from_here e.sent one passes.0))) [
          | inl before ↦ as_waiting (Contains-append_left old (take taken told_all) one.signal before)
          | inr since ↦
              let at = at_first told_all made one.signal since in
              elim (cases_lt at.place taken) [
                | inl fetched ↦ as_waiting (Contains-append_right old (take taken told_all) one.signal
                    (first_at told_all taken at.place one.signal at.stands fetched))
                | inr left ↦ inr (record {
                  pair = pair_place i j;
                  below = omega (arith, own_below, h.lanes_are.cable.at_most_four, four);
                  rest = record {
                    own = i;
                    peer = j;
                    pair_is = refl;
                    own_below = omega (arith, own_below, node_count);
                    peer_below = omega (arith, peer_below, node_count);
                    apart = apart;
                    rest = record {
                      number = at.place;
                      signal = one.signal;
                      from_first = omega (arith, left, fetched_is i j a.0 a.1 four);
                      before = omega (arith, at.below, sent_is j b.0 b.1);
                      stands = at.stands;
                      late =
                          omega (arith, late, ap (λ (d : Delays). hop_of d j i) delays_are, was_of_node i a.0 a.1);
                      is = refl;
                    };
                  };
                })
              ]
        ]

    pub whole : Gathering (WaitsIn (map waits_of lanes)) (PairsRest kind plain key joined nodes delays 16)
        (live kind e).sent
    whole =
        let sound = sound_live kind e c.goes_on.sound in
        let cable = c.goes_on.cable in
        let few = few_live kind (live kind e) 1024 cable.some_console cable.at_most_four cable.short_delay sound
        (filter_passes (is_live kind e) e.sent) in
        record {
          ordered = sound.ordered;
          few = omega arith;
          fit = fits_all;
          first = waits_inside;
          second = rests_inside;
          cover = cover_all;
        }
