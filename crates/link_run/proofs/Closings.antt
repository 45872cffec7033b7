-- The cut that some lanes make.
use Rattle.std.specs.Prelude.{List, [], ◌∷◌, ◌++◌, length, map, take, Some, None, slice_get, slice_index}
use Rattle.std.proofs.Common.{ℕ, zero, suc, ◌≡◌, ◌≢◌, ◌<◌, ◌≤◌, arith, refl, sym, ap, ◌∙◌, subst}
use Rattle.std.proofs.lemmas.List.{length-map}
use Rattle.atomic_table.specs.Seated.{TableId}
use Rattle.link_node.specs.declared.signal.Signal.{Signal}
use Rattle.link_order.specs.NodeKind.{NodeKind, IsLawful}
use Rattle.link_order.specs.Order.{from}
use Rattle.link_order.specs.Cut.{Cut, count, clock_at, was_at}
use Rattle.link_order.specs.GlobalOrder.{trace}
use Rattle.link_order.specs.Interleaving.{first_watch, after_actions, moment, count_of}
use Rattle.link_order.specs.Way.{console_after, signals_after}
use Rattle.link_laws.specs.Law.{GoesOn, IsReachable}
use Rattle.link_laws.proofs.Advance.{number_same, number_found}
use Rattle.link_laws.proofs.Going.{same_lists, same_cuts}
use Rattle.link_laws.proofs.Equality.{equality}
use Rattle.link_laws.proofs.Reaching.{reaches_counts}
use Rattle.link_trace.proofs.Ways.{ways}
use Rattle.link_trace.proofs.Prefixes.{prefixes}
use Rattle.link_script.specs.Script.{Script, script, now, sent, told}
use Rattle.link_script.proofs.Lines.{found}
use Rattle.link_script.proofs.Scripts.{now_up}
use Rattle.link_rule.specs.Rule.{IsPlaced, KnowsOf}
use Rattle.link_table.specs.declared.key.Key.{Key}
use Rattle.link_table.specs.Text.{script_of}
use Rattle.link_lane.specs.Following.{LaneState, key_cut, Follows}
use Rattle.link_run.specs.Rounds.{node_of, AreLanes, HaveBegun, Stands}

-- all that is known of lanes whose seats have met
pub record HaveMet {N C : Type 0} (kind : NodeKind C) (plain : N → C) (key : Key N) (table : TableId)
    (lanes : List (LaneState N)) : Type 0
  where
    pub lanes_are : AreLanes kind plain key table lanes
    pub follows : (i : ℕ) (lane : LaneState N) → slice_get lanes i ≡ Some lane → Follows kind plain key lane
    pub placed : (i : ℕ) (lane : LaneState N) → slice_get lanes i ≡ Some lane
        → IsPlaced (script_of kind plain key) i lane.seat.made
    pub knows : (i j : ℕ) (a b : LaneState N) → slice_get lanes i ≡ Some a → slice_get lanes j ≡ Some b → i ≢ j
        → KnowsOf (script_of kind plain key) i j a.seat.made b.seat.made

pub get_map : {X Y : Type 0} (f : X → Y) (xs : List X) (k : ℕ) (x : X) → slice_get xs k ≡ Some x
    → slice_get (map f xs) k ≡ Some (f x)
get_map f [] k x e = let g : None ≡ Some x = e in cc
get_map f (y ∷ ys) zero x e = let g : Some y ≡ Some x = e in let h : y ≡ x = cc in ap (λ (z : _). Some (f z)) h
get_map f (y ∷ ys) (suc k) x e = get_map f ys k x e

-- where a lane stands in the trace to an earlier end
record At {N C : Type 0} (kind : NodeKind C) (plain : N → C) (key : Key N) (until i : ℕ) (lane : LaneState N) : Type 0
  where
    clock_is : clock_at kind
        (moment kind (key_cut plain key) (trace kind (key_cut plain key) until) i lane.seat.made.steps)
        i ≡ now (script_of kind plain key) i lane.seat.made.steps
    was_is : (m : ℕ) → lane.seat.made.steps ≡ suc m
        → was_at kind (moment kind (key_cut plain key) (trace kind (key_cut plain key) until) i lane.seat.made.steps) i
        ≡ now (script_of kind plain key) i m
    within : lane.seat.made.steps ≤ count_of i (trace kind (key_cut plain key) until)
    console : console_after kind (key_cut plain key) (trace kind (key_cut plain key) until) i lane.seat.made.steps
        ≡ Some (plain lane.node)
    signals : signals_after kind (key_cut plain key) (trace kind (key_cut plain key) until) i lane.seat.made.steps
        ≡ from i key.cut.value.sent ++ take (sent (script_of kind plain key) i lane.seat.made.steps)
        (told (script_of kind plain key) i)

begun_within : (clock : ℕ → ℕ) (until most : ℕ) → ((m : ℕ) → clock m < until → m < most) → (k : ℕ)
    → ((m : ℕ) → m < k → clock m < until) → k ≤ most
begun_within clock until most goes zero began = omega arith
begun_within clock until most goes (suc m) began = omega (arith, goes m (began m (omega arith)))

at_place : {N C : Type 0} (kind : NodeKind C) → IsLawful kind → (plain : N → C) (key : Key N) (table : TableId)
    (lanes : List (LaneState N)) (until : ℕ) → HaveMet kind plain key table lanes → until ≤ key.limit
    → HaveBegun kind plain key until lanes → (i : ℕ) (lane : LaneState N) → slice_get lanes i ≡ Some lane
    → i < count (key_cut plain key) → lane.seat.player ≡ i → At kind plain key until i lane
unfolding script_of
at_place {N = N} {C = C} kind law plain key table lanes until h le begun i lane stands below player =
    let cut : Cut C = key_cut plain key in
    let s : Script = script kind cut key.limit in
    let all : List ℕ = trace kind cut key.limit in
    let some : List ℕ = trace kind cut until in
    let k : ℕ = lane.seat.made.steps in
    let w = ways kind law cut key.limit i h.lanes_are.cable h.lanes_are.sound below in
    let p = prefixes kind law cut until key.limit le h.lanes_are.cable h.lanes_are.sound in
    let placed : IsPlaced s i lane.seat.made = h.placed i lane stands in
    let now_is : (m : ℕ) → clock_at kind (moment kind cut all i m) i ≡ now s i m = w.clock_is in
    let within : k ≤ count_of i some
    = begun_within (now s i) until (count_of i some)
    (λ m early. p.begun i m below (subst (λ (c : ℕ). c < until) (sym (now_is m)) early)) k
    (λ m before. begun i lane stands m (omega arith) before) in
    let total : k ≤ count_of i all = omega (arith, placed.within, w.count_is) in
    let consoles = p.consoles i k within in
    let clocks : clock_at kind (moment kind cut all i k) i ≡ clock_at kind (moment kind cut some i k) i
    = number_same kind.clock (moment kind cut all i k).consoles (moment kind cut some i k).consoles i consoles in
    let wases : was_at kind (moment kind cut all i k) i ≡ was_at kind (moment kind cut some i k) i
    = number_same kind.was (moment kind cut all i k).consoles (moment kind cut some i k).consoles i consoles in
    let followed = h.follows i lane stands in
    record {
      clock_is = sym clocks ∙ now_is k;
      was_is = λ m is.
          let step = w.steps m (omega arith) in
          sym wases ∙ ap (λ (q : ℕ). was_at kind (moment kind cut all i q) i) is ∙ step.was_is ∙ now_is m;
      within = within;
      console =
          sym consoles
          ∙ subst (λ (q : ℕ). console_after kind cut all q k ≡ Some (plain lane.node)) player followed.stands;
      signals = sym (p.signals i k within) ∙ w.signals_are k
          ∙ ap (λ (l : List Signal). from i cut.sent ++ l) (w.first_ones k);
    }

pub slice_below : {X : Type 0} (xs : List X) (k : ℕ) (x : X) → slice_get xs k ≡ Some x → k < length xs
slice_below [] k x e = let f : None ≡ Some x = e in cc
slice_below (y ∷ ys) zero x e = omega arith
slice_below (y ∷ ys) (suc k) x e = omega (arith, slice_below ys k x e)

-- the cut that the lanes make
pub record Closed {N C : Type 0} (kind : NodeKind C) (plain : N → C) (key : Key N) (until : ℕ)
    (lanes : List (LaneState N)) (e : Cut C) : Type 0
  where
    pub consoles : e.consoles ≡ map plain (map node_of lanes)
    pub signals : (j : ℕ) (lane : LaneState N) → slice_get lanes j ≡ Some lane → from j e.sent
        ≡ from j key.cut.value.sent ++ take (sent (script_of kind plain key) j lane.seat.made.steps)
        (told (script_of kind plain key) j)
    pub goes_on : GoesOn kind (key_cut plain key) until e

pos_suc : (n : ℕ) → 0 < n → (m : ℕ) × (n ≡ suc m)
pos_suc zero pos = absurd (omega arith)
pos_suc (suc m) pos = (m, refl)

pub lane_at : {N C : Type 0} (kind : NodeKind C) (plain : N → C) (key : Key N) (table : TableId)
    (lanes : List (LaneState N)) → AreLanes kind plain key table lanes → (i : ℕ) → i < count (key_cut plain key)
    → (lane : LaneState N) × (slice_get lanes i ≡ Some lane) × (lane.seat.player ≡ i)
lane_at {N = N} kind plain key table lanes are i below =
    let f = found lanes i (omega (arith, below, are.count_is, length-map key.cut.value.consoles plain)) in
    (f.0, f.1, (are.each i f.0 f.1).player_is)

pub closes_to : {N C : Type 0} (kind : NodeKind C) → IsLawful kind → (plain : N → C) (key : Key N) (table : TableId)
    (lanes : List (LaneState N)) (until : ℕ) → HaveMet kind plain key table lanes → until ≤ key.limit
    → HaveBegun kind plain key until lanes → (e : Cut C) × Closed kind plain key until lanes e
unfolding script_of
closes_to {N = N} {C = C} kind law plain key table lanes until h le begun =
    let cut : Cut C = key_cut plain key in
    let s : Script = script kind cut key.limit in
    let some : List ℕ = trace kind cut until in
    let n : ℕ = count cut in
    let steps : LaneState N → ℕ = λ (lane : LaneState N). lane.seat.made.steps in
    let k : ℕ → ℕ = λ (i : ℕ). slice_index (map steps lanes) i in
    let steps_are : (i : ℕ) (lane : LaneState N) → slice_get lanes i ≡ Some lane → k i ≡ lane.seat.made.steps
    = λ i lane stands. number_found steps lanes i lane stands in
    let place : (i : ℕ) (below : i < n) (lane : LaneState N) → slice_get lanes i ≡ Some lane → lane.seat.player ≡ i
    → At kind plain key until i lane
    = λ i below lane stands player. at_place kind law plain key table lanes until h le begun i lane stands below
    player in
    let reachable : IsReachable kind cut until k = record {
      within = λ i below.
          let a = lane_at kind plain key table lanes h.lanes_are i below in
          omega (arith, steps_are i a.0 a.1, (place i below a.0 a.1 a.2).within);
      heard = λ i j li lj apart some_step.
          let a = lane_at kind plain key table lanes h.lanes_are i li in
          let b = lane_at kind plain key table lanes h.lanes_are j lj in
          let at = place i li a.0 a.1 a.2 in
          let there = place j lj b.0 b.1 b.2 in
          let ka = steps_are i a.0 a.1 in
          let kb = steps_are j b.0 b.1 in
          let m = pos_suc a.0.seat.made.steps (omega arith) in
          let known = h.knows i j a.0 b.0 a.1 b.1 apart in
          let own : was_at kind (moment kind cut some i (k i)) i ≡ now s i m.0
          = ap (λ (q : ℕ). was_at kind (moment kind cut some i q) i) ka ∙ at.was_is m.0 m.1 in
          let peer : clock_at kind (moment kind cut some j (k j)) j ≡ now s j b.0.seat.made.steps
          = ap (λ (q : ℕ). clock_at kind (moment kind cut some j q) j) kb ∙ there.clock_is in
          let allowed = known.allowed m.0 m.1 in
          let up = now_up s h.lanes_are.script j known.seen.at b.0.seat.made.steps lj known.seen.past in
          omega (arith, own, peer, allowed, up, known.based, known.seen.clock_is);
    } in
    let r = reaches_counts kind law cut until k h.lanes_are.cable h.lanes_are.sound reachable in
    let equal = equality kind law cut until r.actions h.lanes_are.cable h.lanes_are.sound r.allowed in
    let e : Cut C = (after_actions kind r.actions (first_watch kind cut)).cut in
    let total : count e ≡ length lanes
    = omega (arith, equal.goes_on.count_is, h.lanes_are.count_is, length-map key.cut.value.consoles plain) in (
      e,
      record {
        consoles =
            same_lists e.consoles (map plain (map node_of lanes))
            (omega (arith, total, length-map lanes node_of, length-map (map node_of lanes) plain))
            (λ i inside.
            let below : i < n = omega (arith, inside, equal.goes_on.count_is) in
            let a = lane_at kind plain key table lanes h.lanes_are i below in
            (r.each i below).console ∙ ap (console_after kind cut some i) (steps_are i a.0 a.1)
            ∙ (place i below a.0 a.1 a.2).console
            ∙ sym (get_map plain (map node_of lanes) i a.0.node (get_map node_of lanes i a.0 a.1)));
        signals = λ j lane stands.
            let below : j < n
            = omega (
              arith,
              slice_below lanes j lane stands,
              h.lanes_are.count_is,
              length-map key.cut.value.consoles plain,
            ) in
            (r.each j below).signals ∙ ap (signals_after kind cut some j) (steps_are j lane stands)
            ∙ (place j below lane stands (h.lanes_are.each j lane stands).player_is).signals;
        goes_on = equal.goes_on;
      },
    )

-- all steps of the trace to the limit begin below it
begun_by_limit : {N C : Type 0} (kind : NodeKind C) → IsLawful kind → (plain : N → C) (key : Key N) (table : TableId)
    (lanes : List (LaneState N)) → HaveMet kind plain key table lanes → HaveBegun kind plain key key.limit lanes
unfolding script_of
begun_by_limit {N = N} {C = C} kind law plain key table lanes h i lane stands m from_none before =
    let cut : Cut C = key_cut plain key in
    let below : i < count cut
    = omega (arith, slice_below lanes i lane stands, h.lanes_are.count_is, length-map key.cut.value.consoles plain) in
    let w = ways kind law cut key.limit i h.lanes_are.cable h.lanes_are.sound below in
    let placed = h.placed i lane stands in
    let step = w.steps m (omega (arith, placed.within, w.count_is)) in
    subst (λ (c : ℕ). c < key.limit) (w.clock_is m) step.early

-- it is one cut, whatever the end
pub closes : {N C : Type 0} (kind : NodeKind C) → IsLawful kind → (plain : N → C) (key : Key N) (table : TableId)
    (lanes : List (LaneState N)) → HaveMet kind plain key table lanes
    → (e : Cut C) × Closed kind plain key key.limit lanes e
closes kind law plain key table lanes h =
    closes_to kind law plain key table lanes key.limit h (omega arith) (begun_by_limit kind law plain key table lanes h)

pub closes_same : {N C : Type 0} (kind : NodeKind C) → IsLawful kind → (plain : N → C) (key : Key N) (table : TableId)
    (lanes : List (LaneState N)) (until : ℕ) → HaveMet kind plain key table lanes → until ≤ key.limit
    → HaveBegun kind plain key until lanes → (e : Cut C) → Closed kind plain key key.limit lanes e
    → GoesOn kind (key_cut plain key) until e
closes_same {N = N} {C = C} kind law plain key table lanes until h le begun e c =
    let d = closes_to kind law plain key table lanes until h le begun in
    let counts : count d.0 ≡ count e = d.1.goes_on.count_is ∙ sym c.goes_on.count_is in
    let same : d.0 ≡ e
    = same_cuts kind d.0 e d.1.goes_on.sound c.goes_on.sound counts (d.1.goes_on.delays_are ∙ sym c.goes_on.delays_are)
    (λ i below.
    let a = lane_at kind plain key table lanes h.lanes_are i (omega (arith, below, d.1.goes_on.count_is)) in
    record {
      console = ap (λ (l : List C). slice_get l i) (d.1.consoles ∙ sym c.consoles);
      signals = d.1.signals i a.0 a.1 ∙ sym (c.signals i a.0 a.1);
    }) in
    subst (GoesOn kind (key_cut plain key) until) same d.1.goes_on

-- a lane's node stands where its seat says
pub stands_at : {N C : Type 0} (kind : NodeKind C) → IsLawful kind → (plain : N → C) (key : Key N) (table : TableId)
    (lanes : List (LaneState N)) → HaveMet kind plain key table lanes → (i : ℕ) (lane : LaneState N)
    → slice_get lanes i ≡ Some lane → Stands kind plain key i lane
stands_at {N = N} {C = C} kind law plain key table lanes h i lane stands =
    let cut : Cut C = key_cut plain key in
    let below : i < count cut
    = omega (arith, slice_below lanes i lane stands, h.lanes_are.count_is, length-map key.cut.value.consoles plain) in
    let at = at_place kind law plain key table lanes key.limit h (omega arith)
    (begun_by_limit kind law plain key table lanes h) i lane stands below (h.lanes_are.each i lane stands).player_is in
    record {
      clock_is =
          sym (number_found kind.clock
          (moment kind cut (trace kind cut key.limit) i lane.seat.made.steps).consoles i (plain lane.node) at.console)
          ∙ at.clock_is;
      within = (h.placed i lane stands).within;
    }
