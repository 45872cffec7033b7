-- Lanes that are taken apart and put together again.
use Rattle.std.specs.Prelude.{List, [], ◌∷◌, ◌++◌, length, map, Some, None, slice_get}
use Rattle.std.proofs.Common.{ℕ, zero, suc, ◌≡◌, ◌<◌, arith, refl, sym, ap, ◌∙◌, subst, get_or, append_assoc, drop}
use Rattle.std.proofs.lemmas.List.{length-map}
use Rattle.atomic_table.specs.Seated.{TableId}
use Rattle.link_node.specs.declared.signal.Incoming.{Incoming}
use Rattle.link_order.specs.declared.sent.Sent.{Sent}
use Rattle.link_order.specs.NodeKind.{NodeKind, IsLawful}
use Rattle.link_node.specs.declared.delays.Delays.{Delays}
use Rattle.link_order.specs.Cut.{Cut, live, plain_cut}
use Rattle.link_core.specs.Kept.{Flight, cut_of}
use Rattle.link_rule.specs.declared.view.Progress.{Progress}
use Rattle.link_rule.specs.Steps.{Met}
use Rattle.link_table.specs.declared.key.Key.{Key}
use Rattle.link_table.specs.Text.{script_of}
use Rattle.link_table.specs.Seated.{SeatState}
use Rattle.link_table.specs.Uniting.{made_of, AreTaken, MayMeet}
use Rattle.link_table.specs.Joining.{JoinedState, AreMet}
use Rattle.link_lane.specs.Following.{LaneState, Follows}
use Rattle.link_run.specs.Rounds.{node_of, seat_of_lane, waits_of, AreLanes}
use Rattle.link_run.specs.Adding.{WaitsIn, PairsRest}
use Rattle.link_run.proofs.Closings.{HaveMet, Closed, closes, get_map, lane_at}
use Rattle.link_run.proofs.Wholes.{Gathering, IsJoint, whole}

-- the first of some lanes goes to the end of another list
pub first_goes : {X Y : Type 0} (f : X → Y) (all old new : List Y) (before after : List X) (x : X) (y : Y)
    → before ≡ x ∷ after → new ≡ old ++ y ∷ [] → y ≡ f x → old ++ map f before ≡ all → new ++ map f after ≡ all
first_goes {X = X} {Y = Y} f all old new before after x y split more is whole =
    ap (λ (l : List Y). l ++ map f after) (more ∙ ap (λ (z : Y). old ++ z ∷ []) is)
    ∙ append_assoc old (f x ∷ []) (map f after)
    ∙ ap (λ (l : List X). old ++ map f l) (sym split) ∙ whole

pub first_of : {X : Type 0} (before after : List X) (x : X) → 0 < length before → x ≡ get_or before 0 x
    → after ≡ drop 1 before → before ≡ x ∷ after
first_of [] after x some is rest = absurd (omega arith)
first_of (y ∷ ys) after x some is rest = ap (λ (z : _). z ∷ ys) (sym is) ∙ ap (λ (l : List _). x ∷ l) (sym rest)

pub none_left : {X : Type 0} (xs : List X) → length xs ≡ 0 → xs ≡ []
none_left [] e = refl
none_left (x ∷ xs) e = absurd (omega arith)

pub one_done : {X : Type 0} (P : X → Type 0) (done : List X) (x : X)
    → ((i : ℕ) (y : X) → slice_get done i ≡ Some y → P y) → P x
    → (i : ℕ) (y : X) → slice_get (done ++ x ∷ []) i ≡ Some y → P y
one_done P [] x all here zero y e = let f : x ≡ y = cc in subst P f here
one_done P [] x all here (suc i) y e = let f : None ≡ Some y = e in cc
one_done P (z ∷ zs) x all here zero y e = all zero y e
one_done P (z ∷ zs) x all here (suc i) y e = one_done P zs x (λ k w s. all (suc k) w s) here i y e

seat_there : {N : Type 0} (lanes : List (LaneState N)) (i : ℕ) (seat : SeatState (Key N))
    → slice_get (map seat_of_lane lanes) i ≡ Some seat
    → (lane : LaneState N) × (slice_get lanes i ≡ Some lane) × (lane.seat ≡ seat)
seat_there [] i seat e = let f : None ≡ Some seat = e in cc
seat_there (x ∷ xs) zero seat e = let f : Some x.seat ≡ Some seat = e in let g : x.seat ≡ seat = cc in (x, refl, g)
seat_there (x ∷ xs) (suc i) seat e = seat_there xs i seat e

-- seats of lanes may meet
pub may_meet : {N C : Type 0} (kind : NodeKind C) (plain : N → C) (key : Key N) (table : TableId)
    (lanes : List (LaneState N)) (seats : List (SeatState (Key N))) → AreLanes kind plain key table lanes
    → seats ≡ map seat_of_lane lanes → MayMeet table seats
may_meet {N = N} kind plain key table lanes seats are seats_are =
    let counts : length seats ≡ length lanes = ap length seats_are ∙ length-map lanes seat_of_lane in
    record {
      some_seat = omega (
        arith,
        counts,
        are.count_is,
        are.cable.some_console,
        length-map key.cut.value.consoles plain,
      );
      each = λ i seat stands.
          let back = seat_there lanes i seat (ap (λ (l : List (SeatState (Key N))). slice_get l i) (sym seats_are)
          ∙ stands) in
          let own = are.each i back.0 back.1 in (
            ap (λ (z : SeatState (Key N)). z.table) (sym back.2) ∙ own.table_is,
            ap (λ (z : SeatState (Key N)). z.player) (sym back.2) ∙ own.player_is,
            ap (λ (z : SeatState (Key N)). z.players) (sym back.2) ∙ own.players_are ∙ sym counts,
          );
    }

-- all that is known once the lanes are taken apart and their seats have met
pub record Gone {N C : Type 0} (kind : NodeKind C) (plain : N → C) (key : Key N) (table : TableId)
    (lanes : List (LaneState N)) (joined : JoinedState (Key N)) : Type 0
  where
    pub have_met : HaveMet kind plain key table lanes
    pub joint : IsJoint lanes joined
    pub keys : joined.key ≡ key ∷ []

pub gone : {N C : Type 0} (kind : NodeKind C) (plain : N → C) (key : Key N) (table : TableId)
    (lanes : List (LaneState N)) (seats : List (SeatState (Key N))) (joined : JoinedState (Key N))
    → AreLanes kind plain key table lanes → seats ≡ map seat_of_lane lanes
    → ((i : ℕ) (lane : LaneState N) (k : Key N) → slice_get lanes i ≡ Some lane → lane.seat.key ≡ k ∷ []
    → Follows kind plain k lane)
    → AreMet seats joined
    → ((k : Key N) → joined.key ≡ k ∷ [] → Met (script_of kind plain k) joined.made)
    → Gone kind plain key table lanes joined
gone {N = N} {C = C} kind plain key table lanes seats joined are seats_are follow met known =
    let first = lane_at kind plain key table lanes are 0 are.cable.some_console in
    let keys : joined.key ≡ key ∷ []
    = met.key_is first.0.seat (ap (λ (l : List (SeatState (Key N))). slice_get l 0) seats_are
    ∙ get_map seat_of_lane lanes 0 first.0 first.1) ∙ (are.each 0 first.0 first.1).key_is in
    let made : joined.made ≡ map made_of (map seat_of_lane lanes)
    = met.made_is ∙ ap (map made_of) seats_are in
    let known_now = known key keys in
    let there : (i : ℕ) (lane : LaneState N) → slice_get lanes i ≡ Some lane
    → slice_get joined.made i ≡ Some lane.seat.made
    = λ i lane stands. ap (λ (l : List Progress). slice_get l i) made
    ∙ get_map made_of (map seat_of_lane lanes) i lane.seat (get_map seat_of_lane lanes i lane stands) in
    record {
      have_met = record {
        lanes_are = are;
        follows = λ i lane stands. follow i lane key stands (are.each i lane stands).key_is;
        placed = λ i lane stands. known_now.placed i lane.seat.made (there i lane stands);
        knows = λ i j a b sa sb apart. known_now.knows i j a.seat.made b.seat.made (there i a sa) (there j b sb) apart;
      };
      joint = record {
        made_is = made;
        taken_is =
            subst (λ (l : List (SeatState (Key N))). AreTaken l joined.fetched (length l)) seats_are met.fetched_is;
      };
      keys = keys;
    }

-- the cut that they make, and how its signals are gathered
pub record Makes {N C : Type 0} (kind : NodeKind C) (plain : N → C) (key : Key N) (lanes : List (LaneState N))
    (joined : JoinedState (Key N)) (lists : List (List Incoming)) (nodes : List N) (delays : Delays) : Type 0
  where
    pub e : Cut C
    pub closed : Closed kind plain key key.limit lanes e
    pub gathers : Gathering (WaitsIn lists) (PairsRest kind plain key joined nodes delays 16) (live kind e).sent

pub makes : {N C : Type 0} (kind : NodeKind C) → IsLawful kind → (plain : N → C) (key : Key N) (table : TableId)
    (lanes : List (LaneState N)) (joined : JoinedState (Key N)) (lists : List (List Incoming)) (nodes : List N)
    (delays : Delays) → Gone kind plain key table lanes joined → lists ≡ map waits_of lanes → nodes ≡ map node_of lanes
    → delays ≡ key.cut.value.delays → Makes kind plain key lanes joined lists nodes delays
makes {N = N} {C = C} kind law plain key table lanes joined lists nodes delays g lists_are nodes_are delays_are =
    let c = closes kind law plain key table lanes g.have_met in
    record {
      e = c.0;
      closed = c.1;
      gathers =
          subst (λ (l : List (List Incoming)). Gathering (WaitsIn l) (PairsRest kind plain key joined nodes delays 16)
          (live kind c.0).sent) (sym lists_are)
          (whole kind law plain key table lanes g.have_met c.0 c.1 joined g.joint nodes delays nodes_are delays_are);
    }

-- the nodes with these signals are the live part of that cut
pub put_together : {N C : Type 0} (kind : NodeKind C) (plain : N → C) (key : Key N) (lanes : List (LaneState N))
    (e : Cut C) (nodes : List N) (flight : Flight) → Closed kind plain key key.limit lanes e → nodes ≡ map node_of lanes
    → flight.delays ≡ key.cut.value.delays → flight.sent ≡ (live kind e).sent
    → plain_cut plain (cut_of nodes flight) ≡ live kind e
put_together {N = N} {C = C} kind plain key lanes e nodes flight closed nodes_are delays_are sent_is =
    let consoles : map plain nodes ≡ e.consoles = ap (map plain) nodes_are ∙ sym closed.consoles in
    let delays : flight.delays ≡ e.delays = delays_are ∙ sym closed.goes_on.delays_are in
    ap (λ (l : List C). let z : Cut C = record { consoles = l; delays = flight.delays; sent = flight.sent } in z)
    consoles
    ∙ ap (λ (d : Delays). let z : Cut C = record { consoles = e.consoles; delays = d; sent = flight.sent } in z) delays
    ∙ ap (λ (l : List Sent). let z : Cut C = record { consoles = e.consoles; delays = e.delays; sent = l } in z) sent_is
