-- A round at its opening.
use Rattle.std.specs.Prelude.{List, length, map, Some, slice_get}
use Rattle.std.proofs.Common.{ℕ, ◌≡◌, arith, sym, ap, ◌∙◌, subst}
use Rattle.std.proofs.lemmas.List.{length-map}
use Rattle.atomic_table.specs.Seated.{TableId}
use Rattle.link_order.specs.declared.sent.Sent.{Sent}
use Rattle.link_order.specs.NodeKind.{NodeKind}
use Rattle.link_node.specs.declared.delays.Delays.{Delays}
use Rattle.link_order.specs.Cut.{Cut, plain_cut, IsSound, IsCable}
use Rattle.link_laws.proofs.Advance.{number_found}
use Rattle.link_core.specs.Kept.{Flight, AllFit, cut_of}
use Rattle.link_table.specs.declared.key.Key.{Key}
use Rattle.link_table.specs.Seated.{SeatState}
use Rattle.link_table.specs.Opening.{opening_seat}
use Rattle.link_table.specs.Opening as table
use Rattle.link_lane.specs.Following.{LaneState}
use Rattle.link_run.specs.Opening.{CanOpenAll}
use Rattle.link_run.specs.Rounds.{node_of, seat_of_lane, AreLanes, AreOpened}
use Rattle.link_run.proofs.Closings.{get_map, slice_below}

-- the parts of a cut, put together, are the cut
pub same_cut : {N : Type 0} (cut : Cut N) (nodes : List N) (flight : Flight) → nodes ≡ cut.consoles
    → flight.delays ≡ cut.delays → flight.sent ≡ cut.sent → cut_of nodes flight ≡ cut
same_cut {N = N} cut nodes flight nodes_are delays_are sent_is =
    ap (λ (l : List N). let z : Cut N = record { consoles = l; delays = flight.delays; sent = flight.sent } in z)
    nodes_are
    ∙ ap (λ (d : Delays). let z : Cut N = record { consoles = cut.consoles; delays = d; sent = flight.sent } in z)
    delays_are
    ∙ ap (λ (l : List Sent). let z : Cut N = record { consoles = cut.consoles; delays = cut.delays; sent = l } in z)
    sent_is

-- the nodes and seats of a new table make lanes
pub can_open : {N C : Type 0} (kind : NodeKind C) (plain : N → C) (bound : N → ℕ) (cut : Cut N) (id : TableId)
    (nodes : List N) (seats : List (SeatState (Key N))) (sent : List Sent) (delays : Delays)
    → table.Begins kind plain bound cut id seats → IsCable (plain_cut plain cut) → IsSound kind (plain_cut plain cut)
    → nodes ≡ cut.consoles → sent ≡ cut.sent → delays ≡ cut.delays → CanOpenAll kind plain bound nodes seats sent delays
can_open {N = N} {C = C} kind plain bound cut id nodes seats sent delays b cable sound nodes_are sent_is delays_are =
    let key : Key N = b.key in
    let cuts : key.cut.value ≡ cut = b.cut_is in
    let consoles : length cut.consoles ≡ length key.cut.value.consoles
    = ap (λ (d : Cut N). length d.consoles) (sym cuts) in
    record {
      same = b.dealt.count_is ∙ ap length (sym nodes_are);
      each = λ i node seat at_node at_seat.
          let is : seat ≡ opening_seat kind plain key id i (length cut.consoles) = b.dealt.each i seat at_seat in
          let table_is : seat.table ≡ id = ap (λ (z : SeatState (Key N)). z.table) is in
          let player_is : seat.player ≡ i = ap (λ (z : SeatState (Key N)). z.player) is in
          let there : slice_get cut.consoles i ≡ Some node
          = ap (λ (l : List N). slice_get l i) (sym nodes_are) ∙ at_node in
          let low = b.limit_is.none_below i
          (omega (arith, slice_below cut.consoles i node there, length-map cut.consoles bound)) in
          let own = number_found bound cut.consoles i node there in
          record {
            key = key;
            seat_is =
                is ∙ ap (λ (t : TableId). opening_seat kind plain key t i (length cut.consoles)) (sym table_is)
                ∙ ap (λ (p : ℕ). opening_seat kind plain key seat.table p (length cut.consoles)) (sym player_is)
                ∙ ap (opening_seat kind plain key seat.table seat.player) consoles;
            node_is =
                ap (λ (d : Cut N). slice_get d.consoles seat.player) cuts
                ∙ ap (slice_get cut.consoles) player_is ∙ there;
            cable = subst (λ (d : Cut N). IsCable (plain_cut plain d)) (sym cuts) cable;
            sound = subst (λ (d : Cut N). IsSound kind (plain_cut plain d)) (sym cuts) sound;
            script = b.sound;
            limit = omega (arith, low, own);
            small_limit = b.small_limit;
            sent_is = sent_is ∙ ap (λ (d : Cut N). d.sent) (sym cuts);
            delays_are = delays_are ∙ ap (λ (d : Cut N). d.delays) (sym cuts);
          };
    }

-- and these lanes are a round of the cut
pub are_lanes : {N C : Type 0} (kind : NodeKind C) (plain : N → C) (bound : N → ℕ) (cut : Cut N) (id : TableId)
    (seats : List (SeatState (Key N))) (lanes : List (LaneState N)) (b : table.Begins kind plain bound cut id seats)
    → IsCable (plain_cut plain cut) → IsSound kind (plain_cut plain cut) → AllFit cut.sent
    → map seat_of_lane lanes ≡ seats → AreLanes kind plain b.key id lanes
are_lanes {N = N} {C = C} kind plain bound cut id seats lanes b cable sound fit seats_are =
    let key : Key N = b.key in
    let cuts : key.cut.value ≡ cut = b.cut_is in
    let counts : length lanes ≡ length cut.consoles
    = sym (length-map lanes seat_of_lane) ∙ ap length seats_are ∙ b.dealt.count_is in
    record {
      cable = subst (λ (d : Cut N). IsCable (plain_cut plain d)) (sym cuts) cable;
      sound = subst (λ (d : Cut N). IsSound kind (plain_cut plain d)) (sym cuts) sound;
      fit = subst (λ (d : Cut N). AllFit d.sent) (sym cuts) fit;
      script = b.sound;
      small_limit = b.small_limit;
      count_is = counts ∙ ap (λ (d : Cut N). length d.consoles) (sym cuts);
      each = λ i lane stands.
          let is : lane.seat ≡ opening_seat kind plain key id i (length cut.consoles)
          = b.dealt.each i lane.seat (ap (λ (l : List (SeatState (Key N))). slice_get l i) (sym seats_are)
          ∙ get_map seat_of_lane lanes i lane stands) in
          record {
            table_is = ap (λ (z : SeatState (Key N)). z.table) is;
            key_is = ap (λ (z : SeatState (Key N)). z.key) is;
            player_is = ap (λ (z : SeatState (Key N)). z.player) is;
            players_are = ap (λ (z : SeatState (Key N)). z.players) is ∙ sym counts;
          };
    }

pub are_opened : {N C : Type 0} (kind : NodeKind C) (plain : N → C) (bound : N → ℕ) (cut : Cut N) (id : TableId)
    (seats : List (SeatState (Key N))) (lanes : List (LaneState N)) (b : table.Begins kind plain bound cut id seats)
    → map node_of lanes ≡ cut.consoles → map seat_of_lane lanes ≡ seats → AreOpened kind plain bound cut b.key lanes
are_opened {N = N} kind plain bound cut id seats lanes b nodes_are seats_are = record {
  cut_is = b.cut_is;
  limit_is = b.limit_is;
  nodes_are = nodes_are;
  fresh = λ i lane stands.
      ap (λ (z : SeatState (Key N)). z.made)
      (b.dealt.each i lane.seat (ap (λ (l : List (SeatState (Key N))). slice_get l i) (sym seats_are)
      ∙ get_map seat_of_lane lanes i lane stands));
}
