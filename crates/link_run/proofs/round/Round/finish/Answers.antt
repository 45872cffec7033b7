use Rattle.std.proofs.Common.{◌≡◌, refl, sym, ap, ◌∙◌, subst}
use Rattle.std.specs.Prelude.{List, [], ◌++◌, map}
use Rattle.std.proofs.lemmas.List.Elements.{filter_passes}
use Rattle.link_node.specs.declared.signal.Incoming.{Incoming}
use Rattle.link_order.specs.declared.sent.Sent.{Sent}
use Rattle.link_order.specs.NodeKind.{NodeKind, IsLawful, kind_of}
use Rattle.link_order.specs.Cut.{Cut, plain_cut, live, is_live, IsSound, IsCable}
use Rattle.link_order.proofs.Hops.{cable_same}
use Rattle.link_order.proofs.Sound.{sound_live}
use Rattle.link_core.specs.Kept.{cut_of, AllLive}
use Rattle.link_table.specs.declared.key.Key.{Key}
use Rattle.link_table.specs.Seated.{SeatState}
use Rattle.link_lane.specs.Following.{LaneState}
use Rattle.link_run.specs.Rounds.{node_of, seat_of_lane, waits_of}
use Rattle.link_run.specs.Adding.{Adds, MayAdd, WaitsIn, PairsRest}
use Rattle.link_run.proofs.Closings.{closes_same, stands_at}
use Rattle.link_run.proofs.Wholes.{may_first, may_second, gathered_all}
use Rattle.link_run.proofs.Finishings.{may_meet, Gone, gone, Makes, makes, put_together}
use Rattle.link_run.proofs.round.Round.finish.Goals as goal

pub meet-joined-requires : goal.meet-joined-requires
meet-joined-requires g c =
    let kind : NodeKind g.N.Node.Record = kind_of g.N.Node.clock g.N.Node.was g.N.Node.next in
    let key : Key g.row.N.Denot = c.requires.0 in
    let round = c.requires.1 in
    let lanes : List (LaneState g.row.N.Denot) = c.args.self.lanes.items in
    let seats_are : c.part_all.new.seats.items ≡ map seat_of_lane lanes
    = c.part_all.ensures.seats
    ∙ ap (λ (l : List (SeatState (Key g.row.N.Denot))). l ++ map seat_of_lane lanes) round.no_seats in
    may_meet kind g.N.Node.plain key c.args.self.shared lanes c.part_all.new.seats.items round.lanes_are seats_are

pub add_all_waiting-requires : goal.add_all_waiting-requires
add_all_waiting-requires g c =
    let kind : NodeKind g.N.Node.Record = kind_of g.N.Node.clock g.N.Node.was g.N.Node.next in
    let law : IsLawful kind = record {
      rises = g.met.N.Node.rises;
      short = g.met.N.Node.short;
      moves = g.met.N.Node.moves;
      bears = g.met.N.Node.bears;
      fits = g.met.N.Node.fits;
    } in
    let key : Key g.row.N.Denot = c.requires.0 in
    let round = c.requires.1 in
    let lanes : List (LaneState g.row.N.Denot) = c.args.self.lanes.items in
    let seats_are : c.part_all.new.seats.items ≡ map seat_of_lane lanes
    = c.part_all.ensures.seats
    ∙ ap (λ (l : List (SeatState (Key g.row.N.Denot))). l ++ map seat_of_lane lanes) round.no_seats in
    let nodes_are : c.part_all.new.nodes.items ≡ map node_of lanes
    = c.part_all.ensures.nodes ∙ ap (λ (l : List g.row.N.Denot). l ++ map node_of lanes) round.no_nodes in
    let went : Gone kind g.N.Node.plain key c.args.self.shared lanes c.meet-joined.result
    = gone kind g.N.Node.plain key c.args.self.shared lanes c.part_all.new.seats.items c.meet-joined.result
    round.lanes_are seats_are c.part_all.ensures.follow c.meet-joined.ensures.seats c.meet-joined.ensures.met in
    let lists : List (List Incoming) = map (λ list. list.items) c.deref.result.now in
    let lists_are : lists ≡ map waits_of lanes
    = ap (map (λ list. list.items)) c.deref.ensures.value ∙ c.part_all.ensures.waits
    ∙ ap (λ (l : _). map (λ list. list.items) l ++ map waits_of lanes) round.no_waits in
    let m : Makes kind g.N.Node.plain key lanes c.meet-joined.result lists c.part_all.new.nodes.items
    key.cut.value.delays
    = makes kind law g.N.Node.plain key c.args.self.shared lanes c.meet-joined.result lists c.part_all.new.nodes.items
    key.cut.value.delays went lists_are nodes_are refl in
    subst (MayAdd (WaitsIn lists)) (sym c.clear.ensures.sent)
    (may_first (WaitsIn lists)
    (PairsRest kind g.N.Node.plain key c.meet-joined.result c.part_all.new.nodes.items key.cut.value.delays 16)
    (live kind m.e).sent m.gathers)

pub add_rests-requires-clause-may : goal.add_rests-requires-clause-may
add_rests-requires-clause-may g c =
    let kind : NodeKind g.N.Node.Record = kind_of g.N.Node.clock g.N.Node.was g.N.Node.next in
    let law : IsLawful kind = record {
      rises = g.met.N.Node.rises;
      short = g.met.N.Node.short;
      moves = g.met.N.Node.moves;
      bears = g.met.N.Node.bears;
      fits = g.met.N.Node.fits;
    } in
    let key : Key g.row.N.Denot = c.requires.0 in
    let round = c.requires.1 in
    let lanes : List (LaneState g.row.N.Denot) = c.args.self.lanes.items in
    let seats_are : c.part_all.new.seats.items ≡ map seat_of_lane lanes
    = c.part_all.ensures.seats
    ∙ ap (λ (l : List (SeatState (Key g.row.N.Denot))). l ++ map seat_of_lane lanes) round.no_seats in
    let nodes_are : c.part_all.new.nodes.items ≡ map node_of lanes
    = c.part_all.ensures.nodes ∙ ap (λ (l : List g.row.N.Denot). l ++ map node_of lanes) round.no_nodes in
    let went : Gone kind g.N.Node.plain key c.args.self.shared lanes c.meet-joined.result
    = gone kind g.N.Node.plain key c.args.self.shared lanes c.part_all.new.seats.items c.meet-joined.result
    round.lanes_are seats_are c.part_all.ensures.follow c.meet-joined.ensures.seats c.meet-joined.ensures.met in
    let lists : List (List Incoming) = map (λ list. list.items) c.deref.result.now in
    let lists_are : lists ≡ map waits_of lanes
    = ap (map (λ list. list.items)) c.deref.ensures.value ∙ c.part_all.ensures.waits
    ∙ ap (λ (l : _). map (λ list. list.items) l ++ map waits_of lanes) round.no_waits in
    let delays_are : c.add_all_waiting.new.shell.delays ≡ key.cut.value.delays
    = c.add_all_waiting.ensures.delays ∙ c.clear.ensures.delays ∙ round.delays_are in
    let m : Makes kind g.N.Node.plain key lanes c.meet-joined.result lists c.deref-2.result.now
    c.add_all_waiting.new.shell.delays
    = makes kind law g.N.Node.plain key c.args.self.shared lanes c.meet-joined.result lists c.deref-2.result.now
    c.add_all_waiting.new.shell.delays went lists_are (c.deref-2.ensures.value ∙ nodes_are) delays_are in
    let P : Sent → Type 0 = WaitsIn lists in
    let Q : Sent → Type 0 = PairsRest kind g.N.Node.plain key c.meet-joined.result c.deref-2.result.now
    c.add_all_waiting.new.shell.delays 16 in
    let first : Adds P [] c.add_all_waiting.new.shell.sent
    = subst (λ (l : List Sent). Adds P l c.add_all_waiting.new.shell.sent) c.clear.ensures.sent
    c.add_all_waiting.ensures.adds in
    (key, went.keys, may_second P Q (live kind m.e).sent c.add_all_waiting.new.shell.sent m.gathers first)

pub join-requires-clause-cable : goal.join-requires-clause-cable
join-requires-clause-cable g c =
    let kind : NodeKind g.N.Node.Record = kind_of g.N.Node.clock g.N.Node.was g.N.Node.next in
    let law : IsLawful kind = record {
      rises = g.met.N.Node.rises;
      short = g.met.N.Node.short;
      moves = g.met.N.Node.moves;
      bears = g.met.N.Node.bears;
      fits = g.met.N.Node.fits;
    } in
    let key : Key g.row.N.Denot = c.requires.0 in
    let round = c.requires.1 in
    let lanes : List (LaneState g.row.N.Denot) = c.args.self.lanes.items in
    let seats_are : c.part_all.new.seats.items ≡ map seat_of_lane lanes
    = c.part_all.ensures.seats
    ∙ ap (λ (l : List (SeatState (Key g.row.N.Denot))). l ++ map seat_of_lane lanes) round.no_seats in
    let nodes_are : c.part_all.new.nodes.items ≡ map node_of lanes
    = c.part_all.ensures.nodes ∙ ap (λ (l : List g.row.N.Denot). l ++ map node_of lanes) round.no_nodes in
    let went : Gone kind g.N.Node.plain key c.args.self.shared lanes c.meet-joined.result
    = gone kind g.N.Node.plain key c.args.self.shared lanes c.part_all.new.seats.items c.meet-joined.result
    round.lanes_are seats_are c.part_all.ensures.follow c.meet-joined.ensures.seats c.meet-joined.ensures.met in
    let lists : List (List Incoming) = map (λ list. list.items) c.deref.result.now in
    let lists_are : lists ≡ map waits_of lanes
    = ap (map (λ list. list.items)) c.deref.ensures.value ∙ c.part_all.ensures.waits
    ∙ ap (λ (l : _). map (λ list. list.items) l ++ map waits_of lanes) round.no_waits in
    let delays_are : c.add_all_waiting.new.shell.delays ≡ key.cut.value.delays
    = c.add_all_waiting.ensures.delays ∙ c.clear.ensures.delays ∙ round.delays_are in
    let m : Makes kind g.N.Node.plain key lanes c.meet-joined.result lists c.deref-2.result.now
    c.add_all_waiting.new.shell.delays
    = makes kind law g.N.Node.plain key c.args.self.shared lanes c.meet-joined.result lists c.deref-2.result.now
    c.add_all_waiting.new.shell.delays went lists_are (c.deref-2.ensures.value ∙ nodes_are) delays_are in
    let P : Sent → Type 0 = WaitsIn lists in
    let Q : Sent → Type 0 = PairsRest kind g.N.Node.plain key c.meet-joined.result c.deref-2.result.now
    c.add_all_waiting.new.shell.delays 16 in
    let first : Adds P [] c.add_all_waiting.new.shell.sent
    = subst (λ (l : List Sent). Adds P l c.add_all_waiting.new.shell.sent) c.clear.ensures.sent
    c.add_all_waiting.ensures.adds in
    let all : c.add_rests.new.shell.sent ≡ (live kind m.e).sent
    = gathered_all P Q (live kind m.e).sent c.add_all_waiting.new.shell.sent c.add_rests.new.shell.sent m.gathers first
    (c.add_rests.ensures.adds key went.keys) in
    let whole : plain_cut g.N.Node.plain (cut_of c.part_all.new.nodes.items c.add_rests.new.shell) ≡ live kind m.e
    = put_together kind g.N.Node.plain key lanes m.e c.part_all.new.nodes.items c.add_rests.new.shell m.closed nodes_are
    (c.add_rests.ensures.delays ∙ delays_are) all in
    subst (λ (d : Cut g.N.Node.Record). IsCable d) (sym whole)
    (cable_same (live kind m.e) m.e refl refl m.closed.goes_on.cable)

pub join-requires-clause-sound : goal.join-requires-clause-sound
join-requires-clause-sound g c =
    let kind : NodeKind g.N.Node.Record = kind_of g.N.Node.clock g.N.Node.was g.N.Node.next in
    let law : IsLawful kind = record {
      rises = g.met.N.Node.rises;
      short = g.met.N.Node.short;
      moves = g.met.N.Node.moves;
      bears = g.met.N.Node.bears;
      fits = g.met.N.Node.fits;
    } in
    let key : Key g.row.N.Denot = c.requires.0 in
    let round = c.requires.1 in
    let lanes : List (LaneState g.row.N.Denot) = c.args.self.lanes.items in
    let seats_are : c.part_all.new.seats.items ≡ map seat_of_lane lanes
    = c.part_all.ensures.seats
    ∙ ap (λ (l : List (SeatState (Key g.row.N.Denot))). l ++ map seat_of_lane lanes) round.no_seats in
    let nodes_are : c.part_all.new.nodes.items ≡ map node_of lanes
    = c.part_all.ensures.nodes ∙ ap (λ (l : List g.row.N.Denot). l ++ map node_of lanes) round.no_nodes in
    let went : Gone kind g.N.Node.plain key c.args.self.shared lanes c.meet-joined.result
    = gone kind g.N.Node.plain key c.args.self.shared lanes c.part_all.new.seats.items c.meet-joined.result
    round.lanes_are seats_are c.part_all.ensures.follow c.meet-joined.ensures.seats c.meet-joined.ensures.met in
    let lists : List (List Incoming) = map (λ list. list.items) c.deref.result.now in
    let lists_are : lists ≡ map waits_of lanes
    = ap (map (λ list. list.items)) c.deref.ensures.value ∙ c.part_all.ensures.waits
    ∙ ap (λ (l : _). map (λ list. list.items) l ++ map waits_of lanes) round.no_waits in
    let delays_are : c.add_all_waiting.new.shell.delays ≡ key.cut.value.delays
    = c.add_all_waiting.ensures.delays ∙ c.clear.ensures.delays ∙ round.delays_are in
    let m : Makes kind g.N.Node.plain key lanes c.meet-joined.result lists c.deref-2.result.now
    c.add_all_waiting.new.shell.delays
    = makes kind law g.N.Node.plain key c.args.self.shared lanes c.meet-joined.result lists c.deref-2.result.now
    c.add_all_waiting.new.shell.delays went lists_are (c.deref-2.ensures.value ∙ nodes_are) delays_are in
    let P : Sent → Type 0 = WaitsIn lists in
    let Q : Sent → Type 0 = PairsRest kind g.N.Node.plain key c.meet-joined.result c.deref-2.result.now
    c.add_all_waiting.new.shell.delays 16 in
    let first : Adds P [] c.add_all_waiting.new.shell.sent
    = subst (λ (l : List Sent). Adds P l c.add_all_waiting.new.shell.sent) c.clear.ensures.sent
    c.add_all_waiting.ensures.adds in
    let all : c.add_rests.new.shell.sent ≡ (live kind m.e).sent
    = gathered_all P Q (live kind m.e).sent c.add_all_waiting.new.shell.sent c.add_rests.new.shell.sent m.gathers first
    (c.add_rests.ensures.adds key went.keys) in
    let whole : plain_cut g.N.Node.plain (cut_of c.part_all.new.nodes.items c.add_rests.new.shell) ≡ live kind m.e
    = put_together kind g.N.Node.plain key lanes m.e c.part_all.new.nodes.items c.add_rests.new.shell m.closed nodes_are
    (c.add_rests.ensures.delays ∙ delays_are) all in
    subst (IsSound kind) (sym whole) (sound_live kind m.e m.closed.goes_on.sound)

pub join-requires-clause-live : goal.join-requires-clause-live
join-requires-clause-live g c =
    let kind : NodeKind g.N.Node.Record = kind_of g.N.Node.clock g.N.Node.was g.N.Node.next in
    let law : IsLawful kind = record {
      rises = g.met.N.Node.rises;
      short = g.met.N.Node.short;
      moves = g.met.N.Node.moves;
      bears = g.met.N.Node.bears;
      fits = g.met.N.Node.fits;
    } in
    let key : Key g.row.N.Denot = c.requires.0 in
    let round = c.requires.1 in
    let lanes : List (LaneState g.row.N.Denot) = c.args.self.lanes.items in
    let seats_are : c.part_all.new.seats.items ≡ map seat_of_lane lanes
    = c.part_all.ensures.seats
    ∙ ap (λ (l : List (SeatState (Key g.row.N.Denot))). l ++ map seat_of_lane lanes) round.no_seats in
    let nodes_are : c.part_all.new.nodes.items ≡ map node_of lanes
    = c.part_all.ensures.nodes ∙ ap (λ (l : List g.row.N.Denot). l ++ map node_of lanes) round.no_nodes in
    let went : Gone kind g.N.Node.plain key c.args.self.shared lanes c.meet-joined.result
    = gone kind g.N.Node.plain key c.args.self.shared lanes c.part_all.new.seats.items c.meet-joined.result
    round.lanes_are seats_are c.part_all.ensures.follow c.meet-joined.ensures.seats c.meet-joined.ensures.met in
    let lists : List (List Incoming) = map (λ list. list.items) c.deref.result.now in
    let lists_are : lists ≡ map waits_of lanes
    = ap (map (λ list. list.items)) c.deref.ensures.value ∙ c.part_all.ensures.waits
    ∙ ap (λ (l : _). map (λ list. list.items) l ++ map waits_of lanes) round.no_waits in
    let delays_are : c.add_all_waiting.new.shell.delays ≡ key.cut.value.delays
    = c.add_all_waiting.ensures.delays ∙ c.clear.ensures.delays ∙ round.delays_are in
    let m : Makes kind g.N.Node.plain key lanes c.meet-joined.result lists c.deref-2.result.now
    c.add_all_waiting.new.shell.delays
    = makes kind law g.N.Node.plain key c.args.self.shared lanes c.meet-joined.result lists c.deref-2.result.now
    c.add_all_waiting.new.shell.delays went lists_are (c.deref-2.ensures.value ∙ nodes_are) delays_are in
    let P : Sent → Type 0 = WaitsIn lists in
    let Q : Sent → Type 0 = PairsRest kind g.N.Node.plain key c.meet-joined.result c.deref-2.result.now
    c.add_all_waiting.new.shell.delays 16 in
    let first : Adds P [] c.add_all_waiting.new.shell.sent
    = subst (λ (l : List Sent). Adds P l c.add_all_waiting.new.shell.sent) c.clear.ensures.sent
    c.add_all_waiting.ensures.adds in
    let all : c.add_rests.new.shell.sent ≡ (live kind m.e).sent
    = gathered_all P Q (live kind m.e).sent c.add_all_waiting.new.shell.sent c.add_rests.new.shell.sent m.gathers first
    (c.add_rests.ensures.adds key went.keys) in
    let whole : plain_cut g.N.Node.plain (cut_of c.part_all.new.nodes.items c.add_rests.new.shell) ≡ live kind m.e
    = put_together kind g.N.Node.plain key lanes m.e c.part_all.new.nodes.items c.add_rests.new.shell m.closed nodes_are
    (c.add_rests.ensures.delays ∙ delays_are) all in
    subst (AllLive kind) (sym whole) (filter_passes (is_live kind m.e) m.e.sent)

pub returns : goal.returns
returns g c key round until within begun =
    let kind : NodeKind g.N.Node.Record = kind_of g.N.Node.clock g.N.Node.was g.N.Node.next in
    let law : IsLawful kind = record {
      rises = g.met.N.Node.rises;
      short = g.met.N.Node.short;
      moves = g.met.N.Node.moves;
      bears = g.met.N.Node.bears;
      fits = g.met.N.Node.fits;
    } in
    let lanes : List (LaneState g.row.N.Denot) = c.args.self.lanes.items in
    let seats_are : c.part_all.new.seats.items ≡ map seat_of_lane lanes
    = c.part_all.ensures.seats
    ∙ ap (λ (l : List (SeatState (Key g.row.N.Denot))). l ++ map seat_of_lane lanes) round.no_seats in
    let nodes_are : c.part_all.new.nodes.items ≡ map node_of lanes
    = c.part_all.ensures.nodes ∙ ap (λ (l : List g.row.N.Denot). l ++ map node_of lanes) round.no_nodes in
    let went : Gone kind g.N.Node.plain key c.args.self.shared lanes c.meet-joined.result
    = gone kind g.N.Node.plain key c.args.self.shared lanes c.part_all.new.seats.items c.meet-joined.result
    round.lanes_are seats_are c.part_all.ensures.follow c.meet-joined.ensures.seats c.meet-joined.ensures.met in
    let lists : List (List Incoming) = map (λ list. list.items) c.deref.result.now in
    let lists_are : lists ≡ map waits_of lanes
    = ap (map (λ list. list.items)) c.deref.ensures.value ∙ c.part_all.ensures.waits
    ∙ ap (λ (l : _). map (λ list. list.items) l ++ map waits_of lanes) round.no_waits in
    let delays_are : c.add_all_waiting.new.shell.delays ≡ key.cut.value.delays
    = c.add_all_waiting.ensures.delays ∙ c.clear.ensures.delays ∙ round.delays_are in
    let m : Makes kind g.N.Node.plain key lanes c.meet-joined.result lists c.deref-2.result.now
    c.add_all_waiting.new.shell.delays
    = makes kind law g.N.Node.plain key c.args.self.shared lanes c.meet-joined.result lists c.deref-2.result.now
    c.add_all_waiting.new.shell.delays went lists_are (c.deref-2.ensures.value ∙ nodes_are) delays_are in
    let P : Sent → Type 0 = WaitsIn lists in
    let Q : Sent → Type 0 = PairsRest kind g.N.Node.plain key c.meet-joined.result c.deref-2.result.now
    c.add_all_waiting.new.shell.delays 16 in
    let first : Adds P [] c.add_all_waiting.new.shell.sent
    = subst (λ (l : List Sent). Adds P l c.add_all_waiting.new.shell.sent) c.clear.ensures.sent
    c.add_all_waiting.ensures.adds in
    let all : c.add_rests.new.shell.sent ≡ (live kind m.e).sent
    = gathered_all P Q (live kind m.e).sent c.add_all_waiting.new.shell.sent c.add_rests.new.shell.sent m.gathers first
    (c.add_rests.ensures.adds key went.keys) in
    let whole : plain_cut g.N.Node.plain (cut_of c.part_all.new.nodes.items c.add_rests.new.shell) ≡ live kind m.e
    = put_together kind g.N.Node.plain key lanes m.e c.part_all.new.nodes.items c.add_rests.new.shell m.closed nodes_are
    (c.add_rests.ensures.delays ∙ delays_are) all in
    record {
      whole = m.e;
      live_is = ap (plain_cut g.N.Node.plain) c.join.ensures ∙ whole;
      nodes_are = ap (λ (d : Cut g.row.N.Denot). d.consoles) c.join.ensures ∙ nodes_are;
      goes_on = closes_same kind law g.N.Node.plain key c.args.self.shared lanes until went.have_met within begun m.e
          m.closed;
      each =
          λ i lane stands. stands_at kind law g.N.Node.plain key c.args.self.shared lanes went.have_met i lane stands;
    }
