use Rattle.std.proofs.Common.{◌≡◌, arith, sym, ap, ◌∙◌}
use Rattle.std.specs.Prelude.{[], ◌∷◌, ◌++◌, length, map, slice_get, option_to_list, Option}
use Rattle.std.proofs.lemmas.List.{length-append}
use Rattle.link_table.specs.declared.key.Key.{Key}
use Rattle.link_table.specs.Seated.{SeatState}
use Rattle.link_run.specs.Rounds.{node_of, seat_of_lane}
use Rattle.link_run.proofs.Openings.{get_there, one_to_come}
use Rattle.link_run.proofs.opening.open_lanes.Goals as goal

pub open_lane-requires-clause-can : goal.open_lane-requires-clause-can
open_lane-requires-clause-can g c =
    let nodes : c.loop-node.nodes.items ≡ c.pop.new.self.items ++ c.in-Some.node ∷ []
    = c.pop.ensures.items ∙ ap (λ (o : Option g.row.N.Denot). c.pop.new.self.items ++ option_to_list o) c.in-Some.is in
    let seats : c.loop-node.seats.items ≡ c.pop-in-Some.new.self.items ++ c.in-Some-pop.seat ∷ []
    = c.pop-in-Some.ensures.items
    ∙ ap (λ (o : Option (SeatState (Key g.row.N.Denot))). c.pop-in-Some.new.self.items ++ option_to_list o)
    c.in-Some-pop.is in
    let same : length c.pop-in-Some.new.self.items ≡ length c.pop.new.self.items
    = omega (
      arith,
      c.loop-node.invariant.same,
      ap length nodes,
      ap length seats,
      length-append c.pop.new.self.items (c.in-Some.node ∷ []),
      length-append c.pop-in-Some.new.self.items (c.in-Some-pop.seat ∷ []),
    ) in
    c.requires.can.each (length c.pop.new.self.items) c.in-Some.node c.in-Some-pop.seat
    (get_there c.args.nodes.items c.loop-node.nodes.items c.pop.new.self.items (map node_of c.loop-node.lanes.items)
    c.in-Some.node c.loop-node.invariant.nodes nodes)
    (ap (slice_get c.args.seats.items) (sym same)
    ∙ get_there c.args.seats.items c.loop-node.seats.items c.pop-in-Some.new.self.items
    (map seat_of_lane c.loop-node.lanes.items) c.in-Some-pop.seat c.loop-node.invariant.seats seats)

pub put_first-requires : goal.put_first-requires
put_first-requires g c =
    let nodes : c.loop-node.nodes.items ≡ c.pop.new.self.items ++ c.in-Some.node ∷ []
    = c.pop.ensures.items ∙ ap (λ (o : Option g.row.N.Denot). c.pop.new.self.items ++ option_to_list o) c.in-Some.is in
    let few = one_to_come c.args.nodes.items c.loop-node.nodes.items c.pop.new.self.items c.in-Some.node
    c.loop-node.lanes.items c.loop-node.invariant.nodes nodes in
    omega (arith, few, c.args.nodes.ok, c.loop-node.lanes.ok, c.requires.count, c.loop-node.invariant.room)
