use Rattle.std.proofs.Common.{◌≡◌, ◌≤◌, arith, sym, ap, ◌∙◌, subst}
use Rattle.std.specs.Prelude.{List, length, map}
use Rattle.std.proofs.lemmas.List.{length-map}
use Rattle.link_order.specs.declared.sent.Sent.{Sent}
use Rattle.link_order.specs.NodeKind.{NodeKind, kind_of}
use Rattle.link_order.specs.Cut.{Cut, plain_cut, IsSound, IsCable}
use Rattle.link_core.specs.Kept.{AllFit, cut_of}
use Rattle.link_run.specs.Rounds.{node_of}
use Rattle.link_run.proofs.Beginnings.{same_cut, can_open, are_lanes, are_opened}
use Rattle.link_run.proofs.round.Round.begin.Goals as goal

pub open_lanes-requires-clause-can : goal.open_lanes-requires-clause-can
open_lanes-requires-clause-can g c =
    let kind : NodeKind g.N.Node.Record = kind_of g.N.Node.clock g.N.Node.was g.N.Node.next in
    let p = c.part-nodes.ensures in
    let same : cut_of c.part-nodes.result.0.items c.part-nodes.result.1 ≡ c.args.cut
    = same_cut c.args.cut c.part-nodes.result.0.items c.part-nodes.result.1 p.nodes p.delays p.sent in
    can_open kind g.N.Node.plain g.N.Node.bound c.args.cut c.in-Ok-begin.shared c.part-nodes.result.0.items
    c.in-Ok-begin.seats.items c.sent.result.now c.delays.result.now c.in-Ok-begin.ensures
    (subst (λ (d : Cut g.row.N.Denot). IsCable (plain_cut g.N.Node.plain d)) same p.cable)
    (subst (λ (d : Cut g.row.N.Denot). IsSound kind (plain_cut g.N.Node.plain d)) same p.sound)
    p.nodes (c.sent.ensures.value ∙ p.sent) (c.delays.ensures.value ∙ p.delays)

pub returns-in-Ok-open_lanes-clause-made : goal.returns-in-Ok-open_lanes-clause-made
returns-in-Ok-open_lanes-clause-made g c =
    let kind : NodeKind g.N.Node.Record = kind_of g.N.Node.clock g.N.Node.was g.N.Node.next in
    let p = c.part-nodes.ensures in
    let same : cut_of c.part-nodes.result.0.items c.part-nodes.result.1 ≡ c.args.cut
    = same_cut c.args.cut c.part-nodes.result.0.items c.part-nodes.result.1 p.nodes p.delays p.sent in
    let o = c.in-Ok-open_lanes.ensures in
    let nodes_are : map node_of c.in-Ok-open_lanes.field-0.lanes.items ≡ c.args.cut.consoles = o.nodes ∙ p.nodes in
    let lanes = are_lanes kind g.N.Node.plain g.N.Node.bound c.args.cut c.in-Ok-begin.shared c.in-Ok-begin.seats.items
    c.in-Ok-open_lanes.field-0.lanes.items c.in-Ok-begin.ensures
    (subst (λ (d : Cut g.row.N.Denot). IsCable (plain_cut g.N.Node.plain d)) same p.cable)
    (subst (λ (d : Cut g.row.N.Denot). IsSound kind (plain_cut g.N.Node.plain d)) same p.sound)
    (subst (λ (ss : List Sent). AllFit ss) (c.sent.ensures.value ∙ p.sent) c.sent.ensures.widths) o.seats in
    let counts : length c.in-Ok-open_lanes.field-0.lanes.items ≡ length c.part-nodes.result.0.items
    = sym (length-map c.in-Ok-open_lanes.field-0.lanes.items node_of) ∙ ap length o.nodes in
    let four : length c.in-Ok-open_lanes.field-0.lanes.items ≤ 4
    = omega (arith, counts, p.cable.at_most_four, length-map c.part-nodes.result.0.items g.N.Node.plain) in
    record {
      key = c.in-Ok-begin.ensures.key;
      opened = are_opened kind g.N.Node.plain g.N.Node.bound c.args.cut c.in-Ok-begin.shared c.in-Ok-begin.seats.items
          c.in-Ok-open_lanes.field-0.lanes.items c.in-Ok-begin.ensures nodes_are o.seats;
      round_is = record {
        lanes_are = lanes;
        delays_are = p.delays ∙ ap (λ (d : Cut g.row.N.Denot). d.delays) (sym c.in-Ok-begin.ensures.cut_is);
        no_nodes = o.empty_nodes;
        no_seats = o.empty_seats;
        no_waits = c.in-Ok.ensures.items;
        room_of_nodes = omega (arith, counts, o.room_of_nodes);
        room_of_seats = omega (arith, counts, o.room_of_seats);
        room_of_waits = omega (arith, four, c.in-Ok.ensures.capacity);
      };
    }
