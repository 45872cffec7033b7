use Rattle.std.proofs.Common.{◌≡◌, arith}
use Rattle.std.specs.Prelude.{map, length}
use Rattle.std.proofs.lemmas.List.{length-map}
use Rattle.link_order.specs.NodeKind.{kind_of}
use Rattle.link_order.proofs.Hops.{cable_of_delays}
use Rattle.link_order.proofs.Starts.{sound_start, fresh_map}
use Rattle.link_trials.proofs.start.begin.Goals as goal

pub new-requires-clause-cable : goal.new-requires-clause-cable
new-requires-clause-cable g c =
    let same : length (map g.N.Node.plain c.args.nodes.items) ≡ length c.args.nodes.items =
    length-map c.args.nodes.items g.N.Node.plain in
    cable_of_delays _ (omega (arith, same, c.args.nodes.ok)) (omega (arith, same, c.args.nodes.ok))
    c.requires.delays

pub new-requires-clause-sound : goal.new-requires-clause-sound
new-requires-clause-sound g c =
    sound_start (kind_of g.N.Node.clock g.N.Node.was g.N.Node.next) (map g.N.Node.plain c.args.nodes.items)
    c.args.delays
    (fresh_map (kind_of g.N.Node.clock g.N.Node.was g.N.Node.next) g.N.Node.plain c.args.nodes.items c.requires.fresh)
