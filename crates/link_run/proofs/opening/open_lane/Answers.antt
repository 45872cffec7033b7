use Rattle.std.proofs.Common.{◌∙◌}
use Rattle.link_order.specs.NodeKind.{kind_of}
use Rattle.link_run.proofs.Openings.{sent_early, opens_with}
use Rattle.link_run.proofs.opening.open_lane.Goals as goal

pub opening_of-requires-clause-early : goal.opening_of-requires-clause-early
opening_of-requires-clause-early g c =
    sent_early (kind_of g.N.Node.clock g.N.Node.was g.N.Node.next) g.N.Node.plain g.N.Node.bound c.args.node c.args.seat
    c.args.sent.now c.args.delays.now c.requires.can

pub new-requires : goal.new-requires
new-requires g c =
    opens_with (kind_of g.N.Node.clock g.N.Node.was g.N.Node.next) g.N.Node.plain g.N.Node.bound c.args.node c.args.seat
    c.args.sent.now c.args.delays.now c.player.result c.was.result c.deref.result.now c.requires.can
    c.player.ensures.value c.was.ensures (λ n senders. c.deref.ensures.value ∙ c.in-Ok.ensures n senders)
