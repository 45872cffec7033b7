use Rattle.link_order.specs.NodeKind.{NodeKind, kind_of}
use Rattle.link_run.proofs.Roundings.{may_all_go}
use Rattle.link_run.proofs.run.go_round.Goals as goal

pub advance_round-gone-requires-clause-may_go : goal.advance_round-gone-requires-clause-may_go
advance_round-gone-requires-clause-may_go g c κs within =
    let kind : NodeKind g.N.Node.Record = kind_of g.N.Node.clock g.N.Node.was g.N.Node.next in
    may_all_go kind g.N.Node.plain g.N.Node.bound c.requires.0 c.args.round c.args.until c.requires.1 c.requires.2

pub returns : goal.returns
returns g c cut b all = c.finish_round.ensures cut c.args.round b all c.advance_round-gone.ensures
