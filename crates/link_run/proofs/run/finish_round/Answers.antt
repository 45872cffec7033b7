use Rattle.link_order.specs.NodeKind.{NodeKind, IsLawful, kind_of}
use Rattle.link_run.proofs.Roundings.{rounds, within_limit, have_begun, still_round}
use Rattle.link_run.proofs.run.finish_round.Goals as goal

pub finish-requires : goal.finish-requires
finish-requires g c =
    let kind : NodeKind g.N.Node.Record = kind_of g.N.Node.clock g.N.Node.was g.N.Node.next in (
      c.requires.2.key,
      still_round kind g.N.Node.plain g.N.Node.bound c.requires.0 c.requires.1 c.args.round c.args.until
          c.requires.2 c.requires.4,
    )

pub returns : goal.returns
returns g c cut first b all gone =
    let kind : NodeKind g.N.Node.Record = kind_of g.N.Node.clock g.N.Node.was g.N.Node.next in
    let law : IsLawful kind = record {
      rises = g.met.N.Node.rises;
      short = g.met.N.Node.short;
      moves = g.met.N.Node.moves;
      bears = g.met.N.Node.bears;
      fits = g.met.N.Node.fits;
    } in
    rounds kind law g.N.Node.plain g.N.Node.bound cut c.finish.result first c.args.until c.args.round.lanes.items b
    gone.went
    (c.finish.ensures b.key
    (still_round kind g.N.Node.plain g.N.Node.bound cut first c.args.round c.args.until b gone) c.args.until
    (within_limit kind g.N.Node.plain g.N.Node.bound cut first c.args.until b all)
    (have_begun kind g.N.Node.plain g.N.Node.bound cut first c.args.until c.args.round.lanes.items b gone.went))
