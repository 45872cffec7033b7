use Rattle.std.proofs.Common.{◌≡◌, ◌<◌, ap, ◌∙◌, subst}
use Rattle.std.proofs.lemmas.List.{map-set}
use Rattle.std.proofs.Math.Seq.{map-set_same}
use Rattle.link_node.specs.Alone.{StepsAlone}
use Rattle.link_order.specs.NodeKind.{NodeKind, kind_of}
use Rattle.link_core.proofs.Readings.{read-record}
use Rattle.link_core.proofs.burst.idle_of.Goals as goal

pub returns-clause-alone : goal.returns-clause-alone
returns-clause-alone g c x stands =
    let kind : NodeKind g.N.Node.Record = kind_of g.N.Node.clock g.N.Node.was g.N.Node.next in
    let y : g.N.Node.Record = g.N.Node.plain c.go_alone.new.self in
    let is_x : g.N.Node.plain c.index_mut.result.now ≡ x
    = ap g.N.Node.plain c.index_mut.ensures.value
    ∙ read-record g.N.Node.plain c.args.nodes.now.items c.args.i c.index_mut.result.now x stands in
    record {
      y = y;
      alone = subst (λ
          (z : g.N.Node.Record). StepsAlone kind.clock kind.next c.args.end z y c.go_alone.result) is_x
          c.go_alone.ensures.alone;
      placed = map-set g.N.Node.plain c.args.nodes.now.items c.args.i c.go_alone.new.self;
      rises = subst (λ (z : g.N.Node.Record). kind.clock z < c.args.end → kind.clock z < kind.clock y) is_x
          c.go_alone.ensures.rises;
    }

pub returns-clause-limits : goal.returns-clause-limits
returns-clause-limits g c =
    map-set_same g.N.Node.bound c.args.nodes.now.items c.args.i c.go_alone.new.self c.index_mut.result.now
    (c.go_alone.ensures.limit ∙ ap g.N.Node.bound c.index_mut.ensures.value)
