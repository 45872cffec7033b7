use Rattle.link_order.specs.NodeKind.{kind_of}
use Rattle.link_table.proofs.Dealings.{IsDealing}
use Rattle.link_table.proofs.opening.deal.Given as goal

abbrev pub invariant-loop-player : goal.invariant-loop-player
invariant-loop-player g l =
    IsDealing (kind_of g.N.Node.clock g.N.Node.was g.N.Node.next) g.N.Node.plain l.fn.place l.place l.players l.delays
    l.player l.seats.items
