use Rattle.std.specs.Prelude.{length}
use Rattle.link_order.specs.NodeKind.{kind_of}
use Rattle.link_table.proofs.Unitings.{IsUniting}
use Rattle.link_table.proofs.joined.unite.Given as goal

abbrev pub invariant-loop-shared : goal.invariant-loop-shared
invariant-loop-shared g l =
    IsUniting (kind_of g.N.Node.clock g.N.Node.was g.N.Node.next) g.N.Node.plain l.shared l.fn.seats.items l.place
    l.rest.items

abbrev pub decreases-loop-shared : goal.decreases-loop-shared
decreases-loop-shared g l = length l.rest.items
