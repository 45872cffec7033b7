use Rattle.std.proofs.Common.{subst, sym}
use Rattle.gba_session.proofs.Hashing.{hashed-next, still-many}
use Rattle.gba_session.specs.Digests.{AreHashed}
use Rattle.gba_session.specs.Session.{Consoles}
use Rattle.gba_session.proofs.digests.Digests.take.Goals as goal

pub add_pieces-requires-clause-many : goal.add_pieces-requires-clause-many
add_pieces-requires-clause-many g c =
    λ _ _.
    let old = c.self.inside.each.items in
    still-many c.args.self.now c.args.session.now old
    (subst (λ (v : Consoles). AreHashed v old) c.self.view_is c.self.invariant) c.requires.next

pub invariant_of-self : goal.invariant_of-self
invariant_of-self g c =
    let s = c.args.session.now in
    let old = c.self.inside.each.items in
    let new = c.add_pieces.new.each.items in
    let joins = c.joins.ensures in
    subst (λ (v : Consoles). AreHashed v new) (sym c.of.ensures)
    (hashed-next c.args.self.now s old new (subst (λ (v : Consoles). AreHashed v old) c.self.view_is c.self.invariant)
    c.requires.left c.requires.next joins.joined joins.within joins.segment joins.whole joins.so_far
    c.add_pieces.ensures)
