use Rattle.std.proofs.Common.{List, arith, sym, subst}
use Rattle.std.specs.Vec.{vec_capacity}
use Rattle.link_order.specs.declared.sent.Sent.{Sent}
use Rattle.link_order.specs.NodeKind.{NodeKind, kind_of}
use Rattle.link_order.specs.Cut.{Cut, plain_cut, IsSound}
use Rattle.link_core.specs.Kept.{with_sent, AllLive, IsKept}
use Rattle.link_core.proofs.Keeping.{kept_few, kept_with}
use Rattle.link_core.proofs.cut.Cut.set_sent.Goals as goal

pub refill-requires : goal.refill-requires
refill-requires g c =
    let kind : NodeKind g.N.Node.Record = kind_of g.N.Node.clock g.N.Node.was g.N.Node.next in
    let now : Cut g.row.N.Denot = record {
      consoles = c.self.inside.nodes.items;
      delays = c.self.inside.delays;
      sent = c.self.inside.sent.items;
    } in
    let sound : IsSound kind (plain_cut g.N.Node.plain (with_sent c.args.sent.now now))
    = subst (λ (d : Cut g.row.N.Denot). IsSound kind (plain_cut g.N.Node.plain (with_sent c.args.sent.now d)))
    (sym c.self.view_is) c.requires.sound in
    let live : AllLive kind (plain_cut g.N.Node.plain (with_sent c.args.sent.now now))
    = subst (λ (d : Cut g.row.N.Denot). AllLive kind (plain_cut g.N.Node.plain (with_sent c.args.sent.now d)))
    (sym c.self.view_is) c.requires.live in
    let few = kept_few kind g.N.Node.plain (with_sent c.args.sent.now now) 16384 (vec_capacity c.self.inside.due)
    (kept_with kind g.N.Node.plain now c.args.sent.now (vec_capacity c.self.inside.sent)
    (vec_capacity c.self.inside.due) 16384 c.self.invariant sound live c.requires.widths (omega arith)) in
    omega (arith, few, c.self.invariant.room_of_sent)

pub invariant_of-self : goal.invariant_of-self
invariant_of-self g c =
    let kind : NodeKind g.N.Node.Record = kind_of g.N.Node.clock g.N.Node.was g.N.Node.next in
    let now : Cut g.row.N.Denot = record {
      consoles = c.self.inside.nodes.items;
      delays = c.self.inside.delays;
      sent = c.self.inside.sent.items;
    } in
    let sound : IsSound kind (plain_cut g.N.Node.plain (with_sent c.args.sent.now now))
    = subst (λ (d : Cut g.row.N.Denot). IsSound kind (plain_cut g.N.Node.plain (with_sent c.args.sent.now d)))
    (sym c.self.view_is) c.requires.sound in
    let live : AllLive kind (plain_cut g.N.Node.plain (with_sent c.args.sent.now now))
    = subst (λ (d : Cut g.row.N.Denot). AllLive kind (plain_cut g.N.Node.plain (with_sent c.args.sent.now d)))
    (sym c.self.view_is) c.requires.live in
    subst (λ (sent : List Sent). IsKept kind g.N.Node.plain (with_sent sent now) (vec_capacity c.refill.new.list)
    (vec_capacity c.self.inside.due)) (sym c.refill.ensures.items)
    (kept_with kind g.N.Node.plain now c.args.sent.now (vec_capacity c.self.inside.sent)
    (vec_capacity c.self.inside.due) (vec_capacity c.refill.new.list) c.self.invariant sound live c.requires.widths
    (omega (arith, c.refill.ensures.room, c.self.invariant.room_of_sent)))
