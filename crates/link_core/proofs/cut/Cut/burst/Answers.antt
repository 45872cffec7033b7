use Rattle.std.proofs.Common.{ℕ, ◌≡◌, ◌<◌, ◌≤◌, arith, refl, sym, ap, ◌∙◌, subst}
use Rattle.std.specs.Prelude.{length, All}
use Rattle.link_order.specs.NodeKind.{NodeKind, kind_of}
use Rattle.link_order.specs.Cut.{Cut, plain_cut, clock_at, live}
use Rattle.link_order.specs.GlobalOrder.{least, run}
use Rattle.link_core.specs.Kept.{cut_of}
use Rattle.link_core.proofs.Keeping.{kept_few, least_known, limits_reach}
use Rattle.link_core.proofs.Bursts.{horizon_later, burst_kept, burst_end}
use Rattle.link_core.proofs.Turns.{fewer_left, lawful, least_kept, made}
use Rattle.link_core.proofs.cut.Cut.burst.Goals as goal

pub take_turns-signal-requires-clause-limit : goal.take_turns-signal-requires-clause-limit
take_turns-signal-requires-clause-limit g c =
    let all : All (λ n. c.args.until ≤ g.N.Node.bound n) c.self.inside.nodes.items
    = subst (λ (d : Cut g.row.N.Denot). All (λ n. c.args.until ≤ g.N.Node.bound n) d.consoles) (sym c.self.view_is)
    c.requires.limits in
    let far = limits_reach g.N.Node.bound c.self.inside.nodes.items c.self.inside.nodes.items c.args.until
    c.least_of-i.result refl all (omega (arith, c.least_of-i.ensures.player, ap length c.deref.ensures.value)) in
    omega (arith, far, c.horizon_of-end.ensures.most)

pub take_turns-signal-requires-clause-early : goal.take_turns-signal-requires-clause-early
take_turns-signal-requires-clause-early g c =
    let kind : NodeKind g.N.Node.Record = kind_of g.N.Node.clock g.N.Node.was g.N.Node.next in
    let now : Cut g.row.N.Denot = cut_of c.self.inside.nodes.items record {
      delays = c.self.inside.delays;
      sent = c.self.inside.sent.items;
    } in
    let p : Cut g.N.Node.Record = plain_cut g.N.Node.plain now in
    let i : ℕ = c.least_of-i.result in
    let least_is : i ≡ least kind p
    = least_known kind g.N.Node.plain now c.deref.result.now i c.deref.ensures.value c.least_of-i.ensures.value in
    let early : clock_at kind p i < c.args.until
    = subst (λ (m : ℕ). clock_at kind p m < c.args.until) (sym least_is)
    (subst (λ (d : Cut g.row.N.Denot). clock_at kind (plain_cut g.N.Node.plain d)
    (least kind (plain_cut g.N.Node.plain d)) < c.args.until) (sym c.self.view_is) c.requires.early) in
    horizon_later kind g.N.Node.plain now c.deref-2.result.now i c.args.until c.horizon_of-end.result
    c.deref-2.ensures.value least_is c.self.invariant.cable early c.horizon_of-end.ensures.far

pub join_signal-requires : goal.join_signal-requires
join_signal-requires g c =
    let few = kept_few (kind_of g.N.Node.clock g.N.Node.was g.N.Node.next) g.N.Node.plain _ _ _ c.self.invariant in
    omega (arith, few, c.self.inside.sent.ok, c.self.invariant.room_of_sent)

pub invariant_of-self : goal.invariant_of-self
invariant_of-self g c =
    let kind = kind_of g.N.Node.clock g.N.Node.was g.N.Node.next in
    let law = lawful g.N.Node.clock g.N.Node.was g.N.Node.next g.met.N.Node.rises g.met.N.Node.short g.met.N.Node.moves
    g.met.N.Node.bears g.met.N.Node.fits in
    let least_is =
    least_kept kind g.N.Node.plain _ _ _ _ _ c.self.invariant c.deref.ensures.value c.least_of-i.ensures.value in
    let m = made kind law g.N.Node.plain _ _ _ _ _ _ _ _ _ _ _ _ _ c.self.invariant least_is
    c.horizon_of-end.ensures.most c.deref-2.ensures.value c.horizon_of-end.ensures.ahead c.deref-3.ensures.value
    c.take_turns-signal.ensures.goes c.deref-4.ensures.value c.join_signal.ensures.items c.drop_dead.ensures.items in
    burst_kept kind g.N.Node.plain _ _ _ _ _ _ _ _ _ c.self.invariant (omega arith) (omega arith) refl m.bursts m.whole

pub returns-clause-same_end : goal.returns-clause-same_end
returns-clause-same_end g c =
    let kind = kind_of g.N.Node.clock g.N.Node.was g.N.Node.next in
    let law = lawful g.N.Node.clock g.N.Node.was g.N.Node.next g.met.N.Node.rises g.met.N.Node.short g.met.N.Node.moves
    g.met.N.Node.bears g.met.N.Node.fits in
    let least_is =
    least_kept kind g.N.Node.plain _ _ _ _ _ c.self.invariant c.deref.ensures.value c.least_of-i.ensures.value in
    let m = made kind law g.N.Node.plain _ _ _ _ _ _ _ _ _ _ _ _ _ c.self.invariant least_is
    c.horizon_of-end.ensures.most c.deref-2.ensures.value c.horizon_of-end.ensures.ahead c.deref-3.ensures.value
    c.take_turns-signal.ensures.goes c.deref-4.ensures.value c.join_signal.ensures.items c.drop_dead.ensures.items in
    burst_end kind law _ _ _ _ c.args.until m.bursts m.whole
    ∙ ap (λ (e : Cut g.row.N.Denot). live kind (run kind (plain_cut g.N.Node.plain e) c.args.until)) c.self.view_is

pub returns-clause-fewer : goal.returns-clause-fewer
returns-clause-fewer g c =
    let kind = kind_of g.N.Node.clock g.N.Node.was g.N.Node.next in
    let law = lawful g.N.Node.clock g.N.Node.was g.N.Node.next g.met.N.Node.rises g.met.N.Node.short g.met.N.Node.moves
    g.met.N.Node.bears g.met.N.Node.fits in
    let least_is =
    least_kept kind g.N.Node.plain _ _ _ _ _ c.self.invariant c.deref.ensures.value c.least_of-i.ensures.value in
    let m = made kind law g.N.Node.plain _ _ _ _ _ _ _ _ _ _ _ _ _ c.self.invariant least_is
    c.horizon_of-end.ensures.most c.deref-2.ensures.value c.horizon_of-end.ensures.ahead c.deref-3.ensures.value
    c.take_turns-signal.ensures.goes c.deref-4.ensures.value c.join_signal.ensures.items c.drop_dead.ensures.items in
    fewer_left kind g.N.Node.plain _ _ _ _ _ _ _ c.self.view_is m c.take_turns-signal.ensures.rises
