use Rattle.std.proofs.Common.{ℕ, ◌≤◌, arith, ◌∙◌, subst}
use Rattle.std.proofs.lemmas.List.{length-map}
use Rattle.link_order.specs.NodeKind.{NodeKind, kind_of}
use Rattle.link_order.specs.Cut.{Cut, plain_cut, clock_at}
use Rattle.link_order.specs.GlobalOrder.{least}
use Rattle.link_core.proofs.Keeping.{all_done, run_over, limits_stay}
use Rattle.link_core.proofs.cut.Cut.run_serial.Goals as goal

pub burst-requires-clause-limits : goal.burst-requires-clause-limits
burst-requires-clause-limits g c =
    limits_stay g.N.Node.bound c.loop-self.self.consoles c.args.self.now.consoles c.args.until
    c.loop-self.invariant.limits c.requires

pub returns-clause-run : goal.returns-clause-run
returns-clause-run g c =
    let kind : NodeKind g.N.Node.Record = kind_of g.N.Node.clock g.N.Node.was g.N.Node.next in
    let p : Cut g.N.Node.Record = plain_cut g.N.Node.plain c.loop-self.self in
    let late : c.args.until ≤ clock_at kind p (least kind p) =
    subst (λ (n : ℕ). c.args.until ≤ n) c.least_clock.ensures.value c.loop-self-test.false in
    run_over kind p c.args.until c.least_clock.ensures.live late ∙ c.loop-self.invariant.same_end

pub returns-clause-done : goal.returns-clause-done
returns-clause-done g c i below =
    let kind : NodeKind g.N.Node.Record = kind_of g.N.Node.clock g.N.Node.was g.N.Node.next in
    let p : Cut g.N.Node.Record = plain_cut g.N.Node.plain c.loop-self.self in
    let late : c.args.until ≤ clock_at kind p (least kind p) =
    subst (λ (n : ℕ). c.args.until ≤ n) c.least_clock.ensures.value c.loop-self-test.false in
    let same = length-map c.loop-self.self.consoles g.N.Node.plain in
    all_done kind p c.args.until late i (omega (arith, below, same))
