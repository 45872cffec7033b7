use Rattle.std.proofs.Common.{ℕ, ◌<◌, ◌≤◌, arith, sym, ◌∙◌, subst}
use Rattle.std.specs.Prelude.{All}
use Rattle.std.proofs.lemmas.List.{length-map}
use Rattle.link_order.specs.NodeKind.{NodeKind, kind_of}
use Rattle.link_order.specs.Cut.{Cut, plain_cut, clock_at}
use Rattle.link_order.specs.GlobalOrder.{least}
use Rattle.link_core.proofs.Keeping.{all_done, run_over, limits_stay}
use Rattle.link_run.proofs.run.run_to.Goals as goal

pub go_on-cut-requires-after_bounds : goal.go_on-cut-requires-after_bounds
go_on-cut-requires-after_bounds g c κs within = (
  c.loop-alloc.cut,
  c.in-Ok.ensures.made,
  limits_stay g.N.Node.bound c.loop-alloc.cut.consoles c.args.cut.consoles c.args.until c.loop-alloc.invariant.limits
      c.requires,
)

pub loop-alloc-smaller : goal.loop-alloc-smaller
loop-alloc-smaller g c =
    let kind : NodeKind g.N.Node.Record = kind_of g.N.Node.clock g.N.Node.was g.N.Node.next in
    let p : Cut g.N.Node.Record = plain_cut g.N.Node.plain c.loop-alloc.cut in
    let early : clock_at kind p (least kind p) < c.args.until
    = subst (λ (n : ℕ). n < c.args.until) c.least_clock.ensures.value c.loop-alloc-test.true in
    (c.go_on-cut.ensures c.loop-alloc.cut c.in-Ok.ensures.made
    (limits_stay g.N.Node.bound c.loop-alloc.cut.consoles c.args.cut.consoles c.args.until c.loop-alloc.invariant.limits
    c.requires)).fewer early

pub loop-alloc-preserved : goal.loop-alloc-preserved
loop-alloc-preserved g c =
    let nearer = c.go_on-cut.ensures c.loop-alloc.cut c.in-Ok.ensures.made
    (limits_stay g.N.Node.bound c.loop-alloc.cut.consoles c.args.cut.consoles c.args.until c.loop-alloc.invariant.limits
    c.requires) in
    record {
      same_end = nearer.same_end ∙ c.loop-alloc.invariant.same_end;
      limits = nearer.limits ∙ c.loop-alloc.invariant.limits;
    }

pub run_serial-requires-in-Err : goal.run_serial-requires-in-Err
run_serial-requires-in-Err g c =
    subst (λ (d : Cut g.row.N.Denot). All (λ (n : g.row.N.Denot). c.args.until ≤ g.N.Node.bound n) d.consoles)
    (sym c.in-Err.ensures.refused)
    (limits_stay g.N.Node.bound c.loop-alloc.cut.consoles c.args.cut.consoles c.args.until c.loop-alloc.invariant.limits
    c.requires)

pub returns-clause-run : goal.returns-clause-run
returns-clause-run g c =
    let kind : NodeKind g.N.Node.Record = kind_of g.N.Node.clock g.N.Node.was g.N.Node.next in
    let p : Cut g.N.Node.Record = plain_cut g.N.Node.plain c.loop-alloc.cut in
    let late : c.args.until ≤ clock_at kind p (least kind p)
    = subst (λ (n : ℕ). c.args.until ≤ n) c.least_clock.ensures.value c.loop-alloc-test.false in
    run_over kind p c.args.until c.least_clock.ensures.live late ∙ c.loop-alloc.invariant.same_end

pub returns-clause-done : goal.returns-clause-done
returns-clause-done g c i below =
    let kind : NodeKind g.N.Node.Record = kind_of g.N.Node.clock g.N.Node.was g.N.Node.next in
    let p : Cut g.N.Node.Record = plain_cut g.N.Node.plain c.loop-alloc.cut in
    let late : c.args.until ≤ clock_at kind p (least kind p)
    = subst (λ (n : ℕ). c.args.until ≤ n) c.least_clock.ensures.value c.loop-alloc-test.false in
    let same = length-map c.loop-alloc.cut.consoles g.N.Node.plain in
    all_done kind p c.args.until late i (omega (arith, below, same))
