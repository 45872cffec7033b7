use Rattle.std.proofs.Common.{[], ◌∙◌, sym, arith}
use Rattle.gba_console.proofs.Rises.{run-done}
use Rattle.gba_console.proofs.Rows.{none-told, same-end, told-early}
use Rattle.gba_console.proofs.Console.run_to.Goals as goal

pub loop-preserved : goal.loop-preserved
loop-preserved c = record {
  same =
      same-end (c.steps_pass.ensures []) c.enough.ensures c.args.until (omega arith) c.go_alone.ensures.alone
      ∙ c.loop.invariant.same;
  until = c.go_alone.ensures.until ∙ c.loop.invariant.until;
}

pub loop-smaller : goal.loop-smaller
loop-smaller c =
    let early =
    told-early (c.steps_pass.ensures []) c.go_alone.ensures.alone (sym c.is_some.ensures ∙ c.loop-test.true) in
    omega (arith, early, c.go_alone.ensures.rises early)

pub returns-clause-run : goal.returns-clause-run
returns-clause-run c =
    let ends = c.go_alone.ensures.ends (none-told c.go_alone.result (sym c.is_some.ensures ∙ c.loop-test.false)) in
    sym (run-done c.args.until c.go_alone.new.self ends)
    ∙ same-end (c.steps_pass.ensures []) c.enough.ensures c.args.until (omega arith) c.go_alone.ensures.alone
    ∙ c.loop.invariant.same
