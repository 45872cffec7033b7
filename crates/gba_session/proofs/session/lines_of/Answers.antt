use Rattle.std.proofs.Common.{arith}
use Rattle.gba_session.proofs.Summaries.{line-added}
use Rattle.gba_session.proofs.session.lines_of.Goals as goal

pub loop-console-preserved : goal.loop-console-preserved
loop-console-preserved c =
    let held = c.loop-console.invariant in (
      line-added c.loop-console.lines.items c.add_summary.new.line.items _ c.args.consoles.now
          c.loop-console.console-index c.console-item.result c.loop-console-test.true c.console-item.is
          c.add_summary.ensures.items held.0,
      omega (arith, held.1, c.add_summary.ensures.len),
    )
