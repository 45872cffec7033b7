use Rattle.std.proofs.Common.{rules, ◌≤◌}
use Rattle.std.specs.Prelude.{All}
use Rattle.link_core.proofs.Keeping.{limits_stay}
use Rattle.link_trials.specs.declared.beat.Beat.{Beat}
use Rattle.link_run_tests.proofs.signals.a_signal_that_nobody_took_stays_on_its_way.Goals as goal

pub run_to-cut-requires-2-after_bounds : goal.run_to-cut-requires-2-after_bounds
run_to-cut-requires-2-after_bounds g c κs =
    let first : All (λ (b : Beat). 2000 ≤ b.limit) c.in-Ok.cut.consoles = search rules in
    limits_stay (λ (b : Beat). b.limit) c.run_to-cut.result.consoles c.in-Ok.cut.consoles 2000
    c.run_to-cut.ensures.limits first
