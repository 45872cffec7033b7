use Rattle.std.proofs.Common.{arith}
use Rattle.link_core.proofs.Keeping.{limits_stay}
use Rattle.link_run_tests.proofs.schedules.compare.Goals as goal

pub run_serial-requires-2 : goal.run_serial-requires-2
run_serial-requires-2 g c =
    limits_stay (λ m. m.limit) c.run_serial.new.self.consoles c.in_ok-serial.serial.consoles c.args.until
    c.run_serial.ensures.limits
    (λ k d below. omega (arith, c.in_ok-serial.ensures.limits k d below, c.requires.until))

pub run_to-cut-requires-2-after_bounds : goal.run_to-cut-requires-2-after_bounds
run_to-cut-requires-2-after_bounds g c κs within =
    limits_stay (λ m. m.limit) c.run_to-cut.result.consoles c.in_ok-cut.cut.consoles c.args.until
    c.run_to-cut.ensures.limits
    (λ k d below. omega (arith, c.in_ok-cut.ensures.limits k d below, c.requires.until))
