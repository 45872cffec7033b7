use Rattle.std.proofs.Common.{◌≤◌, ◌+◌, ◌∙◌, sym, ap, arith}
use Rattle.gba_devices.specs.Cycles.{device_cycle, draws_line, quiet}
use Rattle.gba_devices.proofs.devices.Devices.owe_pair.Goals as goal

pub returns-clause-owed : goal.returns-clause-owed
returns-clause-owed c =
    let d = c.self.inside.set in
    let more = c.self.inside.debt in
    let within : more + 1 ≤ quiet d = omega (arith, c.if-self.false, c.self.invariant.2) in
    λ _. (
      sym (c.skips_cycles.ensures.next more d within) ∙ ap device_cycle c.self.view_is,
      ap draws_line (sym c.self.view_is) ∙ c.skips_cycles.ensures.no_line more d within,
    )
