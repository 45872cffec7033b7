use Rattle.std.proofs.Common.{[], ◌∙◌, ap, sym}
use Rattle.gba_devices.specs.State.{is_idle}
use Rattle.gba_serial.specs.Tell.{has_news, outgoing}
use Rattle.gba_console.specs.Machine.{Machine, clock_of}
use Rattle.gba_console.proofs.Calm.{not-second}
use Rattle.gba_console.proofs.Console.step_if_idle.Goals as goal

pub returns-clause-silent : goal.returns-clause-silent
returns-clause-silent c = λ idled.
    let before = c.args.self.now in
    let core = before.board.core in
    let clock = clock_of before in
    let none = not-second (is_idle core.devices) (has_news core.serial)
    (sym c.is_idle.ensures ∙ c.if-not-is_idle.false) in
    (c.steps_pass.ensures [] before).tells
    ∙ ap (λ (m : Machine). outgoing clock m.board.core.serial) (sym c.step_idly.ensures.step)
    ∙ ap (outgoing clock) c.step_idly.ensures.keeps.serial
    ∙ c.stays_quiet.ensures.outgoing clock core.serial none
