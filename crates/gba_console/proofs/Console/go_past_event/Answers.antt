use Rattle.std.proofs.Common.{◌≡◌, ℕ, ◌+◌, ◌-◌, ◌*◌, ◌/◌, ◌<◌, [], Option, subst, arith}
use Rattle.std.specs.Prelude.{min}
use Rattle.link_node.specs.declared.signal.Signal.{Signal}
use Rattle.gba_console.specs.Machine.{clock_of}
use Rattle.gba_console.specs.Run.{GoesAlone}
use Rattle.gba_console.proofs.Idling.{can-once, can-still, kept-twice}
use Rattle.gba_console.proofs.Rows.{one-more, serial-silent}
use Rattle.gba_console.proofs.Console.go_past_event.Goals as goal

-- after fewer steps than begin below the stop another one does
still-below : (clock stop left steps after : ℕ) → left ≡ min (stop - clock) 1024 → steps < (left + 16 - 1) / 16
    → clock < stop → after ≡ clock + 16 * steps → after < stop
still-below clock stop left steps after e fewer below moved = omega (arith, e, fewer, below, moved)

pub step_idly-requires : goal.step_idly-requires
step_idly-requires c =
    let first = c.go_quietly-steps in
    let left = rw c.clock.ensures.value at c.min-left.ensures in
    can-once c.args.stop first.new.self
    (can-still c.args.stop c.args.self.now first.new.self c.requires.idles first.ensures.keeps
    (omega (arith, first.ensures.clock)) first.ensures.idle)
    (still-below (clock_of c.args.self.now) c.args.stop c.min-left.result first.result
    (clock_of first.new.self) left c.if-most-steps.false c.requires.below first.ensures.clock)

pub returns-clause-keeps : goal.returns-clause-keeps
returns-clause-keeps c = kept-twice c.go_quietly-steps.ensures.keeps c.step_idly.ensures.keeps

pub returns-clause-alone : goal.returns-clause-alone
returns-clause-alone c =
    let first = c.go_quietly-steps in
    let left = rw c.clock.ensures.value at c.min-left.ensures in
    let early = still-below (clock_of c.args.self.now) c.args.stop c.min-left.result first.result
    (clock_of first.new.self) left c.if-most-steps.false c.requires.below first.ensures.clock in
    let after = c.step_idly.new.self in
    subst (λ (o : Option Signal). GoesAlone c.args.stop c.args.self.now after o)
    (serial-silent c.stays_quiet.ensures first.new.self after first.ensures.idle c.step_idly.ensures.keeps.serial)
    (one-more (c.steps_pass.ensures []) c.args.stop c.args.self.now first.new.self after first.ensures.alone early
    c.step_idly.ensures.step)
