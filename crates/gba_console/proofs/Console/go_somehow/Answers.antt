use Rattle.std.proofs.Common.{◌<◌, [], Option, None, subst, sym, arith}
use Rattle.link_node.specs.Alone.{Steps}
use Rattle.link_node.specs.declared.signal.Signal.{Signal}
use Rattle.gba_console.specs.Machine.{Machine, clock_of}
use Rattle.gba_console.specs.Run.{GoesAlone}
use Rattle.gba_console.specs.Step.{stepped, told}
use Rattle.gba_console.proofs.Rows.{and-then, told-rises}
use Rattle.gba_console.proofs.Console.go_somehow.Goals as goal

pub returns-in-Some-clause-rises : goal.returns-in-Some-clause-rises
returns-in-Some-clause-rises c =
    told-rises (c.steps_pass.ensures []) c.in-Some.signal c.go_plainly.ensures.alone c.in-Some.is

pub returns-then-clock-end-clause-alone : goal.returns-then-clock-end-clause-alone
returns-then-clock-end-clause-alone c =
    let x = c.args.self.now in
    let y = c.go_idly.new.self in
    let end = c.args.end in
    let none : Option Signal = None in
    let first : GoesAlone end x c.go_plainly.new.self none
    = subst (λ (o : Option Signal). GoesAlone end x c.go_plainly.new.self o) c.in_default.is
    c.go_plainly.ensures.alone in
    let idled : GoesAlone end x y none = and-then (omega arith) first c.go_idly.ensures.alone in
    let early : clock_of y < end = omega (arith, c.clock.ensures.value, c.if-clock-end.true) in
    let made : GoesAlone end x (stepped [] y) (told [] y) = Steps y idled early in
    subst (λ (m : Machine). GoesAlone end x m c.step_fully.result) (sym c.step_fully.ensures.step)
    (subst (λ (o : Option Signal). GoesAlone end x (stepped [] y) o) (sym c.step_fully.ensures.signal) made)

pub returns-clause-alone : goal.returns-clause-alone
returns-clause-alone c =
    let x = c.args.self.now in
    let end = c.args.end in
    let none : Option Signal = None in
    let first : GoesAlone end x c.go_plainly.new.self none
    = subst (λ (o : Option Signal). GoesAlone end x c.go_plainly.new.self o) c.in_default.is
    c.go_plainly.ensures.alone in
    and-then (omega arith) first c.go_idly.ensures.alone
