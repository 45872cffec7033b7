use Rattle.std.proofs.Common.{◌<◌, ◌≤◌, ◌+◌, [], sym, subst}
use Rattle.gba_console.specs.Machine.{Machine, clock_of}
use Rattle.gba_console.proofs.Console.step.Goals as goal

pub returns-clause-raised : goal.returns-clause-raised
returns-clause-raised c =
    let before = c.args.self.now in
    subst (λ (m : Machine). clock_of before < clock_of m) (sym c.step_fully.ensures.step)
    (c.steps_pass.ensures [] before).raised

pub returns-clause-short : goal.returns-clause-short
returns-clause-short c =
    let before = c.args.self.now in
    subst (λ (m : Machine). clock_of m ≤ clock_of before + 512) (sym c.step_fully.ensures.step)
    (c.steps_pass.ensures [] before).short
