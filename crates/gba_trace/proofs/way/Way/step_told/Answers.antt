use Rattle.std.proofs.Common.{◌≡◌, ◌<◌, length, get_or, ap, subst, ◌∙◌, ◌++◌, ℕ, List, arith}
use Rattle.std.specs.Prelude.{OnOk}
use Rattle.std.proofs.lemmas.List.{length-map}
use Rattle.gba_console.specs.Machine.{Machine, limit_of}
use Rattle.gba_freeze.specs.StepLine.{step_line}
use Rattle.gba_trace.specs.Trace.{next_line}
use Rattle.gba_trace.proofs.Showing.{line-shown, step-shown}
use Rattle.gba_trace.proofs.way.Way.step_told.Goals as goal

pub returns-clause-shows : goal.returns-clause-shows
returns-clause-shows c = λ plain shows.
    step-shown c.shorn_unseen.ensures.unseen c.shorn_unseen.ensures.tells c.steps.ensures plain
    c.args.self.now.cut shows c.serial_step.new.self c.serial_step.ensures.step

pub returns-clause-line : goal.returns-clause-line
returns-clause-line c = λ plain shows.
    let cut = c.args.self.now.cut in
    let after = c.serial_step.new.self in
    let m = c.index-nodes-player.result in
    let player = c.least-player.result in
    let long = ap (λ (limits : List ℕ). length limits) c.serial_step.ensures.limits in
    let within : player < length after.consoles = omega (
      arith,
      c.least-player.ensures.player,
      long,
      length-map after.consoles limit_of,
      length-map cut.consoles limit_of,
    ) in
    let line : step_line m ≡ next_line plain =
    line-shown c.shorn_unseen.ensures.unseen c.shorn_unseen.ensures.tells c.steps.ensures plain cut shows after player m
    c.serial_step.ensures.step c.least-player.ensures.value within
    (c.index-nodes-player.is ∙ ap (λ (ms : List Machine). get_or ms player m) c.nodes.ensures.value) in
    subst (λ (told : List ℕ). OnOk c.step_line.result (c.step_line.new.into.items ≡ c.args.text.now.items ++ told)) line
    c.step_line.ensures
