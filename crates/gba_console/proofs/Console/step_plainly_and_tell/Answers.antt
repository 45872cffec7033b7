use Rattle.std.proofs.Common.{◌∙◌, [], ap, sym}
use Rattle.gba_console.specs.Run.{news}
use Rattle.gba_console.proofs.Rows.{calm-silent, just-one, told-news}
use Rattle.gba_console.proofs.Console.step_plainly_and_tell.Goals as goal

pub returns-clause-step : goal.returns-clause-step
returns-clause-step c = just-one (c.steps_pass.ensures []) c.go_plainly_for.ensures.alone c.go_plainly_for.ensures.later

pub returns-clause-signal : goal.returns-clause-signal
returns-clause-signal c =
    let passes = c.steps_pass.ensures [] in
    let step = just-one passes c.go_plainly_for.ensures.alone c.go_plainly_for.ensures.later in
    c.news.ensures ∙ ap news step ∙ sym (told-news passes c.args.self.now)

pub returns-then-is_calm-clause-step : goal.returns-then-is_calm-clause-step
returns-then-is_calm-clause-step c =
    just-one (c.steps_pass.ensures []) c.go_plainly_for.ensures.alone c.go_plainly_for.ensures.later

pub returns-then-is_calm-clause-signal : goal.returns-then-is_calm-clause-signal
returns-then-is_calm-clause-signal c =
    let passes = c.steps_pass.ensures [] in
    let step = just-one passes c.go_plainly_for.ensures.alone c.go_plainly_for.ensures.later in
    let calm = sym c.is_calm.ensures ∙ c.if-is_calm.true in
    sym (told-news passes c.args.self.now ∙ ap news (sym step)
    ∙ calm-silent c.stays_quiet.ensures c.go_plainly_for.new.self calm)
