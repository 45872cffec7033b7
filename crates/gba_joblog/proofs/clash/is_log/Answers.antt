use Rattle.std.proofs.Common.{sym, ap, ◌∙◌}
use Rattle.std.specs.Prelude.{codes}
use Rattle.gba_joblog.proofs.OutputNames.{front-tail, is_text}
use Rattle.gba_joblog.proofs.clash.is_log.Goals as goal

pub returns-in-Some : goal.returns-in-Some
returns-in-Some c =
    let named = front-tail c.args.out.now c.args.name.now (codes ".log") in
    (rw c.as_slice.ensures at c.eq.ensures) ∙ sym (named ∙ ap (is_text (codes ".log")) (sym c.in-Some.ensures))

pub returns-in-None : goal.returns-in-None
returns-in-None c =
    let named = front-tail c.args.out.now c.args.name.now (codes ".log") in
    sym (named ∙ ap (is_text (codes ".log")) (sym c.in-None.ensures))
