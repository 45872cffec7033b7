use Rattle.std.proofs.Common.{ap, sym, ◌∙◌}
use Rattle.gba_psr.specs.Status.{status_with_flags}
use Rattle.gba_psr.proofs.FileLaws.{status-with_flags}
use Rattle.gba_psr.proofs.FlagsApart.{file-with_flags}
use Rattle.gba_psr.proofs.registers.Registers.status_with.Goals as goal

pub returns-clause-value : goal.returns-clause-value
returns-clause-value c =
    c.flagged_status.ensures.value
    ∙ ap (λ old. status_with_flags old c.args.flags) c.cpsr.ensures.value
    ∙ sym (status-with_flags c.args.self.now c.args.flags c.cpsr.ensures.file.count)

pub returns-clause-file : goal.returns-clause-file
returns-clause-file c = file-with_flags c.args.self.now c.args.flags c.cpsr.ensures.file
