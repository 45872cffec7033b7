use Rattle.std.proofs.Common.{ap, subst, ◌∙◌}
use Rattle.gba_psr.specs.RegisterFile.{IsRegisterFile, status, with_flags}
use Rattle.gba_psr.specs.declared.condition.Flags.{Flags}
use Rattle.gba_psr.proofs.apart.RegisterFile.cpsr.Goals as goal

pub returns-clause-value : goal.returns-clause-value
returns-clause-value c =
    let file = c.self.inside.file in
    c.status_with.ensures.value ∙ ap (λ (flags : Flags). status (with_flags file flags)) c.flags.ensures
    ∙ ap status c.self.view_is

pub returns-clause-file : goal.returns-clause-file
returns-clause-file c =
    let file = c.self.inside.file in
    subst IsRegisterFile c.self.view_is
    (subst (λ (flags : Flags). IsRegisterFile (with_flags file flags)) c.flags.ensures c.status_with.ensures.file)
