use Rattle.std.proofs.Common.{sym, ◌∙◌}
use Rattle.gba_psr.specs.declared.condition.Flags.{Flags}
use Rattle.gba_psr.proofs.FlagsApart.{user_register-with_flags}
use Rattle.gba_psr.proofs.apart.RegisterFile.user_get.Goals as goal

pub returns : goal.returns
returns c =
    let inside = c.self.inside in
    let now : Flags = inside.kept in
    rw (← c.self.view_is)
    (c.user_get.ensures ∙ sym (user_register-with_flags inside.file now c.args.number c.requires))
