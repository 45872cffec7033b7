use Rattle.gba_psr.specs.declared.condition.Flags.{Flags}
use Rattle.gba_psr.proofs.FlagsApart.{with_register-with_flags}
use Rattle.gba_psr.proofs.apart.RegisterFile.set.Goals as goal

pub returns : goal.returns
returns c =
    let inside = c.self.inside in
    let now : Flags = inside.kept in
    rw (c.set.ensures, ← c.self.view_is)
    (with_register-with_flags inside.file now c.args.number c.args.value c.cpsr.ensures.file.count c.requires)
