use Rattle.std.proofs.Common.{sym, ◌∙◌}
use Rattle.gba_psr.specs.declared.condition.Flags.{Flags}
use Rattle.gba_psr.proofs.FileLaws.{flags-with_flags}
use Rattle.gba_psr.proofs.apart.RegisterFile.flags.Goals as goal

pub returns : goal.returns
returns c =
    let inside = c.self.inside in
    let now : Flags = inside.kept in
    rw (← c.self.view_is) (c.flags.ensures ∙ sym (flags-with_flags inside.file now c.cpsr.ensures.file.count))
