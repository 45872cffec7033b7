use Rattle.std.proofs.Common.{sym}
use Rattle.gba_psr.specs.declared.condition.Flags.{Flags}
use Rattle.gba_psr.proofs.FlagsApart.{with_flags-with_flags}
use Rattle.gba_psr.proofs.apart.RegisterFile.set_flags.Goals as goal

pub returns : goal.returns
returns c =
    let inside = c.self.inside in
    let now : Flags = inside.kept in
    rw (c.new-self-inside.ensures, ← c.self.view_is)
    (sym (with_flags-with_flags inside.file now c.args.flags c.cpsr.ensures.file.count))
