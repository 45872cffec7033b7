use Rattle.std.proofs.Common.{ap, ◌∙◌}
use Rattle.gba_psr.specs.RegisterFile.{with_flags}
use Rattle.gba_psr.proofs.FlagsApart.{own_flags}
use Rattle.gba_psr.proofs.apart.part.Goals as goal

pub returns : goal.returns
returns c =
    ap (with_flags c.args.file) (c.new.ensures ∙ c.flags-flags.ensures) ∙ own_flags c.args.file c.cpsr.ensures.file
