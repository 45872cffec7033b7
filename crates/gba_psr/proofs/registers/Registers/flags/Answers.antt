use Rattle.std.proofs.Common.{sym}
use Rattle.gba_psr.proofs.Views.{flags_kept}
use Rattle.gba_psr.proofs.registers.Registers.flags.Goals as goal

pub returns : goal.returns
returns c =
    rw (← c.self.view_is, c.bit.ensures, c.bit-2.ensures, c.bit-3.ensures, c.bit-4.ensures)
    (sym (flags_kept c.self.inside.numbers))
