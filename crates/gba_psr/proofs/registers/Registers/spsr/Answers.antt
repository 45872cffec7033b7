use Rattle.std.proofs.Common.{sym}
use Rattle.gba_psr.proofs.Views.{saved_status_kept}
use Rattle.gba_psr.proofs.registers.Registers.spsr.Goals as goal

pub returns : goal.returns
returns c =
    rw (← c.self.view_is, c.saved_place_of.ensures.place, c.bits.ensures)
    (sym (saved_status_kept c.self.inside.numbers))
