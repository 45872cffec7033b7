use Rattle.std.proofs.Common.{sym}
use Rattle.gba_psr.proofs.Views.{user_register_kept}
use Rattle.gba_psr.proofs.registers.Registers.user_get.Goals as goal

pub returns : goal.returns
returns c =
    rw (← c.self.view_is, c.place_of.ensures.place, c.bits.ensures)
    (sym (user_register_kept c.self.inside.numbers c.args.number c.requires))
