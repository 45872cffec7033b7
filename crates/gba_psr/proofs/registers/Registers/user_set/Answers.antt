use Rattle.std.proofs.Common.{arith}
use Rattle.gba_psr.proofs.Views.{with_user_register_kept}
use Rattle.gba_psr.proofs.registers.Registers.user_set.Goals as goal

pub returns : goal.returns
returns c =
    rw (← c.self.view_is, c.place_of-place.ensures.place, c.bits.ensures)
    (with_user_register_kept c.self.inside.numbers c.args.number c.args.value (omega arith) c.requires)
