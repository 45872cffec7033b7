use Rattle.std.proofs.Common.{sym}
use Rattle.gba_psr.proofs.Views.{register_kept}
use Rattle.gba_psr.proofs.registers.Registers.get.Goals as goal

pub returns : goal.returns
returns c = rw (← c.self.view_is) (sym (register_kept c.self.inside.numbers c.args.number c.requires))
