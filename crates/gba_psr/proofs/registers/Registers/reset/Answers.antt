use Rattle.std.proofs.Common.{refl}
use Rattle.gba_psr.specs.Arrangement.{arrangement, seat}
use Rattle.gba_psr.specs.RegisterFile.{reset_file}
use Rattle.gba_psr.proofs.registers.Registers.reset.Goals as goal

pub returns : goal.returns
unfolding arrangement seat reset_file
returns c = refl
