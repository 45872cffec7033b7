use Rattle.gba_bus.specs.declared.width.Width.TheVariants.{Byte}
use Rattle.gba_exec_transfers.specs.Singles.{unit_load}
use Rattle.gba_exec_transfers.proofs.laws.bytes_are_extended_by_zeros.Goals as goal

pub returns : goal.returns
unfolding unit_load
returns g c = λ site address bus. g.met.B.Bus.loads_fit bus site.address address Byte _
