use Rattle.gba_exec_transfers.proofs.Accesses.{stores-accesses}
use Rattle.gba_exec_transfers.proofs.laws.stores_in_order.Goals as goal

pub returns : goal.returns
returns g c = stores-accesses g.B.Bus.code_price_of g.B.Bus.load_of g.B.Bus.store_of
