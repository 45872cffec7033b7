use Rattle.gba_exec_transfers.proofs.Lengths.{word_length}
use Rattle.gba_exec_transfers.proofs.laws.cycles_of_an_operation.Goals as goal

pub returns : goal.returns
returns g c =
    word_length g.B.Bus.code_price_of g.B.Bus.load_of g.B.Bus.store_of g.met.B.Bus.code_prices g.met.B.Bus.load_prices
    g.met.B.Bus.store_prices
