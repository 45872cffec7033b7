use Rattle.gba_thumb_exec.proofs.Lengths.{execution_length}
use Rattle.gba_thumb_exec.proofs.laws.cycles_of_a_halfword.Goals as goal

pub returns : goal.returns
returns g c =
    execution_length g.B.Bus.code_price_of g.B.Bus.load_of g.B.Bus.store_of g.met.B.Bus.code_prices
    g.met.B.Bus.load_prices c.cycles_of_an_operation.ensures
