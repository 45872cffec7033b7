use Rattle.gba_exec_transfers.specs.Keeping.{Passing}
use Rattle.gba_exec_transfers.proofs.Keeping.{kept-word}
use Rattle.gba_exec_transfers.proofs.laws.operations_keep.Goals as goal

pub returns : goal.returns
returns g c =
    λ test loads stores. kept-word g.B.Bus.code_price_of g.B.Bus.load_of g.B.Bus.store_of (Passing test) loads stores
