use Rattle.gba_exec_transfers.specs.Keeping.{Passing}
use Rattle.gba_arm_exec.proofs.Keeping.{kept-execution}
use Rattle.gba_arm_exec.proofs.laws.words_keep.Goals as goal

pub returns : goal.returns
returns g c =
    λ test loads stores.
    kept-execution g.B.Bus.code_price_of g.B.Bus.load_of g.B.Bus.store_of (Passing test)
    (c.operations_keep.ensures test loads stores)
