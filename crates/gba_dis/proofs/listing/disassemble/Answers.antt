use Rattle.std.proofs.Common.{arith}
use Rattle.gba_dis.proofs.Back.{answer_back}
use Rattle.gba_dis.proofs.listing.disassemble.Goals as goal

pub returns-clause-comes_back : goal.returns-clause-comes_back
returns-clause-comes_back c =
    answer_back _ c.args.set c.args.bytes.now c.list_bytes.result (λ i. omega (arith, c.type_inv.bytes i)) c.requires
    c.list_bytes.ensures
