use Rattle.std.proofs.Common.{arith}
use Rattle.gba_psr.proofs.Kept.{arrangement-exchanged, status-exchanged}
use Rattle.gba_psr.proofs.registers.Registers.of.Goals as goal

pub returns : goal.returns
returns c =
    arrangement-exchanged c.args.numbers.now c.exchange.new.numbers (omega arith)
    (rw c.bits.ensures at c.exchange.ensures)

pub invariant_of-result : goal.invariant_of-result
invariant_of-result c =
    rw (status-exchanged c.args.numbers.now c.exchange.new.numbers (rw c.bits.ensures at c.exchange.ensures)) c.requires
