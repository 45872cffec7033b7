use Rattle.std.proofs.Common.{arith}
use Rattle.gba_psr.proofs.Views.{with_status_kept}
use Rattle.gba_psr.proofs.registers.write_status.Goals as goal

pub returns-clause-file : goal.returns-clause-file
returns-clause-file c =
    rw c.next_status-new.ensures.value
    (with_status_kept c.args.numbers.now c.change_bank.new.numbers c.args.value (omega arith) (omega arith)
    (rw (← c.next_status-new.ensures.value, ← c.bits-2.ensures, ← c.bits.ensures) c.change_bank.ensures))
