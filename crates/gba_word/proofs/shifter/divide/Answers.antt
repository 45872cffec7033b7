use Rattle.std.proofs.Common.{sym, arith}
use Rattle.gba_word.proofs.Powers.{quotient_past}
use Rattle.gba_word.proofs.shifter.divide.Goals as goal

pub returns-else-amount-lt32 : goal.returns-else-amount-lt32
returns-else-amount-lt32 c = sym (quotient_past c.args.value c.args.amount (omega arith) (omega arith))
