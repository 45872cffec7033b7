use Rattle.std.proofs.Common.{◌-◌, arith, rules}
use Rattle.gba_word.proofs.Powers.{quotient_past}
use Rattle.gba_word.proofs.shifter.shift_right.Goals as goal

pub returns-then-amount-gt32 : goal.returns-then-amount-gt32
returns-then-amount-gt32 c =
    rw (
      quotient_past c.args.value c.args.amount (omega arith) (omega arith),
      quotient_past c.args.value (c.args.amount - 1) (omega arith) (omega arith),
    ) (search rules)
