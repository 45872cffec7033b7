use Rattle.std.proofs.Common.{arith}
use Rattle.gba_word.proofs.Powers.{product_past}
use Rattle.gba_word.proofs.shifter.shift_left.Goals as goal

pub returns-then-amount-gt32 : goal.returns-then-amount-gt32
returns-then-amount-gt32 c =
    rw (product_past c.args.value c.args.amount (omega arith)) (grind arith)
