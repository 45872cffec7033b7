use Rattle.std.proofs.Common.{◌≡◌, ◌++◌, replicate}
use Rattle.gba_asm.proofs.encoding.add_zeros.Given as goal

abbrev pub invariant-loop : goal.invariant-loop
invariant-loop l = l.image.items ≡ l.initial.image.items ++ replicate l.counter 0
