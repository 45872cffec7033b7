use Rattle.std.proofs.Common.{length}
use Rattle.gba_asm.proofs.CountedItems.{IsCounting}
use Rattle.gba_asm.proofs.directives.count_words.Given as goal

abbrev pub invariant-loop-token : goal.invariant-loop-token
invariant-loop-token l = IsCounting l.count l.tokens l.initial.tokens

abbrev pub decreases-loop-token : goal.decreases-loop-token
decreases-loop-token l = length l.tokens
