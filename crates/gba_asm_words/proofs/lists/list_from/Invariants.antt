use Rattle.std.proofs.Common.{◌≡◌, length}
use Rattle.gba_asm_words.specs.Lists.{list_from}
use Rattle.gba_asm_words.proofs.lists.list_from.Given as goal

abbrev pub invariant-loop-tokens : goal.invariant-loop-tokens
invariant-loop-tokens l = list_from l.initial.state l.initial.tokens ≡ list_from l.state l.tokens

abbrev pub decreases-loop-tokens : goal.decreases-loop-tokens
decreases-loop-tokens l = length l.tokens
