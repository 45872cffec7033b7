use Rattle.std.proofs.Common.{◌≡◌, length}
use Rattle.gba_asm.specs.Directives.{are_items}
use Rattle.gba_asm.proofs.directives.are_items.Given as goal

abbrev pub invariant-loop-token : goal.invariant-loop-token
invariant-loop-token l = are_items l.width l.initial.due l.initial.tokens ≡ are_items l.width l.due l.tokens

abbrev pub decreases-loop-token : goal.decreases-loop-token
decreases-loop-token l = length l.tokens
