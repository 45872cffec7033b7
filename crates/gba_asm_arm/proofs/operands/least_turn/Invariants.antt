use Rattle.std.proofs.Common.{◌≡◌, ◌-◌}
use Rattle.gba_asm_arm.specs.Operands.{least_turn, least_turn_from}
use Rattle.gba_asm_arm.proofs.operands.least_turn.Given as goal

abbrev pub invariant-loop-turn : goal.invariant-loop-turn
invariant-loop-turn l = least_turn_from (16 - l.turn) l.turn l.number ≡ least_turn l.number
