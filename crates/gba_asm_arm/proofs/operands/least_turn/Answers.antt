use Rattle.std.proofs.Common.{◌≡◌, ◌∙◌, sym, arith}
use Rattle.gba_asm_arm.proofs.Turns.{turn_first, turn_found, turn_next, turn_none}
use Rattle.gba_asm_arm.specs.Operands.{turned_back}
use Rattle.gba_asm_arm.proofs.operands.least_turn.Goals as goal

pub loop-turn-init : goal.loop-turn-init
loop-turn-init c = turn_first c.args.number

pub returns-then-value-lt256 : goal.returns-then-value-lt256
returns-then-value-lt256 c =
    let back : c.rotate_left-value.result ≡ turned_back c.args.number c.loop-turn.turn = grind arith in
    sym (turn_found c.loop-turn.turn c.args.number c.rotate_left-value.result (omega arith) back (omega arith))
    ∙ c.loop-turn.invariant

pub loop-turn-preserved : goal.loop-turn-preserved
loop-turn-preserved c =
    let back : c.rotate_left-value.result ≡ turned_back c.args.number c.loop-turn.turn = grind arith in
    sym (turn_next c.loop-turn.turn c.args.number c.rotate_left-value.result (omega arith) back (omega arith))
    ∙ c.loop-turn.invariant

pub returns : goal.returns
returns c = sym (turn_none c.loop-turn.turn c.args.number (omega arith)) ∙ c.loop-turn.invariant
