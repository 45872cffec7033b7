-- The least turn that gives a number.
use Rattle.std.proofs.Common.{◌≡◌, ◌≤◌, ◌<◌, ℕ, suc, ◌+◌, ◌-◌, Some, None, lt-ltb, le-ltb, refl, arith}
use Rattle.gba_asm_arm.specs.Operands.{least_turn, least_turn_from, turned_back}

pub turn_first : (number : ℕ) → least_turn_from 16 0 number ≡ least_turn number
unfolding least_turn
turn_first number = refl

pub turn_found : (turn number value : ℕ) → turn < 16 → value ≡ turned_back number turn → value < 256
    → least_turn_from (16 - turn) turn number ≡ Some (record { value = value; turn = turn })
unfolding least_turn_from
turn_found turn number value more same small =
    let e : 16 - turn ≡ suc (15 - turn) = omega arith in
    let h : turned_back number turn < 256 = rw same at small in
    rw (e, same, lt-ltb (turned_back number turn) 256 h) refl

pub turn_next : (turn number value : ℕ) → turn < 16 → value ≡ turned_back number turn → 256 ≤ value
    → least_turn_from (16 - turn) turn number ≡ least_turn_from (16 - (turn + 1)) (turn + 1) number
unfolding least_turn_from
turn_next turn number value more same large =
    let e : 16 - turn ≡ suc (16 - (turn + 1)) = omega arith in
    let h : 256 ≤ turned_back number turn = rw same at large in
    rw (e, le-ltb (turned_back number turn) 256 h) refl

pub turn_none : (turn number : ℕ) → 16 ≤ turn → least_turn_from (16 - turn) turn number ≡ None
unfolding least_turn_from
turn_none turn number past =
    let e : 16 - turn ≡ 0 = omega arith in
    rw e refl
