use Rattle.std.proofs.Common.{◌≡◌, ◌<◌, ◌⊎◌, ◌+◌, ◌≤◌, length, arith}
use Rattle.std.proofs.lemmas.Bool.Decides.{nat_tests}
use Rattle.std.proofs.lemmas.List.Edits.{swapped_from_swap}
use Rattle.gba_psr.specs.Arrangement.{seat}
use Rattle.gba_psr.proofs.Seats.{banks_apart, crossed_more}
use Rattle.gba_psr.proofs.banks.exchange.Goals as goal

pub loop-number-preserved : goal.loop-number-preserved
loop-number-preserved c =
    let first = c.lowest_banked-first.result in
    let number = c.loop-number.number in
    let distance = c.distance_of_bank-distance.result in
    let apart : (distance ≡ 0) ⊎ (15 ≤ first + distance) =
    rw (c.distance_of_bank-distance.ensures, c.lowest_banked-first.ensures) (banks_apart c.args.mode) in
    let some : first ≤ 13 = grind (arith, nat_tests) in
    let near : distance ≤ 16 = grind (arith, nat_tests) in
    let from : number < length c.loop-number.numbers = omega arith in
    let to : number + distance < length c.loop-number.numbers = omega arith in
    let swapped =
    swapped_from_swap c.loop-number.numbers c.swap.new.self number (number + distance) 0 from to c.swap.ensures.after in
    crossed_more c.args.numbers.now c.loop-number.numbers c.swap.new.self first number distance apart
    c.loop-number.auto.number c.loop-number-test.true (omega arith) c.loop-number.invariant swapped

pub returns : goal.returns
unfolding seat
returns c = λ place within.
    let last : c.loop-number.number ≡ 15 = grind (arith, nat_tests) in
    let whole = c.loop-number.invariant place within in
    rw (← last, ← c.lowest_banked-first.ensures, ← c.distance_of_bank-distance.ensures) whole
