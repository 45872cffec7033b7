use Rattle.std.proofs.Common.{◌≡◌, ◌-◌, [], length, take, drop, refl, arith}
use Rattle.gba_text.specs.Words.{fault_of, words}
use Rattle.gba_text.proofs.cursor.Cursor.new.Goals as goal

pub invariant_of-result : goal.invariant_of-result
unfolding fault_of
invariant_of-result c =
    let bs = c.args.bytes.now in
    let none : take (length bs - length bs) (drop (length bs) bs) ≡ [] = grind arith in
    rw none (refl, omega (arith, c.well_formed.0.0))

pub returns : goal.returns
unfolding words
returns c =
    let bs = c.args.bytes.now in
    let none : take (length bs - length bs) (drop (length bs) bs) ≡ [] = grind arith in
    rw none refl
