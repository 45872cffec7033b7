-- A unit that is made of its numbers.
use Rattle.std.proofs.Common.{◌≡◌, ℕ, ◌*◌, ◌/◌, ◌%◌, ◌^◌, ◌<◌, refl, arith}
use Rattle.std.proofs.lemmas.Bool.Decides.{nat_tests}
use Rattle.gba_terms.specs.Bits.{bit}
use Rattle.gba_serial.specs.Making.{MadeAgain, players_of}
use Rattle.gba_serial.specs.Numbers.{received_mask}
use Rattle.gba_word.specs.Weights.{weight}
use Rattle.gba_serial.specs.declared.transfer.Running.{Running}

weight-bit : (mask place : ℕ) → weight (2 ^ place) (bit mask place) ≡ 2 ^ place * (mask / 2 ^ place % 2)
weight-bit mask place = grind (arith, nat_tests)

masked : (mask : ℕ) (run : Running) → mask < 2 ^ 4 → received_mask (record run { got = players_of mask }) ≡ mask
unfolding players_of
masked mask run small =
    let a = weight-bit mask 0 in
    let b = weight-bit mask 1 in
    let c = weight-bit mask 2 in
    let d = weight-bit mask 3 in
    omega (arith, small, a, b, c, d)

pub made-again : MadeAgain
made-again = record { unit = λ u. refl; mask = masked }
