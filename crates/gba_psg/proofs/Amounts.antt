-- How much a side gives at most, and that nothing is given while the master enable is 0.
use Rattle.std.proofs.Common.{◌≡◌, ℕ, ◌+◌, ◌*◌, ◌≤◌, false, ap, ◌∙◌, arith}
use Rattle.std.proofs.lemmas.Nat.{mul-le}
use Rattle.gba_psg.specs.declared.four.FourTones.{FourTones}
use Rattle.gba_psg.specs.Amount.{factor, left_amount, right_amount}
use Rattle.gba_psg.specs.Laws.{IsStill}
use Rattle.gba_psg.specs.Registers.{cleared}
use Rattle.gba_psg.specs.Soundness.{AreSound}
use Rattle.gba_psg.specs.Tones.{after_cycles}
use Rattle.gba_psg.proofs.Ticking.{still-cycles}

pub at-most : (sum volume ratio : ℕ) → sum ≤ 60 → volume ≤ 7 → ratio ≤ 4 → sum * (volume + 1) * ratio * 8 ≤ 15360
at-most sum volume ratio s v r =
    let first = mul-le sum (volume + 1) 60 8 s (omega (arith, v)) in
    let second = mul-le (sum * (volume + 1)) ratio 480 4 first r in
    mul-le (sum * (volume + 1) * ratio) 8 1920 8 second (omega arith)

nothing-times : (n : ℕ) → 0 * n * 8 ≡ 0
nothing-times n = omega arith

left-cleared : (ts : FourTones) → left_amount (cleared ts) ≡ 0
unfolding left_amount
left-cleared ts = nothing-times (factor ts.ratio)

right-cleared : (ts : FourTones) → right_amount (cleared ts) ≡ 0
unfolding right_amount
right-cleared ts = nothing-times (factor ts.ratio)

pub left-off : (ts : FourTones) → AreSound ts → ts.is_on ≡ false → left_amount ts ≡ 0
left-off ts h off = ap left_amount (h.off off) ∙ left-cleared ts

pub right-off : (ts : FourTones) → AreSound ts → ts.is_on ≡ false → right_amount ts ≡ 0
right-off ts h off = ap right_amount (h.off off) ∙ right-cleared ts

pub left-off-after : (count : ℕ) (ts : FourTones) → AreSound ts → ts.is_on ≡ false
    → left_amount (after_cycles count ts) ≡ 0
left-off-after count ts h off = ap left_amount (still-cycles count ts off) ∙ left-off ts h off

pub right-off-after : (count : ℕ) (ts : FourTones) → AreSound ts → ts.is_on ≡ false
    → right_amount (after_cycles count ts) ≡ 0
right-off-after count ts h off = ap right_amount (still-cycles count ts off) ∙ right-off ts h off

pub is-still : IsStill
is-still = record { cycles = still-cycles; left = left-off; right = right-off }
