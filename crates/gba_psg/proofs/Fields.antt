-- Fields of the registers, and the period of noise, which is made of two of them.
use Rattle.std.proofs.Common.{◌≡◌, ℕ, ◌+◌, ◌*◌, ◌/◌, ◌%◌, ◌^◌, ◌<◌, ◌≤◌, Bool, true, false, refl, arith}
use Rattle.std.specs.Prelude.{nat_eq, if◌then◌else◌}
use Rattle.std.proofs.Math.Pow.{pow_mono}
use Rattle.std.proofs.lemmas.Nat.{mod_below, pow_below, pow_pos, shl_below, shl_whole}
use Rattle.gba_terms.specs.Bits.{field}
use Rattle.gba_psg.specs.declared.noise.Noise.{Noise}
use Rattle.gba_psg.specs.Noise.{noise_period}

pub field-below : (n low width : ℕ) → field n low width < 2 ^ width
field-below n low width = mod_below (n / 2 ^ low) (2 ^ width) (pow_pos width)

-- the period by ratio and shift
pub fits-32 : (ratio shift : ℕ) → ratio < 8 → shift < 16 → ratio * 2 ^ (shift + 6) % 2 ^ 32 ≡ ratio * 2 ^ (shift + 6)
fits-32 ratio shift r s = shl_whole ratio 3 (shift + 6) 32 r (omega (arith, s))

pub some-period : (ratio shift : ℕ) → 0 < ratio → 0 < ratio * 2 ^ (shift + 6)
some-period ratio shift r = (let p = pow_pos (shift + 6) in grind (arith, p, r))

below-24 : (ratio shift : ℕ) → ratio < 8 → shift < 16 → ratio * 2 ^ (shift + 6) < 2 ^ 24
below-24 ratio shift r s =
    let below = shl_below ratio 3 (shift + 6) r in
    let most : 2 ^ (3 + (shift + 6)) ≤ 2 ^ 24 = pow_mono {i = 3 + (shift + 6)} {j = 24} (omega (arith, s)) in
    omega (arith, below, most)

-- a period with a ratio
with-ratio-by : (ratio shift : ℕ) (none : Bool) → nat_eq ratio 0 ≡ none → (ratio ≡ 0 → ⊥)
    → ratio * 2 ^ (shift + 6) ≡ (if none then 2 ^ (shift + 5) else ratio * 2 ^ (shift + 6))
with-ratio-by ratio shift true e some = absurd (some (grind (arith, e)))
with-ratio-by ratio shift false e some = refl

pub with-ratio : (c : Noise) → (field c.control 0 3 ≡ 0 → ⊥)
    → field c.control 0 3 * 2 ^ (field c.control 4 4 + 6) ≡ noise_period c
with-ratio c some = with-ratio-by (field c.control 0 3) (field c.control 4 4) (nat_eq (field c.control 0 3) 0) refl some

period-positive-by : (ratio shift : ℕ) (none : Bool) → nat_eq ratio 0 ≡ none
    → 0 < (if none then 2 ^ (shift + 5) else ratio * 2 ^ (shift + 6))
period-positive-by ratio shift true e = pow_pos (shift + 5)
period-positive-by ratio shift false e = some-period ratio shift (grind (arith, e))

period-below-by : (ratio shift : ℕ) (none : Bool) → nat_eq ratio 0 ≡ none → ratio < 8 → shift < 16
    → (if none then 2 ^ (shift + 5) else ratio * 2 ^ (shift + 6)) < 2 ^ 24
period-below-by ratio shift true e r s = pow_below (shift + 5) 24 (omega (arith, s))
period-below-by ratio shift false e r s = below-24 ratio shift r s

pub noise-period-positive : (c : Noise) → 0 < noise_period c
noise-period-positive c =
    period-positive-by (field c.control 0 3) (field c.control 4 4) (nat_eq (field c.control 0 3) 0) refl

pub noise-period-below : (c : Noise) → noise_period c < 2 ^ 24
noise-period-below c =
    period-below-by (field c.control 0 3) (field c.control 4 4) (nat_eq (field c.control 0 3) 0) refl
    (field-below c.control 0 3) (field-below c.control 4 4)
