use Rattle.std.proofs.Common.{ℕ, ◌+◌, ◌*◌, ◌^◌, ◌<◌, ◌≤◌, ◌≡◌, arith}
use Rattle.std.proofs.Math.Pow.{pow_mono}
use Rattle.std.proofs.lemmas.Nat.{pow-add, pow_pos, mul-add-lt}

-- a number of `width` bits from bit `low` up is below 2 ^ 16 where these are bits of a halfword
pub placed-small : (value low width : ℕ) → low + width ≤ 16 → value < 2 ^ width → value * 2 ^ low < 2 ^ 16
placed-small value low width within small =
    let sum : value * 2 ^ low + 0 < 2 ^ low * 2 ^ width = mul-add-lt _ _ _ _ small (pow_pos low) in
    let bound : 2 ^ (low + width) ≤ 2 ^ 16 = pow_mono within in
    let split : 2 ^ (low + width) ≡ 2 ^ low * 2 ^ width = pow-add 2 low width in
    grind arith
