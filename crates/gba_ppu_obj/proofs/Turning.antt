-- The place in the picture of an affine sprite, by words that wrap.
use Rattle.std.proofs.Common.{◌≡◌, ℕ, ◌+◌, ◌*◌, ◌/◌, ◌%◌, ◌^◌, arith}
use Rattle.std.proofs.lemmas.Nat.{mul-mod_second}

-- a sum of two products is the same whichever of its parts wrap
pub wrapped_sum : (across down a b : ℕ)
    → ((across * (a % 2 ^ 32)) % 2 ^ 32 + (down * (b % 2 ^ 32)) % 2 ^ 32) % 2 ^ 32 ≡ (across * a + down * b) % 2 ^ 32
wrapped_sum across down a b =
    rw (mul-mod_second across a (2 ^ 32), mul-mod_second down b (2 ^ 32))
    (omega arith)

-- half a side may be added before the 256ths are dropped
pub in_256ths : (sum half : ℕ) → (sum % 2 ^ 32 + 0x100 * half) % 2 ^ 32 / 0x100 ≡ (sum % 2 ^ 32 / 2 ^ 8 + half) % 2 ^ 24
in_256ths sum half = omega arith
