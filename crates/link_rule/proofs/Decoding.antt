-- A clock word read back, and the whole count from its 24 bits.
use Rattle.std.proofs.Common.{ℕ, ◌≡◌, ◌+◌, ◌-◌, ◌/◌, ◌%◌, ◌<◌, ◌≤◌, ◌^◌, arith, div-add-mod', mod-lt}
use Rattle.link_rule.specs.Words.{clock_word}

pub clock_part : (clock count : ℕ) → clock < 2 ^ 40 → clock_word clock count % 2 ^ 40 ≡ clock
clock_part clock count small =
    let w : ℕ = clock_word clock count in
    let r : w % 2 ^ 40 < 2 ^ 40 = mod-lt w (omega arith) in
    omega (arith, div-add-mod' w (2 ^ 40))

pub count_part : (clock count : ℕ) → clock < 2 ^ 40 → clock_word clock count / 2 ^ 40 ≡ count % 2 ^ 24
count_part clock count small =
    let w : ℕ = clock_word clock count in
    let r : w % 2 ^ 40 < 2 ^ 40 = mod-lt w (omega arith) in
    omega (arith, div-add-mod' w (2 ^ 40))

pub whole_count : (taken count : ℕ) → taken ≤ count → count < taken + 4096
    → taken + (count % 2 ^ 24 + 2 ^ 24 - taken % 2 ^ 24) % 2 ^ 24 ≡ count
whole_count taken count got near = omega arith
