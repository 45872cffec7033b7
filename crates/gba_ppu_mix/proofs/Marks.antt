-- The colour of a painted stack by its marks.
use Rattle.std.proofs.Common.{◌≡◌, ℕ, ◌+◌, ◌*◌, Bool, true, false, refl}
use Rattle.std.specs.Prelude.{◌&&◌, ◌||◌, if◌then◌else◌}
use Rattle.gba_terms.specs.Bits.{bit}
use Rattle.gba_ppu_mix.specs.Painting.{one_if}

-- effects show, the top is a first target, it is a semi-transparent sprite, the second is a second target, and the
-- effect is alpha
pub by_tests : (shown first semi second alpha : Bool) (a b c : ℕ)
    → (if second
    then (if semi then a
    else (if alpha then
    (if shown then (if first then a else (if shown then (if first then b else c) else c))
    else (if shown then (if first then b else c) else c))
    else (if shown then (if first then b else c) else c)))
    else (if shown then (if first then b else c) else c))
    ≡ (if second && (semi || (shown && first && alpha)) then a else if shown && first then b else c)
by_tests true true true true true a b c = refl
by_tests true true true true false a b c = refl
by_tests true true true false true a b c = refl
by_tests true true true false false a b c = refl
by_tests true true false true true a b c = refl
by_tests true true false true false a b c = refl
by_tests true true false false true a b c = refl
by_tests true true false false false a b c = refl
by_tests true false true true true a b c = refl
by_tests true false true true false a b c = refl
by_tests true false true false true a b c = refl
by_tests true false true false false a b c = refl
by_tests true false false true true a b c = refl
by_tests true false false true false a b c = refl
by_tests true false false false true a b c = refl
by_tests true false false false false a b c = refl
by_tests false true true true true a b c = refl
by_tests false true true true false a b c = refl
by_tests false true true false true a b c = refl
by_tests false true true false false a b c = refl
by_tests false true false true true a b c = refl
by_tests false true false true false a b c = refl
by_tests false true false false true a b c = refl
by_tests false true false false false a b c = refl
by_tests false false true true true a b c = refl
by_tests false false true true false a b c = refl
by_tests false false true false true a b c = refl
by_tests false false true false false a b c = refl
by_tests false false false true true a b c = refl
by_tests false false false true false a b c = refl
by_tests false false false false true a b c = refl
by_tests false false false false false a b c = refl

-- the three marks of a layer
pub first_mark : (a b c : Bool) → bit (one_if a + 2 * one_if b + 4 * one_if c) 0 ≡ a
first_mark true true true = refl
first_mark true true false = refl
first_mark true false true = refl
first_mark true false false = refl
first_mark false true true = refl
first_mark false true false = refl
first_mark false false true = refl
first_mark false false false = refl

pub second_mark : (a b c : Bool) → bit (one_if a + 2 * one_if b + 4 * one_if c) 1 ≡ b
second_mark true true true = refl
second_mark true true false = refl
second_mark true false true = refl
second_mark true false false = refl
second_mark false true true = refl
second_mark false true false = refl
second_mark false false true = refl
second_mark false false false = refl

pub third_mark : (a b c : Bool) → bit (one_if a + 2 * one_if b + 4 * one_if c) 2 ≡ c
third_mark true true true = refl
third_mark true true false = refl
third_mark true false true = refl
third_mark true false false = refl
third_mark false true true = refl
third_mark false true false = refl
third_mark false false true = refl
third_mark false false false = refl
