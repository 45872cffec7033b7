-- Halfwords of which a write stores some bits.
use Rattle.std.proofs.Common.{◌≡◌, ℕ, ◌==◌, ◌≢◌, ⊎_elim, Bool, true, false, refl, ap, subst, sym, ◌∙◌, arith, if◌then◌else◌}
use Rattle.std.specs.Prelude.{List, bit_and}
use Rattle.std.proofs.lemmas.Bool.Decides.{nat_tests}
use Rattle.std.proofs.lemmas.Nat.{and_assoc}
use lib.Bits.{and_self, and_zero_l}
use Rattle.std.proofs.lemmas.Bool.{cases_eq}
use Rattle.gba_register.specs.Rows.{Row, row_at}
use Rattle.gba_device_laws.specs.Holding.{HasStoredBits}

pub and-twice : (value mask : ℕ) → bit_and (bit_and value mask) mask ≡ bit_and value mask
and-twice value mask = and_assoc mask value mask ∙ ap (bit_and value) (and_self mask)

-- what stands after a write of a halfword
abbrev pub after_write : List Row → ℕ → ℕ → (ℕ → ℕ) → ℕ → ℕ
after_write rows offset value kept at = if at == offset then bit_and value (row_at rows offset).write_mask else kept at

pub stored-write : (rows : List Row) (kept after : ℕ → ℕ) (offset value : ℕ)
    → ((at : ℕ) → after at ≡ after_write rows offset value kept at) → HasStoredBits rows kept → HasStoredBits rows after
stored-write rows kept after offset value writes stored at =
    rw (writes at) (by_place (at == offset) refl)
  where
    by_place : (test : Bool) → at == offset ≡ test
        → bit_and (if test then bit_and value (row_at rows offset).write_mask else kept at) (row_at rows at).write_mask
        ≡ (if test then bit_and value (row_at rows offset).write_mask else kept at)
    by_place true here =
        let same : at ≡ offset = grind (arith, nat_tests, here) in
        subst (λ k. bit_and (bit_and value (row_at rows offset).write_mask) (row_at rows k).write_mask
        ≡ bit_and value (row_at rows offset).write_mask) (sym same) (and-twice value (row_at rows offset).write_mask)
    by_place false other = stored at

-- what is so at a place, and everywhere else
pub at-place : (P : ℕ → Type 0) (place at : ℕ) → P place → (at ≢ place → P at) → P at
at-place P place at here elsewhere =
    ⊎_elim (λ (same : at ≡ place). subst P (sym same) here) (λ (other : at ≢ place). elsewhere other)
    (cases_eq at place)

pub nothing-stored : (number mask : ℕ) → number ≡ 0 → bit_and number mask ≡ number
nothing-stored number mask none = rw none (and_zero_l mask)
