use Rattle.std.proofs.Common.{◌≡◌, ℕ, suc, zero, ◌+◌, ◌-◌, ◌/◌, ◌%◌, ◌^◌, ◌<◌, true, false, [], ◌∷◌, length, refl, ap, sym, ◌∙◌, ⊎_elim, arith}
use Rattle.std.proofs.Math.Nat.{pow-suc}
use Rattle.std.proofs.lemmas.Bool.{cases_eq}
use Rattle.std.proofs.lemmas.Bool.Decides.{nat_tests}
use Rattle.std.proofs.lemmas.List.{nil_from_length}
use Rattle.std.proofs.lemmas.Nat.{pow_pos, shr-shr}
use lib.Count.{ones, ones_step}
use Rattle.gba_terms.specs.Bits.{bit}
use Rattle.gba_exec_transfers.specs.Blocks.{registers_in}

registers_in-suc_in : (list first count : ℕ) → bit list first ≡ true
    → registers_in list first (suc count) ≡ first ∷ registers_in list (first + 1) count
unfolding registers_in
registers_in-suc_in list first count is = rw is refl

registers_in-suc_out : (list first count : ℕ) → bit list first ≡ false
    → registers_in list first (suc count) ≡ registers_in list (first + 1) count
unfolding registers_in
registers_in-suc_out list first count is = rw is refl

ones-zero : ones 0 ≡ 0
unfolding ones
ones-zero = refl

registers_in-none : (list first : ℕ) → registers_in list first 0 ≡ []
unfolding registers_in
registers_in-none list first = refl

half_below : (n count : ℕ) → n < 2 ^ suc count → n / 2 < 2 ^ count
half_below n count small = omega (arith, pow-suc 2 count)

set_bit : (list first : ℕ) → list / 2 ^ first % 2 ≡ 1 → bit list first ≡ true
set_bit list first odd = grind (arith, nat_tests)

clear_bit : (list first : ℕ) → list / 2 ^ first % 2 ≡ 0 → bit list first ≡ false
clear_bit list first even = grind (arith, nat_tests)

clear_rest : (n : ℕ) → (n % 2 ≡ 1 → ⊥) → n % 2 ≡ 0
clear_rest n even = omega arith

one_more : (n : ℕ) → 1 + n ≡ suc n
one_more n = omega arith

none_more : (n : ℕ) → 0 + n ≡ n
none_more n = omega arith

-- as many registers are listed as the number has ones
pub length-registers_in : (list first count : ℕ) → list / 2 ^ first < 2 ^ count
    → length (registers_in list first count) ≡ ones (list / 2 ^ first)
length-registers_in list first zero small =
    let none : list / 2 ^ first ≡ 0 = omega arith in
    ap length (registers_in-none list first) ∙ sym (ap ones none ∙ ones-zero)
length-registers_in list first (suc count) small =
    let halved : list / 2 ^ (first + 1) ≡ list / 2 ^ first / 2 = sym (shr-shr list first 1) in
    let rest : list / 2 ^ (first + 1) < 2 ^ count = rw halved (half_below (list / 2 ^ first) count small) in
    let later = length-registers_in list (first + 1) count rest in
    ⊎_elim
    (λ (odd : list / 2 ^ first % 2 ≡ 1).
    ap length (registers_in-suc_in list first count (set_bit list first odd))
    ∙ ap suc (later ∙ ap ones halved)
    ∙ sym (ones_step (list / 2 ^ first) ∙ rw odd (one_more (ones (list / 2 ^ first / 2)))))
    (λ (even : list / 2 ^ first % 2 ≡ 1 → ⊥).
    let none : list / 2 ^ first % 2 ≡ 0 = clear_rest (list / 2 ^ first) even in
    ap length (registers_in-suc_out list first count (clear_bit list first none))
    ∙ later ∙ ap ones halved
    ∙ sym (ones_step (list / 2 ^ first) ∙ rw none (none_more (ones (list / 2 ^ first / 2)))))
    (cases_eq (list / 2 ^ first % 2) 1)

-- no register from `first` on is in the list
pub registers_in_over : (list first count : ℕ) → list / 2 ^ first ≡ 0 → registers_in list first count ≡ []
registers_in_over list first count over =
    let small : list / 2 ^ first < 2 ^ count = rw over (pow_pos count) in
    nil_from_length (registers_in list first count)
    (length-registers_in list first count small ∙ ap ones over ∙ ones-zero)
