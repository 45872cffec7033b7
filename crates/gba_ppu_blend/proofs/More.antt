-- Lines of numbers, eight places more at a time.
use Rattle.std.proofs.Common.{◌≡◌, ℕ, ◌+◌, ◌-◌, ◌*◌, ◌<◌, ◌≤◌, List, slice_index, subst, ◌∙◌, ⊎_elim, arith}
use Rattle.std.proofs.lemmas.Bool.{cases_lt}

pub eight_more : (colour : ℕ → ℕ) (old new : List ℕ) (n : ℕ) → ((x : ℕ) → x < 8 * n → slice_index old x ≡ colour x)
    → ((x : ℕ) → x < 8 * n → slice_index new x ≡ slice_index old x)
    → ((i : ℕ) → i < 8 → slice_index new (8 * n + i) ≡ colour (8 * n + i))
    → (x : ℕ) → x < 8 * (n + 1) → slice_index new x ≡ colour x
eight_more colour old new n was before here x h =
    ⊎_elim
    (λ (low : x < 8 * n). before x low ∙ was x low)
    (λ (high : 8 * n ≤ x).
    let e : 8 * n + (x - 8 * n) ≡ x = omega arith in
    let P : ℕ → Type 0 = λ k. slice_index new k ≡ colour k in
    subst P e (here (x - 8 * n) (omega arith)))
    (cases_lt x (8 * n))
