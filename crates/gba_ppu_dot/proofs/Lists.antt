-- Lists of which one place, or eight, are written more.
use Rattle.std.proofs.Common.{◌≡◌, ℕ, ◌+◌, ◌-◌, ◌*◌, ◌<◌, ◌≤◌, List, length, slice_index, slice_set, subst, ◌∙◌, ⊎_elim, arith}
use Rattle.std.proofs.lemmas.Bool.{cases_lt}
use Rattle.std.proofs.lemmas.List.{get_or-set_other, get_or-set_same}

-- eight places more
pub eight_paints : (paint : ℕ → ℕ) (old new : List ℕ) (n : ℕ) → ((k : ℕ) → k < 8 * n → slice_index old k ≡ paint k)
    → ((k : ℕ) → k < 8 * n → slice_index new k ≡ slice_index old k)
    → ((i : ℕ) → i < 8 → slice_index new (8 * n + i) ≡ paint (8 * n + i))
    → (k : ℕ) → k < 8 * (n + 1) → slice_index new k ≡ paint k
eight_paints paint old new n was before here k h =
    ⊎_elim
    (λ (low : k < 8 * n). before k low ∙ was k low)
    (λ (high : 8 * n ≤ k).
    let e : 8 * n + (k - 8 * n) ≡ k = omega arith in
    let P : ℕ → Type 0 = λ j. slice_index new j ≡ paint j in
    subst P e (here (k - 8 * n) (omega arith)))
    (cases_lt k (8 * n))

-- one place more
pub place_more : (paint : ℕ → ℕ) (paints : List ℕ) (at column new : ℕ) → at + column < length paints
    → ((i : ℕ) → i < column → slice_index paints (at + i) ≡ paint i) → new ≡ paint column
    → (i : ℕ) → i < column + 1 → slice_index (slice_set paints (at + column) new) (at + i) ≡ paint i
place_more paint paints at column new room was is i h =
    ⊎_elim
    (λ (low : i < column). get_or-set_other paints (at + column) (at + i) new 0 (λ f. omega (arith, low, f))
    ∙ was i low)
    (λ (high : column ≤ i).
    let e : column ≡ i = omega arith in
    let P : ℕ → Type 0 = λ j. slice_index (slice_set paints (at + column) new) (at + j) ≡ paint j in
    subst P e (get_or-set_same paints (at + column) new 0 room ∙ is))
    (cases_lt i column)

pub place_kept : (paints old : List ℕ) (at column new : ℕ)
    → ((k : ℕ) → k < at → slice_index paints k ≡ slice_index old k)
    → (k : ℕ) → k < at → slice_index (slice_set paints (at + column) new) k ≡ slice_index old k
place_kept paints old at column new was k h =
    get_or-set_other paints (at + column) k new 0 (λ f. omega (arith, h, f)) ∙ was k h
