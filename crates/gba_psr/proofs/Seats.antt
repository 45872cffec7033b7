use Rattle.std.proofs.Common.{◌≡◌, ℕ, ◌+◌, ◌<◌, ◌≤◌, ◌⊎◌, List, get_or, ap, sym, ◌∙◌, ⊎_elim, arith}
use Rattle.std.proofs.lemmas.Bool.{cases_eq}
use Rattle.std.proofs.lemmas.Bool.Decides.{nat_tests}
use Rattle.std.proofs.lemmas.List.Edits.{Swapped}
use Rattle.gba_psr.specs.Arrangement.{crossing, seat}
use Rattle.gba_psr.specs.Modes.{place, saved_place, first_banked, bank_distance}

-- a seat is one of the 37
pub seat_within : (mode p : ℕ) → p < 37 → seat mode p < 37
unfolding seat
seat_within mode p within = grind (arith, nat_tests)

-- CPSR stands in its place
pub seat-status : (mode : ℕ) → seat mode 31 ≡ 31
unfolding seat
seat-status mode = grind (arith, nat_tests)

-- an exchange undoes itself
pub seat-seat : (mode p : ℕ) → seat mode (seat mode p) ≡ p
unfolding seat
seat-seat mode p = grind (arith, nat_tests)

-- a register of the present mode stands under its number
pub seat-place : (mode number : ℕ) → number < 16 → seat mode (place mode number) ≡ number
unfolding seat place
seat-place mode number within = grind (arith, nat_tests)

-- and the user's register of that number in the mode's place
pub seat_general : (mode number : ℕ) → number < 16 → seat mode number ≡ place mode number
unfolding seat place
seat_general mode number within = grind (arith, nat_tests)

-- the SPSRs stand in their places
pub seat-saved : (mode : ℕ) → seat mode (saved_place mode) ≡ saved_place mode
unfolding seat saved_place
seat-saved mode = grind (arith, nat_tests)

-- a mode's own registers stand behind the sixteen
pub banks_apart : (mode : ℕ) → (bank_distance mode ≡ 0) ⊎ (15 ≤ first_banked mode + bank_distance mode)
banks_apart mode = grind (arith, nat_tests)

-- one more place exchanged
pub crossed_more : (old now new : List ℕ) (first end distance : ℕ) → (distance ≡ 0) ⊎ (15 ≤ first + distance)
    → first ≤ end → end < 15 → end + distance < 37
    → ((p : ℕ) → p < 37 → get_or now p 0 ≡ get_or old (crossing first end distance p) 0)
    → Swapped (λ i. get_or now i 0) (λ i. get_or new i 0) end (end + distance) → (p : ℕ) → p < 37
    → get_or new p 0 ≡ get_or old (crossing first (end + 1) distance p) 0
crossed_more old now new first end distance apart from below fits before swapped p within =
    let read : ℕ → ℕ = λ q. get_or old q 0 in
    ⊎_elim
    (λ (here : p ≡ end).
    let same : crossing first end distance (end + distance) ≡ crossing first (end + 1) distance p =
    grind (arith, nat_tests) in
    ap (λ (q : ℕ). get_or new q 0) here ∙ swapped.0 ∙ before (end + distance) fits ∙ ap read same)
    (λ (not_here : p ≡ end → ⊥).
    ⊎_elim
    (λ (there : p ≡ end + distance).
    let same : crossing first end distance end ≡ crossing first (end + 1) distance p = grind (arith, nat_tests) in
    ap (λ (q : ℕ). get_or new q 0) there ∙ swapped.1 ∙ before end (omega arith) ∙ ap read same)
    (λ (not_there : p ≡ end + distance → ⊥).
    let same : crossing first end distance p ≡ crossing first (end + 1) distance p = grind (arith, nat_tests) in
    swapped.2 p not_here not_there ∙ before p within ∙ ap read same)
    (cases_eq p (end + distance)))
    (cases_eq p end)

pub place_within : (mode number : ℕ) → number < 16 → place mode number < 31
unfolding place
place_within mode number within = grind (arith, nat_tests)

pub saved_place_within : (mode : ℕ) → saved_place mode < 37
unfolding saved_place
saved_place_within mode = grind (arith, nat_tests)

pub saved_place_high : (mode : ℕ) → 31 ≤ saved_place mode
unfolding saved_place
saved_place_high mode = grind (arith, nat_tests)

-- two registers of one mode are two
pub place_apart : (mode a b : ℕ) → a < 16 → b < 16 → place mode a ≡ place mode b → a ≡ b
place_apart mode a b in_a in_b same = sym (seat-place mode a in_a) ∙ ap (seat mode) same ∙ seat-place mode b in_b

-- the modes that have registers of their own are those that have an SPSR
pub saved_banked : (mode : ℕ)
    → (bank_distance mode ≡ 0 → saved_place mode ≡ 31) × (saved_place mode ≡ 31 → bank_distance mode ≡ 0)
unfolding saved_place
saved_banked mode = (λ none. grind (arith, nat_tests), λ none. grind (arith, nat_tests))

-- where a mode has no register of its own
pub place_below : (mode number : ℕ) → number < first_banked mode → place mode number ≡ number
unfolding place
place_below mode number below = grind (arith, nat_tests)

pub place_counter : (mode : ℕ) → place mode 15 ≡ 15
unfolding place
place_counter mode = grind (arith, nat_tests)

pub place_unbanked : (mode number : ℕ) → bank_distance mode ≡ 0 → place mode number ≡ number
unfolding place
place_unbanked mode number none = grind (arith, nat_tests)
