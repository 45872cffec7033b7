-- Lists of bytes.
use Rattle.std.proofs.Common.{◌≡◌, ◌≢◌, ℕ, ◌^◌, ◌<◌, ◌≤◌, List, length, get_or, set, replicate, ap, ◌∙◌, ⊎_elim, arith}
use Rattle.std.proofs.lemmas.Bool.{cases_eq, cases_lt}
use Rattle.std.proofs.lemmas.List.{length-replicate, length-set, get_or-replicate, get_or-set_same, get_or-set_other, get_or_past}
use Rattle.gba_terms.specs.Bytes.{AreBytes}
use Rattle.gba_device_laws.specs.Holding.{HasBytes}

pub byte-at : (bytes : List ℕ) (place : ℕ) → AreBytes bytes → get_or bytes place 0 < 2 ^ 8
byte-at bytes place all =
    ⊎_elim (λ (within : place < length bytes). all place within)
    (λ (past : length bytes ≤ place). let none = get_or_past bytes place 0 past in omega (arith, none))
    (cases_lt place (length bytes))

pub bytes-set : (bytes : List ℕ) (place value : ℕ) → AreBytes bytes → value < 2 ^ 8 → AreBytes (set bytes place value)
bytes-set bytes place value all small at within =
    ⊎_elim
    (λ (same : at ≡ place).
    let inside : place < length bytes = omega (arith, same, within, length-set bytes place value) in
    let there : get_or (set bytes place value) at 0 ≡ value =
    ap (λ k. get_or (set bytes place value) k 0) same ∙ get_or-set_same bytes place value 0 inside in
    omega (arith, there, small))
    (λ (other : at ≢ place).
    let there = get_or-set_other bytes place at value 0 other in
    let old = all at (omega (arith, within, length-set bytes place value)) in
    omega (arith, there, old))
    (cases_eq at place)

pub has-set : (count : ℕ) (bytes : List ℕ) (place value : ℕ) → HasBytes count bytes → value < 2 ^ 8
    → HasBytes count (set bytes place value)
has-set count bytes place value has small =
    record { long = length-set bytes place value ∙ has.long; bytes = bytes-set bytes place value has.bytes small }

pub bytes-replicate : (count value : ℕ) → value < 2 ^ 8 → AreBytes (replicate count value)
bytes-replicate count value small at within =
    let inside : at < count = omega (arith, within, length-replicate {A = ℕ} count value) in
    let there = get_or-replicate {A = ℕ} count at value 0 inside in
    omega (arith, there, small)

pub has-replicate : (count value : ℕ) → value < 2 ^ 8 → HasBytes count (replicate count value)
has-replicate count value small =
    record { long = length-replicate {A = ℕ} count value; bytes = bytes-replicate count value small }
