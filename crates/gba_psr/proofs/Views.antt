use Rattle.std.proofs.Common.{◌≡◌, ◌≢◌, ℕ, ◌<◌, true, false, eqb, List, length, get_or, set, refl, ap, sym, ◌∙◌, ⊎_elim, arith}
use Rattle.std.proofs.lemmas.Bool.{cases_eq}
use Rattle.std.proofs.lemmas.Bool.Decides.{nat_tests}
use Rattle.std.proofs.lemmas.List.{length-set, get_or-set_same, get_or-set_other}
use Rattle.gba_psr.specs.Arrangement.{seat, arrangement}
use Rattle.gba_psr.specs.Modes.{place, saved_place}
use Rattle.gba_psr.specs.RegisterFile.{status, flags, with_flags, mode, register, with_register, user_register, with_user_register, with_status, saved_status, with_saved_status}
use Rattle.gba_psr.specs.Status.{mode_of, kept_status, written_status, flags_of, status_with_flags}
use Rattle.gba_psr.specs.declared.condition.Flags.{Flags}
use Rattle.gba_psr.proofs.Kept.{length-arrangement, status-arrangement, get_or-arrangement, arranged_is, arrangement-set}
use Rattle.gba_psr.proofs.Seats.{seat_within, seat-seat, seat-status, seat-place, seat_general, seat-saved, place_within, saved_place_within}

-- What the register file says, by the numbers as they are kept.

pub status_kept : (numbers : List ℕ) → status (arrangement numbers) ≡ get_or numbers 31 0
unfolding status
status_kept numbers = status-arrangement numbers

pub mode_kept : (numbers : List ℕ) → mode (arrangement numbers) ≡ mode_of (get_or numbers 31 0)
unfolding mode status
mode_kept numbers = ap mode_of (status-arrangement numbers)

pub register_kept : (numbers : List ℕ) (number : ℕ) → number < 16
    → register (arrangement numbers) number ≡ get_or numbers number 0
unfolding register
register_kept numbers number within =
    let mode_is = mode_of (get_or numbers 31 0) in
    let fits : place mode_is number < 37 = omega (arith, place_within mode_is number within) in
    ap (λ (m : ℕ). get_or (arrangement numbers) (place m number) 0) (mode_kept numbers)
    ∙ get_or-arrangement numbers (place mode_is number) fits
    ∙ ap (λ (p : ℕ). get_or numbers p 0) (seat-place mode_is number within)

pub with_register_kept : (numbers : List ℕ) (number value : ℕ) → length numbers ≡ 37 → number < 16
    → arrangement (set numbers number value) ≡ with_register (arrangement numbers) number value
unfolding with_register
with_register_kept numbers number value count within =
    let mode_is = mode_of (get_or numbers 31 0) in
    let fits : place mode_is number < 37 = omega (arith, place_within mode_is number within) in
    arrangement-set numbers number (place mode_is number) value count fits (omega arith)
    (seat-place mode_is number within)
    ∙ sym (ap (λ (m : ℕ). set (arrangement numbers) (place m number) value) (mode_kept numbers))

pub user_register_kept : (numbers : List ℕ) (number : ℕ) → number < 16
    → user_register (arrangement numbers) number ≡ get_or numbers (place (mode_of (get_or numbers 31 0)) number) 0
unfolding user_register
user_register_kept numbers number within =
    let mode_is = mode_of (get_or numbers 31 0) in
    get_or-arrangement numbers number (omega arith)
    ∙ ap (λ (p : ℕ). get_or numbers p 0) (seat_general mode_is number within)

pub with_user_register_kept : (numbers : List ℕ) (number value : ℕ) → length numbers ≡ 37 → number < 16
    → arrangement (set numbers (place (mode_of (get_or numbers 31 0)) number) value)
    ≡ with_user_register (arrangement numbers) number value
unfolding with_user_register
with_user_register_kept numbers number value count within =
    let mode_is = mode_of (get_or numbers 31 0) in
    arrangement-set numbers (place mode_is number) number value count (omega arith)
    (omega (arith, place_within mode_is number within)) (seat_general mode_is number within)

pub saved_status_kept : (numbers : List ℕ)
    → saved_status (arrangement numbers) ≡ get_or numbers (saved_place (mode_of (get_or numbers 31 0))) 0
unfolding saved_status
saved_status_kept numbers =
    let mode_is = mode_of (get_or numbers 31 0) in
    ap (λ (m : ℕ). get_or (arrangement numbers) (saved_place m) 0) (mode_kept numbers)
    ∙ get_or-arrangement numbers (saved_place mode_is) (saved_place_within mode_is)
    ∙ ap (λ (p : ℕ). get_or numbers p 0) (seat-saved mode_is)

-- a number written to the mode's own SPSR
pub saved_set_kept : (numbers : List ℕ) (value : ℕ) → length numbers ≡ 37
    → saved_place (mode_of (get_or numbers 31 0)) ≢ 31
    → arrangement (set numbers (saved_place (mode_of (get_or numbers 31 0))) value)
    ≡ set (arrangement numbers) (saved_place (mode (arrangement numbers))) value
saved_set_kept numbers value count own =
    let mode_is = mode_of (get_or numbers 31 0) in
    arrangement-set numbers (saved_place mode_is) (saved_place mode_is) value count (saved_place_within mode_is) own
    (seat-saved mode_is)
    ∙ sym (ap (λ (m : ℕ). set (arrangement numbers) (saved_place m) value) (mode_kept numbers))

pub with_saved_status_kept : (numbers : List ℕ) (value place : ℕ) → length numbers ≡ 37
    → place ≡ saved_place (mode_of (get_or numbers 31 0)) → place ≢ 31
    → arrangement (set numbers place (kept_status value)) ≡ with_saved_status (arrangement numbers) value
unfolding with_saved_status
with_saved_status_kept numbers value place count here own =
    let there : saved_place (mode (arrangement numbers)) ≡ place = ap saved_place (mode_kept numbers) ∙ sym here in
    let some : eqb (saved_place (mode (arrangement numbers))) 31 ≡ false = grind (arith, nat_tests) in
    rw (some, here) (saved_set_kept numbers (kept_status value) count (λ none. own (here ∙ none)))

-- the modes without an SPSR
pub unsaved_kept : (file : List ℕ) (value : ℕ) → saved_place (mode file) ≡ 31 → with_saved_status file value ≡ file
unfolding with_saved_status
unsaved_kept file value none =
    let unsaved : eqb (saved_place (mode file)) 31 ≡ true = grind (arith, nat_tests) in
    rw unsaved refl

-- CPSR written, the banks of the old mode put back and those of the new one taken out
pub status_set_kept : (old now : List ℕ) (written : ℕ) → length old ≡ 37 → length now ≡ 37
    → ((p : ℕ) → p < 37 → get_or now p 0 ≡ get_or old (seat (mode_of (get_or old 31 0)) (seat (mode_of written) p)) 0)
    → arrangement (set now 31 written) ≡ set (arrangement old) 31 written
status_set_kept old now written count count_now moved =
    let before = mode_of (get_or old 31 0) in
    let after = mode_of written in
    let in_now : 31 < length now = omega arith in
    let in_file : 31 < length (arrangement old) = rw (length-arrangement old) (omega arith) in
    let stored : get_or (set now 31 written) 31 0 ≡ written = get_or-set_same now 31 written 0 in_now in
    arranged_is (set now 31 written) (set (arrangement old) 31 written)
    (length-set (arrangement old) 31 written ∙ length-arrangement old) (λ p within.
    rw stored
    (⊎_elim
    (λ (e : p ≡ 31). rw (e, seat-status after) (get_or-set_same (arrangement old) 31 written 0 in_file ∙ sym stored))
    (λ (ne : p ≡ 31 → ⊥).
    let elsewhere : seat after p ≢ 31 =
    λ clash. ne (sym (seat-seat after p) ∙ ap (seat after) clash ∙ seat-status after) in
    get_or-set_other (arrangement old) 31 p written 0 ne
    ∙ get_or-arrangement old p within
    ∙ ap (λ (q : ℕ). get_or old (seat before q) 0) (sym (seat-seat after p))
    ∙ sym (moved (seat after p) (seat_within after p within))
    ∙ sym (get_or-set_other now 31 (seat after p) written 0 elsewhere))
    (cases_eq p 31)))

pub with_status_kept : (old now : List ℕ) (value : ℕ) → length old ≡ 37 → length now ≡ 37
    → ((p : ℕ) → p < 37
    → get_or now p 0
    ≡ get_or old (seat (mode_of (get_or old 31 0)) (seat (mode_of (written_status (get_or old 31 0) value)) p)) 0)
    → arrangement (set now 31 (written_status (get_or old 31 0) value)) ≡ with_status (arrangement old) value
unfolding with_status
with_status_kept old now value count count_now moved =
    rw (status_kept old) (status_set_kept old now (written_status (get_or old 31 0) value) count count_now moved)

pub with_flags_kept : (numbers : List ℕ) (new : Flags) → length numbers ≡ 37
    → mode_of (status_with_flags (get_or numbers 31 0) new) ≡ mode_of (get_or numbers 31 0)
    → arrangement (set numbers 31 (status_with_flags (get_or numbers 31 0) new)) ≡ with_flags (arrangement numbers) new
unfolding with_flags
with_flags_kept numbers new count same =
    rw (status_kept numbers)
    (status_set_kept numbers numbers (status_with_flags (get_or numbers 31 0) new) count count
    (λ p within. rw same (ap (λ (q : ℕ). get_or numbers q 0) (sym (seat-seat (mode_of (get_or numbers 31 0)) p)))))

pub flags_kept : (numbers : List ℕ) → flags (arrangement numbers) ≡ flags_of (get_or numbers 31 0)
unfolding flags
flags_kept numbers = ap flags_of (status_kept numbers)
