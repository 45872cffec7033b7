use Rattle.std.proofs.Common.{◌≡◌, ◌≢◌, ℕ, ◌<◌, List, length, get_or, set, ap, sym, ◌∙◌, ⊎_elim, arith}
use Rattle.std.proofs.lemmas.Bool.{cases_eq}
use Rattle.std.proofs.lemmas.List.{ext_get_or, length-set, get_or-set_same, get_or-set_other}
use Rattle.std.proofs.lemmas.List.FromFn.{length-map-range_with_len, get_or-map-range_with_len}
use Rattle.gba_psr.specs.Arrangement.{seat, arrangement}
use Rattle.gba_psr.specs.Status.{mode_of}
use Rattle.gba_psr.proofs.Seats.{seat_within, seat-seat, seat-status}

-- the mode of the numbers as they are kept
abbrev kept_mode : List ℕ → ℕ
kept_mode numbers = mode_of (get_or numbers 31 0)

pub length-arrangement : (numbers : List ℕ) → length (arrangement numbers) ≡ 37
unfolding arrangement
length-arrangement numbers = length-map-range_with_len (λ p. get_or numbers (seat (kept_mode numbers) p) 0) 0 37

-- a number of the register file stands at its seat
pub get_or-arrangement : (numbers : List ℕ) (place : ℕ) → place < 37
    → get_or (arrangement numbers) place 0 ≡ get_or numbers (seat (kept_mode numbers) place) 0
unfolding arrangement
get_or-arrangement numbers place within =
    get_or-map-range_with_len (λ p. get_or numbers (seat (kept_mode numbers) p) 0) 0 37 place place 0 within
    (omega arith)

pub status-arrangement : (numbers : List ℕ) → get_or (arrangement numbers) 31 0 ≡ get_or numbers 31 0
status-arrangement numbers =
    get_or-arrangement numbers 31 (omega arith) ∙ ap (λ (p : ℕ). get_or numbers p 0) (seat-status (kept_mode numbers))

-- The register file that has the number at each seat.
pub arranged_is : (numbers file : List ℕ) → length file ≡ 37
    → ((place : ℕ) → place < 37 → get_or file place 0 ≡ get_or numbers (seat (kept_mode numbers) place) 0)
    → arrangement numbers ≡ file
arranged_is numbers file count same =
    let counted : length (arrangement numbers) ≡ 37 = length-arrangement numbers in
    ext_get_or 0 (arrangement numbers) file (counted ∙ sym count)
    (λ place below. let within : place < 37 = omega arith in
    get_or-arrangement numbers place within ∙ sym (same place within))

-- A number written at a seat is written to its place.
pub arrangement-set : (numbers : List ℕ) (kept place value : ℕ) → length numbers ≡ 37 → place < 37 → kept ≢ 31
    → seat (kept_mode numbers) place ≡ kept
    → arrangement (set numbers kept value) ≡ set (arrangement numbers) place value
arrangement-set numbers kept place value count within apart here =
    let mode = kept_mode numbers in
    let status : get_or (set numbers kept value) 31 0 ≡ get_or numbers 31 0 =
    get_or-set_other numbers kept 31 value 0 (λ e. apart (sym e)) in
    let same_mode : kept_mode (set numbers kept value) ≡ mode = ap mode_of status in
    let some : kept < 37 = rw (← here) (seat_within mode place within) in
    let in_numbers : kept < length numbers = omega arith in
    let in_file : place < length (arrangement numbers) = rw (length-arrangement numbers) within in
    arranged_is (set numbers kept value) (set (arrangement numbers) place value)
    (length-set (arrangement numbers) place value ∙ length-arrangement numbers) (λ q below.
    rw same_mode
    (⊎_elim
    (λ (e : q ≡ place).
    rw e (get_or-set_same (arrangement numbers) place value 0 in_file
    ∙ sym (rw here (get_or-set_same numbers kept value 0 in_numbers))))
    (λ (ne : q ≡ place → ⊥).
    let elsewhere : seat mode q ≢ kept =
    λ clash. ne (sym (seat-seat mode q) ∙ ap (seat mode) (clash ∙ sym here) ∙ seat-seat mode place) in
    get_or-set_other (arrangement numbers) place q value 0 ne
    ∙ get_or-arrangement numbers q below
    ∙ sym (get_or-set_other numbers kept (seat mode q) value 0 elsewhere))
    (cases_eq q place)))

-- The numbers of a file are kept once the mode's own have been exchanged with the user's.
pub status-exchanged : (file kept : List ℕ)
    → ((place : ℕ) → place < 37 → get_or kept place 0 ≡ get_or file (seat (kept_mode file) place) 0)
    → get_or kept 31 0 ≡ get_or file 31 0
status-exchanged file kept exchanged =
    exchanged 31 (omega arith) ∙ ap (λ (p : ℕ). get_or file p 0) (seat-status (kept_mode file))

pub arrangement-exchanged : (file kept : List ℕ) → length file ≡ 37
    → ((place : ℕ) → place < 37 → get_or kept place 0 ≡ get_or file (seat (kept_mode file) place) 0)
    → arrangement kept ≡ file
arrangement-exchanged file kept count exchanged =
    let mode = kept_mode file in
    let same : kept_mode kept ≡ mode = ap mode_of (status-exchanged file kept exchanged) in
    arranged_is kept file count
    (λ place within.
    rw same
    (sym (exchanged (seat mode place) (seat_within mode place within)
    ∙ ap (λ (p : ℕ). get_or file p 0) (seat-seat mode place))))
