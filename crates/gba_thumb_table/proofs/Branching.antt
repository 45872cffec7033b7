use Rattle.std.proofs.Common.{ℕ, zero, suc, ◌*◌, ◌^◌, ◌<◌, ◌≡◌, ◌∙◌, ap, sym, refl, Bool, true, ◌&&◌, List, [], ◌∷◌, arith, inl, inr, get_or}
use Rattle.std.proofs.lemmas.Bool.{cases_lt, eqb-true}
use Rattle.std.specs.Prelude.{bit_and, nat_eq}
use Rattle.std.specs.List.{list_all}
use Rattle.std.proofs.lemmas.Nat.{and_assoc}
use Rattle.std.proofs.lemmas.Nat.Bits.{and_high}
use Rattle.gba_terms.specs.Bits.{field}
use Rattle.gba_arm_table.specs.Fields.{Bits}
use Rattle.gba_thumb_table.specs.declared.format.Format.{Format}
use Rattle.gba_thumb_table.specs.declared.format.Format.TheVariants as format
use Rattle.gba_thumb_table.specs.Table.{Row, rows, format_in}
use Rattle.gba_thumb_table.specs.Branches.{branch_format}

-- The masks look at bits 15 to 8 alone. So a halfword has the row that these bits have with all others 0, and for those
-- the checker compares the rows with the decision by bits, 256 times.

-- a halfword of these bits alone
abbrev pub kept : ℕ → ℕ
kept high = high * 2 ^ 8

-- whether a row looks at these bits alone
abbrev looks : Row → Bool
looks row = nat_eq (bit_and 0xFF00 row.mask) row.mask

format_in-kept : (rows : List Row) → list_all looks rows ≡ true → (half : ℕ)
    → format_in rows half ≡ format_in rows (bit_and half 0xFF00)
format_in-kept [] all half = refl
format_in-kept (row ∷ rest) all half =
    let here : looks row ≡ true = grind arith in
    let later : list_all looks rest ≡ true = grind arith in
    let mask : bit_and 0xFF00 row.mask ≡ row.mask = eqb-true _ _ here in
    let read : bit_and (bit_and half 0xFF00) row.mask ≡ bit_and half row.mask =
    and_assoc row.mask half 0xFF00 ∙ ap (bit_and half) mask in
    rw (read, format_in-kept rest later half) refl

-- a halfword has the row of its bits 15 to 8 alone
pub format_in-key : (half : ℕ) → format_in rows half ≡ format_in rows (kept (field half 8 8))
format_in-key half =
    let all : list_all looks rows ≡ true = unfold rows in refl in
    format_in-kept rows all half ∙ ap (format_in rows) (and_high half 8 8)

-- a number for each format, and back
unfoldable pub format_at : ℕ → Format
format_at n =
    get_or (format.Format1 ∷ format.Format2 ∷ format.Format3 ∷ format.Format4 ∷ format.Format5 ∷ format.Format6
    ∷ format.Format7
    ∷ format.Format8 ∷ format.Format9 ∷ format.Format10 ∷ format.Format11 ∷ format.Format12 ∷ format.Format13
    ∷ format.Format14
    ∷ format.Format15 ∷ format.Format16 ∷ format.Format17 ∷ format.Format18 ∷ format.Format19 ∷ []) n format.Undefined

abbrev pub number : Format → ℕ
number format.Format1 = 0
number format.Format2 = 1
number format.Format3 = 2
number format.Format4 = 3
number format.Format5 = 4
number format.Format6 = 5
number format.Format7 = 6
number format.Format8 = 7
number format.Format9 = 8
number format.Format10 = 9
number format.Format11 = 10
number format.Format12 = 11
number format.Format13 = 12
number format.Format14 = 13
number format.Format15 = 14
number format.Format16 = 15
number format.Format17 = 16
number format.Format18 = 17
number format.Format19 = 18
number format.Undefined = 19

pub format_at-number : (f : Format) → format_at (number f) ≡ f
unfolding format_at
format_at-number format.Format1 = refl
format_at-number format.Format2 = refl
format_at-number format.Format3 = refl
format_at-number format.Format4 = refl
format_at-number format.Format5 = refl
format_at-number format.Format6 = refl
format_at-number format.Format7 = refl
format_at-number format.Format8 = refl
format_at-number format.Format9 = refl
format_at-number format.Format10 = refl
format_at-number format.Format11 = refl
format_at-number format.Format12 = refl
format_at-number format.Format13 = refl
format_at-number format.Format14 = refl
format_at-number format.Format15 = refl
format_at-number format.Format16 = refl
format_at-number format.Format17 = refl
format_at-number format.Format18 = refl
format_at-number format.Format19 = refl
format_at-number format.Undefined = refl

-- a test of each number below a bound
unfoldable pub all_below : (ℕ → Bool) → ℕ → Bool
all_below test zero = true
all_below test (suc n) = test n && all_below test n

pub all_below-at : (test : ℕ → Bool) (n : ℕ) → all_below test n ≡ true → (k : ℕ) → k < n → test k ≡ true
unfolding all_below
all_below-at test zero all k small = absurd (omega arith)
all_below-at test (suc n) all k small =
    let here : test n ≡ true = grind arith in
    let later : all_below test n ≡ true = grind arith in
    elim (cases_lt k n) [ inl below ↦ all_below-at test n later k below | inr above ↦ ap test (omega arith) ∙ here ]

abbrev same_at : ℕ → Bool
same_at high = nat_eq (number (format_in rows (kept high))) (number (branch_format (field (kept high))))

all_same : all_below same_at 256 ≡ true
unfolding rows all_below
all_same = refl

same_format : (high : ℕ) → high < 256 → format_in rows (kept high) ≡ branch_format (field (kept high))
same_format high small =
    let numbers : number (format_in rows (kept high)) ≡ number (branch_format (field (kept high))) =
    eqb-true _ _ (all_below-at same_at 256 all_same high small) in
    sym (format_at-number _) ∙ ap format_at numbers ∙ format_at-number _

-- the decision reads these six fields alone
branched_agrees : (f g : Bits) → f 12 4 ≡ g 12 4 → f 11 1 ≡ g 11 1 → f 10 1 ≡ g 10 1 → f 9 1 ≡ g 9 1 → f 9 2 ≡ g 9 2
    → f 8 4 ≡ g 8 4 → branch_format f ≡ branch_format g
branched_agrees f g a b c d e h = rw (a, b, c, d, e, h) refl

branch_format-kept : (half : ℕ) → branch_format (field (kept (field half 8 8))) ≡ branch_format (field half)
branch_format-kept half =
    branched_agrees (field (kept (field half 8 8))) (field half)
    (omega arith) (omega arith) (omega arith) (omega arith) (omega arith)
    (omega arith)

-- the first row that fits is found by the decision by bits
pub format_in-rows : (half : ℕ) → format_in rows half ≡ branch_format (field half)
format_in-rows half = format_in-key half ∙ same_format (field half 8 8) (omega arith) ∙ branch_format-kept half
