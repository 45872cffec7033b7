use Rattle.std.proofs.Common.{ℕ, zero, suc, ◌+◌, ◌*◌, ◌/◌, ◌%◌, ◌^◌, ◌<◌, ◌≡◌, ◌∙◌, ap, sym, refl, Bool, true, ◌&&◌, List, [], ◌∷◌, arith, lit<, inl, inr, get_or}
use Rattle.std.proofs.lemmas.Bool.{cases_lt, eqb-true}
use Rattle.std.proofs.Math.Path.{ap₂}
use Rattle.std.specs.Prelude.{bit_and, nat_eq}
use Rattle.std.specs.List.{list_all}
use Rattle.std.proofs.lemmas.Nat.{and_block, and_mask, and_assoc}
use Rattle.std.proofs.lemmas.Nat.Bits.{and_high}
use Rattle.gba_terms.specs.Bits.{field}
use Rattle.gba_arm_table.specs.declared.format.Format.{Format}
use Rattle.gba_arm_table.specs.declared.format.Format.TheVariants as format
use Rattle.gba_arm_table.specs.Fields.{Bits}
use Rattle.gba_arm_table.specs.Table.{Row, rows, format_in}
use Rattle.gba_arm_table.specs.Branches.{branch_format}

-- The masks look at bits 27 to 20 and 7 to 4 alone. So a word has the row that these bits have with all others 0, and
-- for those the checker compares the rows with the decision by bits, 4,096 times.

-- a word of these bits alone
abbrev pub kept : ℕ → ℕ → ℕ
kept high low = high * 2 ^ 20 + low * 2 ^ 4

and_looked : (word : ℕ) → bit_and word 0x0FF000F0 ≡ kept (field word 20 8) (field word 4 4)
and_looked word =
    let parted : word ≡ word / 2 ^ 20 * 2 ^ 20 + word % 2 ^ 20 = omega arith in
    let upper : bit_and (word / 2 ^ 20) 255 ≡ word / 2 ^ 20 % 2 ^ 8 = and_mask (word / 2 ^ 20) 8 in
    let lower : bit_and (word % 2 ^ 20) 240 ≡ (word % 2 ^ 20 / 2 ^ 4 % 2 ^ 4) * 2 ^ 4 = and_high (word % 2 ^ 20) 4 4 in
    let same : word % 2 ^ 20 / 2 ^ 4 % 2 ^ 4 ≡ word / 2 ^ 4 % 2 ^ 4 = omega arith in
    ap (λ n. bit_and n 0x0FF000F0) parted
    ∙ and_block 20 (word / 2 ^ 20) 255 (word % 2 ^ 20) 240 (omega arith) (lit< tt)
    ∙ ap₂ (λ m n. m * 2 ^ 20 + n) upper (lower ∙ ap (λ n. n * 2 ^ 4) same)

-- whether a row looks at these bits alone
abbrev pub looks : Row → Bool
looks row = nat_eq (bit_and 0x0FF000F0 row.mask) row.mask

format_in-kept : (rows : List Row) → list_all looks rows ≡ true → (word : ℕ)
    → format_in rows word ≡ format_in rows (bit_and word 0x0FF000F0)
format_in-kept [] all word = refl
format_in-kept (row ∷ rest) all word =
    let here : looks row ≡ true = grind arith in
    let later : list_all looks rest ≡ true = grind arith in
    let mask : bit_and 0x0FF000F0 row.mask ≡ row.mask = eqb-true _ _ here in
    let read : bit_and (bit_and word 0x0FF000F0) row.mask ≡ bit_and word row.mask =
    and_assoc row.mask word 0x0FF000F0 ∙ ap (bit_and word) mask in
    rw (read, format_in-kept rest later word) refl

-- a number for each format, and back
format_at : ℕ → Format
format_at n =
    get_or (format.Exchange ∷ format.Multiply ∷ format.MultiplyLong ∷ format.Swap ∷ format.HalfTransfer
    ∷ format.SignedByteLoad
    ∷ format.SignedHalfLoad ∷ format.StatusRead ∷ format.StatusWriteRegister ∷ format.StatusWriteImmediate
    ∷ format.ProcessingByRegister
    ∷ format.ProcessingFixed ∷ format.ProcessingImmediate ∷ format.TransferNumber ∷ format.TransferShifted
    ∷ format.Block ∷ format.Branch ∷ format.Interrupt ∷ []) n format.Undefined

abbrev number : Format → ℕ
number format.Exchange = 0
number format.Multiply = 1
number format.MultiplyLong = 2
number format.Swap = 3
number format.HalfTransfer = 4
number format.SignedByteLoad = 5
number format.SignedHalfLoad = 6
number format.StatusRead = 7
number format.StatusWriteRegister = 8
number format.StatusWriteImmediate = 9
number format.ProcessingByRegister = 10
number format.ProcessingFixed = 11
number format.ProcessingImmediate = 12
number format.TransferNumber = 13
number format.TransferShifted = 14
number format.Block = 15
number format.Branch = 16
number format.Interrupt = 17
number format.Undefined = 18

-- a test of each number below a bound
unfoldable pub all_below : (ℕ → Bool) → ℕ → Bool
all_below test zero = true
all_below test (suc n) = test n && all_below test n

abbrev same_at : ℕ → ℕ → Bool
same_at high low = nat_eq (number (format_in rows (kept high low))) (number (branch_format (field (kept high low))))

all_same : all_below (λ high. all_below (same_at high) 16) 256 ≡ true
unfolding rows all_below
all_same = refl

format_at-number : (f : Format) → format_at (number f) ≡ f
unfolding format_at
format_at-number format.Exchange = refl
format_at-number format.Multiply = refl
format_at-number format.MultiplyLong = refl
format_at-number format.Swap = refl
format_at-number format.HalfTransfer = refl
format_at-number format.SignedByteLoad = refl
format_at-number format.SignedHalfLoad = refl
format_at-number format.StatusRead = refl
format_at-number format.StatusWriteRegister = refl
format_at-number format.StatusWriteImmediate = refl
format_at-number format.ProcessingByRegister = refl
format_at-number format.ProcessingFixed = refl
format_at-number format.ProcessingImmediate = refl
format_at-number format.TransferNumber = refl
format_at-number format.TransferShifted = refl
format_at-number format.Block = refl
format_at-number format.Branch = refl
format_at-number format.Interrupt = refl
format_at-number format.Undefined = refl

pub all_below-at : (test : ℕ → Bool) (n : ℕ) → all_below test n ≡ true → (k : ℕ) → k < n → test k ≡ true
unfolding all_below
all_below-at test zero all k small = absurd (omega arith)
all_below-at test (suc n) all k small =
    let here : test n ≡ true = grind arith in
    let later : all_below test n ≡ true = grind arith in
    elim (cases_lt k n) [ inl below ↦ all_below-at test n later k below | inr above ↦ ap test (omega arith) ∙ here ]

same_format : (high low : ℕ) → high < 256 → low < 16
    → format_in rows (kept high low) ≡ branch_format (field (kept high low))
same_format high low high_small low_small =
    let row : all_below (same_at high) 16 ≡ true = all_below-at _ 256 all_same high high_small in
    let cell : same_at high low ≡ true = all_below-at (same_at high) 16 row low low_small in
    let numbers : number (format_in rows (kept high low)) ≡ number (branch_format (field (kept high low))) =
    eqb-true _ _ cell in
    sym (format_at-number _) ∙ ap format_at numbers ∙ format_at-number _

-- the decision reads these twelve fields alone
branched_agrees : (f g : Bits) → f 25 3 ≡ g 25 3 → f 4 1 ≡ g 4 1 → f 7 1 ≡ g 7 1 → f 5 2 ≡ g 5 2 → f 23 2 ≡ g 23 2
    → f 22 1 ≡ g 22 1 → f 20 2 ≡ g 20 2 → f 20 1 ≡ g 20 1 → f 21 4 ≡ g 21 4 → f 21 1 ≡ g 21 1 → f 4 4 ≡ g 4 4
    → f 24 1 ≡ g 24 1 → branch_format f ≡ branch_format g
branched_agrees f g a b c d e h i j k l m n = rw (a, b, c, d, e, h, i, j, k, l, m, n) refl

branch_format-kept : (word : ℕ)
    → branch_format (field (kept (field word 20 8) (field word 4 4))) ≡ branch_format (field word)
branch_format-kept word =
    branched_agrees (field (kept (field word 20 8) (field word 4 4))) (field word) (omega arith) (omega arith)
    (omega arith) (omega arith) (omega arith) (omega arith)
    (omega arith) (omega arith) (omega arith) (omega arith) (omega arith) (omega arith)

-- a word has the row of its bits 27 to 20 and 7 to 4 alone
pub format_in-key : (word : ℕ) → format_in rows word ≡ format_in rows (kept (field word 20 8) (field word 4 4))
format_in-key word =
    let all : list_all looks rows ≡ true = unfold rows in refl in
    format_in-kept rows all word ∙ ap (format_in rows) (and_looked word)

-- the first row that fits is found by the decision by bits
pub format_in-rows : (word : ℕ) → format_in rows word ≡ branch_format (field word)
format_in-rows word =
    format_in-key word
    ∙ same_format (field word 20 8) (field word 4 4) (omega arith) (omega arith)
    ∙ branch_format-kept word
