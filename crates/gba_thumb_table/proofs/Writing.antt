use Rattle.std.proofs.Common.{ℕ, ◌/◌, ◌%◌, ◌^◌, ◌<◌, ◌≡◌, ◌∙◌, ap, arith}
use Rattle.std.proofs.lemmas.Bool.Decides.{nat_tests}
use Rattle.std.specs.Prelude.{Option, Some, None, Ok, IfSome, ◌==◌}
use Rattle.gba_terms.specs.Bits.{field}
use Rattle.gba_word.specs.Sums.{flag_number}
use Rattle.gba_arm_table.specs.Diagrams.{pack}
use Rattle.gba_thumb_table.specs.declared.format.Format.{Format}
use Rattle.gba_thumb_table.specs.declared.format.Format.TheVariants as format
use Rattle.gba_thumb_table.specs.declared.operation.ThumbOp.{ThumbOp}
use Rattle.gba_thumb_table.specs.Fields.{format1, format2, format3, format4, format5, format6, format7, format8, format9, format10, format11, format12, format13, format14, format15, format16, format17, format18, format19}
use Rattle.gba_thumb_table.specs.Table.{rows, format_in, operation, operation_of}
use Rattle.gba_thumb_table.specs.Diagrams.{diagram}
use Rattle.gba_thumb_table.specs.Encoding.{encoding}
use Rattle.gba_thumb_table.specs.Limits.{Fits}
use Rattle.gba_thumb_table.proofs.Settling.{Settled, settled-rows}
use Rattle.gba_thumb_table.proofs.Reading.{operation-Fits}
use Rattle.gba_thumb_table.proofs.RoundTrip.{encoding-Fits}

-- A halfword is its operation's own encoding: every bit of it is fixed by its format or belongs to a field.

flag-there : (n : ℕ) → n < 2 → flag_number (n == 1) ≡ n
flag-there n small = grind (arith, nat_tests)

format1-there : (half : ℕ) → half < 2 ^ 16 → Settled format.Format1 half → pack (diagram (format1 (field half))) ≡ half
format1-there half small s =
    let high : field half 8 8 < 24 = grind (arith, nat_tests) in
    omega arith

format2-there : (half : ℕ) → half < 2 ^ 16 → Settled format.Format2 half → pack (diagram (format2 (field half))) ≡ half
format2-there half small s =
    let high : field half 8 8 / 8 ≡ 3 = grind (arith, nat_tests) in
    rw (flag-there (field half 10 1) (omega arith), flag-there (field half 9 1) (omega arith)) (omega arith)

format3-there : (half : ℕ) → half < 2 ^ 16 → Settled format.Format3 half → pack (diagram (format3 (field half))) ≡ half
format3-there half small s =
    let high : field half 8 8 / 32 ≡ 1 = grind (arith, nat_tests) in
    omega arith

format4-there : (half : ℕ) → half < 2 ^ 16 → Settled format.Format4 half → pack (diagram (format4 (field half))) ≡ half
format4-there half small s =
    let high : field half 8 8 / 4 ≡ 16 = grind (arith, nat_tests) in
    omega arith

format5-there : (half : ℕ) → half < 2 ^ 16 → Settled format.Format5 half → pack (diagram (format5 (field half))) ≡ half
format5-there half small s =
    let high : field half 8 8 / 4 ≡ 17 = grind (arith, nat_tests) in
    rw (flag-there (field half 7 1) (omega arith), flag-there (field half 6 1) (omega arith)) (omega arith)

format6-there : (half : ℕ) → half < 2 ^ 16 → Settled format.Format6 half → pack (diagram (format6 (field half))) ≡ half
format6-there half small s =
    let high : field half 8 8 / 8 ≡ 9 = grind (arith, nat_tests) in
    omega arith

format7-there : (half : ℕ) → half < 2 ^ 16 → Settled format.Format7 half → pack (diagram (format7 (field half))) ≡ half
format7-there half small s =
    let high : field half 8 8 / 16 ≡ 5 = grind (arith, nat_tests) in
    let high_2 : field half 8 8 / 2 % 2 ≡ 0 = grind (arith, nat_tests) in
    rw (flag-there (field half 11 1) (omega arith), flag-there (field half 10 1) (omega arith)) (omega arith)

format8-there : (half : ℕ) → half < 2 ^ 16 → Settled format.Format8 half → pack (diagram (format8 (field half))) ≡ half
format8-there half small s =
    let high : field half 8 8 / 16 ≡ 5 = grind (arith, nat_tests) in
    let high_2 : field half 8 8 / 2 % 2 ≡ 1 = grind (arith, nat_tests) in
    rw (flag-there (field half 11 1) (omega arith), flag-there (field half 10 1) (omega arith)) (omega arith)

format9-there : (half : ℕ) → half < 2 ^ 16 → Settled format.Format9 half → pack (diagram (format9 (field half))) ≡ half
format9-there half small s =
    let high : field half 8 8 / 32 ≡ 3 = grind (arith, nat_tests) in
    rw (flag-there (field half 12 1) (omega arith), flag-there (field half 11 1) (omega arith)) (omega arith)

format10-there : (half : ℕ) → half < 2 ^ 16 → Settled format.Format10 half
    → pack (diagram (format10 (field half))) ≡ half
format10-there half small s =
    let high : field half 8 8 / 16 ≡ 8 = grind (arith, nat_tests) in
    rw (flag-there (field half 11 1) (omega arith)) (omega arith)

format11-there : (half : ℕ) → half < 2 ^ 16 → Settled format.Format11 half
    → pack (diagram (format11 (field half))) ≡ half
format11-there half small s =
    let high : field half 8 8 / 16 ≡ 9 = grind (arith, nat_tests) in
    rw (flag-there (field half 11 1) (omega arith)) (omega arith)

format12-there : (half : ℕ) → half < 2 ^ 16 → Settled format.Format12 half
    → pack (diagram (format12 (field half))) ≡ half
format12-there half small s =
    let high : field half 8 8 / 16 ≡ 10 = grind (arith, nat_tests) in
    rw (flag-there (field half 11 1) (omega arith)) (omega arith)

format13-there : (half : ℕ) → half < 2 ^ 16 → Settled format.Format13 half
    → pack (diagram (format13 (field half))) ≡ half
format13-there half small s =
    let high : field half 8 8 ≡ 0xB0 = grind (arith, nat_tests) in
    rw (flag-there (field half 7 1) (omega arith)) (omega arith)

format14-there : (half : ℕ) → half < 2 ^ 16 → Settled format.Format14 half
    → pack (diagram (format14 (field half))) ≡ half
format14-there half small s =
    let high : field half 8 8 / 16 ≡ 11 = grind (arith, nat_tests) in
    let high_2 : field half 8 8 / 2 % 4 ≡ 2 = grind (arith, nat_tests) in
    rw (flag-there (field half 11 1) (omega arith), flag-there (field half 8 1) (omega arith)) (omega arith)

format15-there : (half : ℕ) → half < 2 ^ 16 → Settled format.Format15 half
    → pack (diagram (format15 (field half))) ≡ half
format15-there half small s =
    let high : field half 8 8 / 16 ≡ 12 = grind (arith, nat_tests) in
    rw (flag-there (field half 11 1) (omega arith)) (omega arith)

format16-there : (half : ℕ) → half < 2 ^ 16 → Settled format.Format16 half
    → pack (diagram (format16 (field half))) ≡ half
format16-there half small s =
    let high : field half 8 8 / 16 ≡ 13 = grind (arith, nat_tests) in
    let high_2 : field half 8 8 % 16 < 14 = grind (arith, nat_tests) in
    omega arith

format17-there : (half : ℕ) → half < 2 ^ 16 → Settled format.Format17 half
    → pack (diagram (format17 (field half))) ≡ half
format17-there half small s =
    let high : field half 8 8 ≡ 0xDF = grind (arith, nat_tests) in
    omega arith

format18-there : (half : ℕ) → half < 2 ^ 16 → Settled format.Format18 half
    → pack (diagram (format18 (field half))) ≡ half
format18-there half small s =
    let high : field half 8 8 / 8 ≡ 28 = grind (arith, nat_tests) in
    omega arith

format19-there : (half : ℕ) → half < 2 ^ 16 → Settled format.Format19 half
    → pack (diagram (format19 (field half))) ≡ half
format19-there half small s =
    let high : field half 8 8 / 16 ≡ 15 = grind (arith, nat_tests) in
    rw (flag-there (field half 11 1) (omega arith)) (omega arith)

-- ---- every format

-- the operation's own encoding is the halfword
abbrev Writes : ℕ → ThumbOp → Type 0
Writes half o = pack (diagram o) ≡ half

operation_of-there : (f : Format) (half : ℕ) → half < 2 ^ 16 → Settled f half
    → IfSome (operation_of f (field half)) (Writes half)
operation_of-there format.Format1 half small s = format1-there half small s
operation_of-there format.Format2 half small s = format2-there half small s
operation_of-there format.Format3 half small s = format3-there half small s
operation_of-there format.Format4 half small s = format4-there half small s
operation_of-there format.Format5 half small s = format5-there half small s
operation_of-there format.Format6 half small s = format6-there half small s
operation_of-there format.Format7 half small s = format7-there half small s
operation_of-there format.Format8 half small s = format8-there half small s
operation_of-there format.Format9 half small s = format9-there half small s
operation_of-there format.Format10 half small s = format10-there half small s
operation_of-there format.Format11 half small s = format11-there half small s
operation_of-there format.Format12 half small s = format12-there half small s
operation_of-there format.Format13 half small s = format13-there half small s
operation_of-there format.Format14 half small s = format14-there half small s
operation_of-there format.Format15 half small s = format15-there half small s
operation_of-there format.Format16 half small s = format16-there half small s
operation_of-there format.Format17 half small s = format17-there half small s
operation_of-there format.Format18 half small s = format18-there half small s
operation_of-there format.Format19 half small s = format19-there half small s
operation_of-there format.Undefined half small s = tt

operation-there : (half : ℕ) → half < 2 ^ 16 → IfSome (operation half) (Writes half)
unfolding operation
operation-there half small = operation_of-there (format_in rows half) half small (settled-rows half)

own-encoding : (half : ℕ) (o : ThumbOp) → Fits o → Writes half o → encoding o ≡ Ok half
own-encoding half o h w = encoding-Fits o h ∙ ap Ok w

both : (o : Option ThumbOp) (half : ℕ) → IfSome o Fits → IfSome o (Writes half) → IfSome o (λ op. encoding op ≡ Ok half)
both None half h w = tt
both (Some o) half h w = own-encoding half o h w

pub encoding-operation : (half : ℕ) → half < 2 ^ 16 → IfSome (operation half) (λ o. encoding o ≡ Ok half)
encoding-operation half small = both (operation half) half (operation-Fits half) (operation-there half small)
