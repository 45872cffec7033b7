use Rattle.std.proofs.Common.{ℕ, ◌+◌, ◌*◌, ◌-◌, ◌/◌, ◌%◌, ◌^◌, ◌<◌, ◌≡◌, ◌∙◌, ap, sym, refl, Bool, true, false, ◌&&◌, arith}
use Rattle.std.proofs.lemmas.Bool.{eqb-true}
use Rattle.std.proofs.lemmas.Bool.Decides.{nat_tests}
use Rattle.std.specs.Prelude.{Option, Some, None, Ok, IfSome, nat_lt, pos, negsuc, if◌then◌else◌, nat_eq, ◌==◌}
use Rattle.gba_terms.specs.Bits.{field}
use Rattle.gba_arm_table.specs.declared.format.Format.{Format}
use Rattle.gba_arm_table.specs.declared.format.Format.TheVariants as format
use Rattle.gba_arm_table.specs.declared.operation.ArmOp.{ArmOp}
use Rattle.gba_arm_table.specs.declared.operation.ArmOp.TheVariants as op
use Rattle.gba_arm_table.specs.declared.operation.HalfKind.{HalfKind}
use Rattle.gba_arm_table.specs.declared.operation.HalfKind.TheVariants.{StoreHalf, LoadHalf, LoadSignedByte, LoadSignedHalf}
use Rattle.gba_arm_table.specs.declared.operation.Operand.{Operand}
use Rattle.gba_arm_table.specs.declared.operation.HalfOffset.TheVariants as half_offset
use Rattle.std.specs.Int.{cast_unsigned, w32}
use Rattle.gba_word.specs.Sums.{flag_number}
use Rattle.gba_arm_table.specs.Numbers.{signed_of, condition_of, condition_number, compute_of, compute_number, compare_of, compare_number, shift_of, shift_number}
use Rattle.gba_arm_table.specs.Fields.{flag, condition, exchange, multiply, multiply_long, swap, half, read_status, write_status, plain_source, immediate_source, is_compare, compare, compute, processing, by_register, fixed, immediate, transfer, number_offset, shifted_offset, block, branch, interrupt}
use Rattle.gba_arm_table.specs.Table.{rows, format_in, operation, operation_of}
use Rattle.gba_arm_table.specs.Diagrams.{pack, diagram, processing_parts, has_manual_bits, has_manual_half, is_load, half_code}
use Rattle.gba_arm_table.specs.Encoding.{encoding}
use Rattle.gba_arm_table.specs.Limits.{Fits}
use Rattle.gba_arm_table.proofs.Reading.{operation-Fits}
use Rattle.gba_arm_table.proofs.RoundTrip.{encoding-Fits}
use Rattle.gba_arm_table.proofs.Branching.{kept, all_below, all_below-at, format_in-key}

-- A word whose should-be bits are the manual's is its operation's own encoding.

-- ---- numbers and back

abbrev condition_stays : ℕ → Bool
condition_stays n = nat_eq (condition_number (condition_of n)) n

condition-there : (n : ℕ) → n < 16 → condition_number (condition_of n) ≡ n
condition-there n small = eqb-true _ _ (all_below-at condition_stays 16 (unfold all_below in refl) n small)

abbrev shift_stays : ℕ → Bool
shift_stays n = nat_eq (shift_number (shift_of n)) n

shift-there : (n : ℕ) → n < 4 → shift_number (shift_of n) ≡ n
shift-there n small = eqb-true _ _ (all_below-at shift_stays 4 (unfold all_below in refl) n small)

abbrev processing_stays : ℕ → Bool
processing_stays n =
    if n / 4 == 2 then nat_eq (compare_number (compare_of n)) n else nat_eq (compute_number (compute_of n)) n

all_processing_stay : all_below processing_stays 16 ≡ true
unfolding all_below
all_processing_stay = refl

compare-there : (n : ℕ) → n < 16 → (n / 4 == 2) ≡ true → compare_number (compare_of n) ≡ n
compare-there n small is =
    let stays : processing_stays n ≡ true = all_below-at processing_stays 16 all_processing_stay n small in
    eqb-true _ _ (rw is at stays)

compute-there : (n : ℕ) → n < 16 → (n / 4 == 2) ≡ false → compute_number (compute_of n) ≡ n
compute-there n small is_not =
    let stays : processing_stays n ≡ true = all_below-at processing_stays 16 all_processing_stay n small in
    eqb-true _ _ (rw is_not at stays)

flag-there : (n : ℕ) → n < 2 → flag_number (n == 1) ≡ n
flag-there n small = grind (arith, nat_tests)

-- ---- what a format says of bits 27 to 20 and 7 to 4

-- TST to CMN have S set
abbrev sets : ℕ → Bool
sets high = if high / 2 % 16 / 4 == 2 then high % 2 == 1 else true

abbrev settled : Format → ℕ → ℕ → Bool
settled format.Exchange high low = high == 0x12 && low == 1
settled format.Multiply high low = high / 4 == 0 && low == 9
settled format.MultiplyLong high low = high / 8 == 1 && low == 9
settled format.Swap high low = high / 8 == 2 && high % 4 == 0 && low == 9
settled format.HalfTransfer high low = high / 32 == 0 && low == 11
settled format.SignedByteLoad high low = high / 32 == 0 && high % 2 == 1 && low == 13
settled format.SignedHalfLoad high low = high / 32 == 0 && high % 2 == 1 && low == 15
settled format.StatusRead high low = high / 8 == 2 && high % 4 == 0 && low == 0
settled format.StatusWriteRegister high low = high / 8 == 2 && high % 4 == 2 && low == 0
settled format.StatusWriteImmediate high low = high / 8 == 6 && high % 4 == 2
settled format.ProcessingByRegister high low = high / 32 == 0 && low % 2 == 1 && low / 8 == 0 && sets high
settled format.ProcessingFixed high low = high / 32 == 0 && low % 2 == 0 && sets high
settled format.ProcessingImmediate high low = high / 32 == 1 && sets high
settled format.TransferNumber high low = high / 32 == 2
settled format.TransferShifted high low = high / 32 == 3 && low % 2 == 0
settled format.Block high low = high / 32 == 4
settled format.Branch high low = high / 32 == 5
settled format.Interrupt high low = high / 16 == 15
settled format.Undefined high low = true

abbrev settled_at : ℕ → ℕ → Bool
settled_at high low = settled (format_in rows (kept high low)) high low

all_settled : all_below (λ high. all_below (settled_at high) 16) 256 ≡ true
unfolding rows all_below
all_settled = refl

settled-rows : (word : ℕ) → settled (format_in rows word) (field word 20 8) (field word 4 4) ≡ true
settled-rows word =
    let row : all_below (settled_at (field word 20 8)) 16 ≡ true =
    all_below-at _ 256 all_settled (field word 20 8) (omega arith) in
    let cell : settled_at (field word 20 8) (field word 4 4) ≡ true =
    all_below-at (settled_at (field word 20 8)) 16 row (field word 4 4) (omega arith) in
    ap (λ f. settled f (field word 20 8) (field word 4 4)) (format_in-key word) ∙ cell

-- ---- each format

-- the operation's own encoding is the word
abbrev Writes : ℕ → ArmOp → Type 0
Writes word o = has_manual_bits o (field word) ≡ true → pack (diagram o) ≡ word

abbrev Settled : Format → ℕ → Type 0
Settled f word = settled f (field word 20 8) (field word 4 4) ≡ true

either-there : (P : ArmOp → Type 0) (b : Bool) (first second : ArmOp) → (b ≡ true → P first) → (b ≡ false → P second)
    → P (if b then first else second)
either-there P true first second one other = one refl
either-there P false first second one other = other refl

exchange-there : (word : ℕ) → word < 2 ^ 32 → Settled format.Exchange word → Writes word (exchange (field word))
exchange-there word small s m =
    let high : field word 20 8 ≡ 0x12 = grind (arith, nat_tests) in
    let low : field word 4 4 ≡ 1 = grind (arith, nat_tests) in
    let ones : field word 8 12 ≡ 0xFFF = grind (arith, nat_tests) in
    rw (condition-there (field word 28 4) (omega arith)) (omega arith)

multiply-there : (word : ℕ) → word < 2 ^ 32 → Settled format.Multiply word → Writes word (multiply (field word))
multiply-there word small s m =
    let high : field word 20 8 / 4 ≡ 0 = grind (arith, nat_tests) in
    let low : field word 4 4 ≡ 9 = grind (arith, nat_tests) in
    rw (
      condition-there (field word 28 4) (omega arith),
      flag-there (field word 21 1) (omega arith),
      flag-there (field word 20 1) (omega arith),
    )
    (omega arith)

multiply_long-there : (word : ℕ) → word < 2 ^ 32 → Settled format.MultiplyLong word
    → Writes word (multiply_long (field word))
multiply_long-there word small s m =
    let high : field word 20 8 / 8 ≡ 1 = grind (arith, nat_tests) in
    let low : field word 4 4 ≡ 9 = grind (arith, nat_tests) in
    rw (
      condition-there (field word 28 4) (omega arith),
      flag-there (field word 22 1) (omega arith),
      flag-there (field word 21 1) (omega arith),
      flag-there (field word 20 1) (omega arith),
    )
    (omega arith)

swap-there : (word : ℕ) → word < 2 ^ 32 → Settled format.Swap word → Writes word (swap (field word))
swap-there word small s m =
    let high : field word 20 8 / 8 ≡ 2 = grind (arith, nat_tests) in
    let middle : field word 20 8 % 4 ≡ 0 = grind (arith, nat_tests) in
    let low : field word 4 4 ≡ 9 = grind (arith, nat_tests) in
    let zeros : field word 8 4 ≡ 0 = grind (arith, nat_tests) in
    rw (condition-there (field word 28 4) (omega arith), flag-there (field word 22 1) (omega arith)) (omega arith)

half_number-there : (kind : HalfKind) (word : ℕ) → word < 2 ^ 32 → field word 25 3 ≡ 0 → field word 7 1 ≡ 1
    → field word 4 1 ≡ 1 → flag_number (is_load kind) ≡ field word 20 1 → half_code kind ≡ field word 5 2
    → field word 22 1 ≡ 1
    → pack (diagram (op.Half (condition (field word)) kind (flag (field word) 24) (flag (field word) 23)
    (flag (field word) 21)
    (field word 16 4) (field word 12 4) (half_offset.Number (field word 8 4 * 16 + field word 0 4)))) ≡ word
half_number-there kind word small h25 h7 h4 load code number =
    rw (
      condition-there (field word 28 4) (omega arith),
      flag-there (field word 24 1) (omega arith),
      flag-there (field word 23 1) (omega arith),
      flag-there (field word 21 1) (omega arith),
      load,
      code,
    )
    (omega arith)

half_plain-there : (kind : HalfKind) (word : ℕ) → word < 2 ^ 32 → field word 25 3 ≡ 0 → field word 7 1 ≡ 1
    → field word 4 1 ≡ 1 → flag_number (is_load kind) ≡ field word 20 1 → half_code kind ≡ field word 5 2
    → field word 22 1 ≡ 0 → field word 8 4 ≡ 0
    → pack (diagram (op.Half (condition (field word)) kind (flag (field word) 24) (flag (field word) 23)
    (flag (field word) 21) (field word 16 4) (field word 12 4) (half_offset.Plain (field word 0 4)))) ≡ word
half_plain-there kind word small h25 h7 h4 load code plain zeros =
    rw (
      condition-there (field word 28 4) (omega arith),
      flag-there (field word 24 1) (omega arith),
      flag-there (field word 23 1) (omega arith),
      flag-there (field word 21 1) (omega arith),
      load,
      code,
    )
    (omega arith)

half-cases : (kind : HalfKind) (word : ℕ) → word < 2 ^ 32 → field word 25 3 ≡ 0 → field word 7 1 ≡ 1
    → field word 4 1 ≡ 1 → flag_number (is_load kind) ≡ field word 20 1 → half_code kind ≡ field word 5 2 → (b : Bool)
    → flag (field word) 22 ≡ b → (let offset =
    if b then half_offset.Number (field word 8 4 * 16 + field word 0 4) else half_offset.Plain (field word 0 4) in
    has_manual_half offset (field word) ≡ true
    → pack (diagram (op.Half (condition (field word)) kind (flag (field word) 24) (flag (field word) 23)
    (flag (field word) 21) (field word 16 4) (field word 12 4) offset)) ≡ word)
half-cases kind word small h25 h7 h4 load code true b m =
    half_number-there kind word small h25 h7 h4 load code (eqb-true _ _ b)
half-cases kind word small h25 h7 h4 load code false b m =
    let clear : field word 22 1 ≡ 0 = grind (arith, nat_tests) in
    half_plain-there kind word small h25 h7 h4 load code clear (eqb-true _ _ m)

half-there : (kind : HalfKind) (word : ℕ) → word < 2 ^ 32 → field word 20 8 / 32 ≡ 0 → field word 4 4 / 8 ≡ 1
    → field word 4 4 % 2 ≡ 1 → flag_number (is_load kind) ≡ field word 20 1 → half_code kind ≡ field word 5 2
    → Writes word (half kind (field word))
half-there kind word small h25 h7 h4 load code m =
    half-cases kind word small (omega arith) (omega arith) (omega arith) load code (flag (field word) 22) refl m

unsigned_half-there : (word : ℕ) → word < 2 ^ 32 → Settled format.HalfTransfer word → (b : Bool)
    → flag (field word) 20 ≡ b → Writes word (half (if b then LoadHalf else StoreHalf) (field word))
unsigned_half-there word small s true b m =
    let high : field word 20 8 / 32 ≡ 0 = grind (arith, nat_tests) in
    let low : field word 4 4 ≡ 11 = grind (arith, nat_tests) in
    half-there LoadHalf word small high (omega arith) (omega arith) (sym (eqb-true _ _ b)) (omega arith) m
unsigned_half-there word small s false b m =
    let high : field word 20 8 / 32 ≡ 0 = grind (arith, nat_tests) in
    let low : field word 4 4 ≡ 11 = grind (arith, nat_tests) in
    let clear : 0 ≡ field word 20 1 = grind (arith, nat_tests) in
    half-there StoreHalf word small high (omega arith) (omega arith) clear (omega arith) m

signed_byte-there : (word : ℕ) → word < 2 ^ 32 → Settled format.SignedByteLoad word
    → Writes word (half LoadSignedByte (field word))
signed_byte-there word small s m =
    let high : field word 20 8 / 32 ≡ 0 = grind (arith, nat_tests) in
    let load : field word 20 8 % 2 ≡ 1 = grind (arith, nat_tests) in
    let low : field word 4 4 ≡ 13 = grind (arith, nat_tests) in
    half-there LoadSignedByte word small high (omega arith) (omega arith) (omega arith) (omega arith) m

signed_half-there : (word : ℕ) → word < 2 ^ 32 → Settled format.SignedHalfLoad word
    → Writes word (half LoadSignedHalf (field word))
signed_half-there word small s m =
    let high : field word 20 8 / 32 ≡ 0 = grind (arith, nat_tests) in
    let load : field word 20 8 % 2 ≡ 1 = grind (arith, nat_tests) in
    let low : field word 4 4 ≡ 15 = grind (arith, nat_tests) in
    half-there LoadSignedHalf word small high (omega arith) (omega arith) (omega arith) (omega arith) m

read_status-there : (word : ℕ) → word < 2 ^ 32 → Settled format.StatusRead word → Writes word (read_status (field word))
read_status-there word small s m =
    let high : field word 20 8 / 8 ≡ 2 = grind (arith, nat_tests) in
    let middle : field word 20 8 % 4 ≡ 0 = grind (arith, nat_tests) in
    let ones : field word 16 4 ≡ 15 = grind (arith, nat_tests) in
    let zeros : field word 0 12 ≡ 0 = grind (arith, nat_tests) in
    rw (condition-there (field word 28 4) (omega arith), flag-there (field word 22 1) (omega arith)) (omega arith)

write_plain-there : (word : ℕ) → word < 2 ^ 32 → Settled format.StatusWriteRegister word
    → Writes word (write_status (plain_source (field word)) (field word))
write_plain-there word small s m =
    let high : field word 20 8 / 8 ≡ 2 = grind (arith, nat_tests) in
    let middle : field word 20 8 % 4 ≡ 2 = grind (arith, nat_tests) in
    let low : field word 4 4 ≡ 0 = grind (arith, nat_tests) in
    let ones : field word 12 4 ≡ 15 = grind (arith, nat_tests) in
    let zeros : field word 8 4 ≡ 0 = grind (arith, nat_tests) in
    rw (condition-there (field word 28 4) (omega arith), flag-there (field word 22 1) (omega arith)) (omega arith)

write_immediate-there : (word : ℕ) → word < 2 ^ 32 → Settled format.StatusWriteImmediate word
    → Writes word (write_status (immediate_source (field word)) (field word))
write_immediate-there word small s m =
    let high : field word 20 8 / 8 ≡ 6 = grind (arith, nat_tests) in
    let middle : field word 20 8 % 4 ≡ 2 = grind (arith, nat_tests) in
    let ones : field word 12 4 ≡ 15 = grind (arith, nat_tests) in
    rw (condition-there (field word 28 4) (omega arith), flag-there (field word 22 1) (omega arith)) (omega arith)

number-there : (word : ℕ) → word < 2 ^ 32 → Settled format.TransferNumber word
    → Writes word (transfer (number_offset (field word)) (field word))
number-there word small s m =
    let high : field word 20 8 / 32 ≡ 2 = grind (arith, nat_tests) in
    rw (
      condition-there (field word 28 4) (omega arith),
      flag-there (field word 24 1) (omega arith),
      flag-there (field word 23 1) (omega arith),
      flag-there (field word 22 1) (omega arith),
      flag-there (field word 21 1) (omega arith),
      flag-there (field word 20 1) (omega arith),
    )
    (omega arith)

shifted-there : (word : ℕ) → word < 2 ^ 32 → Settled format.TransferShifted word
    → Writes word (transfer (shifted_offset (field word)) (field word))
shifted-there word small s m =
    let high : field word 20 8 / 32 ≡ 3 = grind (arith, nat_tests) in
    let low : field word 4 4 % 2 ≡ 0 = grind (arith, nat_tests) in
    rw (
      condition-there (field word 28 4) (omega arith),
      flag-there (field word 24 1) (omega arith),
      flag-there (field word 23 1) (omega arith),
      flag-there (field word 22 1) (omega arith),
      flag-there (field word 21 1) (omega arith),
      flag-there (field word 20 1) (omega arith),
      shift-there (field word 5 2) (omega arith),
    )
    (omega arith)

block-there : (word : ℕ) → word < 2 ^ 32 → Settled format.Block word → Writes word (block (field word))
block-there word small s m =
    let high : field word 20 8 / 32 ≡ 4 = grind (arith, nat_tests) in
    rw (
      condition-there (field word 28 4) (omega arith),
      flag-there (field word 24 1) (omega arith),
      flag-there (field word 23 1) (omega arith),
      flag-there (field word 22 1) (omega arith),
      flag-there (field word 21 1) (omega arith),
      flag-there (field word 20 1) (omega arith),
    )
    (omega arith)

signed-cases : (n : ℕ) → n < 2 ^ 24 → (b : Bool) → nat_lt n (2 ^ 23) ≡ b
    → cast_unsigned w32 (if b then pos n else negsuc (2 ^ 24 - 1 - n)) % 2 ^ 24 ≡ n
signed-cases n small true b = omega arith
signed-cases n small false b = omega arith

signed-there : (n : ℕ) → n < 2 ^ 24 → cast_unsigned w32 (signed_of n) % 2 ^ 24 ≡ n
signed-there n small = signed-cases n small (nat_lt n (2 ^ 23)) refl

branch-there : (word : ℕ) → word < 2 ^ 32 → Settled format.Branch word → Writes word (branch (field word))
branch-there word small s m =
    let high : field word 20 8 / 32 ≡ 5 = grind (arith, nat_tests) in
    rw (
      condition-there (field word 28 4) (omega arith),
      flag-there (field word 24 1) (omega arith),
      signed-there (field word 0 24) (omega arith),
    )
    (omega arith)

interrupt-there : (word : ℕ) → word < 2 ^ 32 → Settled format.Interrupt word → Writes word (interrupt (field word))
interrupt-there word small s m =
    let high : field word 20 8 / 16 ≡ 15 = grind (arith, nat_tests) in
    rw (condition-there (field word 28 4) (omega arith)) (omega arith)

-- the parts of data processing are the word's, whichever operation it is
abbrev Processes : ℕ → Operand → Type 0
Processes word operand =
    (number rd : ℕ) (set : Bool) → number ≡ field word 21 4 → flag_number set ≡ field word 20 1 → rd ≡ field word 12 4
    → pack (processing_parts (condition (field word)) number set (field word 16 4) rd operand) ≡ word

by_register-there : (word : ℕ) → word < 2 ^ 32 → Settled format.ProcessingByRegister word
    → Processes word (by_register (field word))
by_register-there word small s number rd set n f r =
    let high : field word 20 8 / 32 ≡ 0 = grind (arith, nat_tests) in
    let low : field word 4 4 % 2 ≡ 1 = grind (arith, nat_tests) in
    let clear : field word 4 4 / 8 ≡ 0 = grind (arith, nat_tests) in
    rw (condition-there (field word 28 4) (omega arith), shift-there (field word 5 2) (omega arith), n, f, r)
    (omega arith)

fixed-there : (word : ℕ) → word < 2 ^ 32 → Settled format.ProcessingFixed word → Processes word (fixed (field word))
fixed-there word small s number rd set n f r =
    let high : field word 20 8 / 32 ≡ 0 = grind (arith, nat_tests) in
    let low : field word 4 4 % 2 ≡ 0 = grind (arith, nat_tests) in
    rw (condition-there (field word 28 4) (omega arith), shift-there (field word 5 2) (omega arith), n, f, r)
    (omega arith)

immediate-there : (word : ℕ) → word < 2 ^ 32 → Settled format.ProcessingImmediate word
    → Processes word (immediate (field word))
immediate-there word small s number rd set n f r =
    let high : field word 20 8 / 32 ≡ 1 = grind (arith, nat_tests) in
    rw (condition-there (field word 28 4) (omega arith), n, f, r) (omega arith)

-- TST to CMN have S set
sets-there : (high number : ℕ) → high / 2 % 16 ≡ number → sets high ≡ true → (number / 4 == 2) ≡ true → high % 2 ≡ 1
sets-there high number same s is =
    let here : (high / 2 % 16 / 4 == 2) ≡ true = ap (λ n. n / 4 == 2) same ∙ is in
    eqb-true _ _ (rw here at s)

processing-there : (word : ℕ) (operand : Operand) → Processes word operand → sets (field word 20 8) ≡ true
    → Writes word (processing operand (field word))
processing-there word operand writes s =
    either-there (Writes word) (is_compare (field word)) (compare operand (field word)) (compute operand (field word))
    (λ is m. writes (compare_number (compare_of (field word 21 4))) 0 true
    (compare-there (field word 21 4) (omega arith) is)
    (sym (sets-there (field word 20 8) (field word 21 4) (omega arith) s is) ∙ omega arith)
    (sym (eqb-true _ _ m)))
    (λ is_not m. writes (compute_number (compute_of (field word 21 4))) (field word 12 4) (flag (field word) 20)
    (compute-there (field word 21 4) (omega arith) is_not)
    (flag-there (field word 20 1) (omega arith))
    refl)

format-there : (f : Format) (word : ℕ) → word < 2 ^ 32 → Settled f word
    → IfSome (operation_of f (field word)) (Writes word)
format-there format.Exchange word small s = exchange-there word small s
format-there format.Multiply word small s = multiply-there word small s
format-there format.MultiplyLong word small s = multiply_long-there word small s
format-there format.Swap word small s = swap-there word small s
format-there format.HalfTransfer word small s = unsigned_half-there word small s _ refl
format-there format.SignedByteLoad word small s = signed_byte-there word small s
format-there format.SignedHalfLoad word small s = signed_half-there word small s
format-there format.StatusRead word small s = read_status-there word small s
format-there format.StatusWriteRegister word small s = write_plain-there word small s
format-there format.StatusWriteImmediate word small s = write_immediate-there word small s
format-there format.ProcessingByRegister word small s =
    processing-there word _ (by_register-there word small s) (grind arith)
format-there format.ProcessingFixed word small s = processing-there word _ (fixed-there word small s) (grind arith)
format-there format.ProcessingImmediate word small s =
    processing-there word _ (immediate-there word small s) (grind arith)
format-there format.TransferNumber word small s = number-there word small s
format-there format.TransferShifted word small s = shifted-there word small s
format-there format.Block word small s = block-there word small s
format-there format.Branch word small s = branch-there word small s
format-there format.Interrupt word small s = interrupt-there word small s
format-there format.Undefined word small s = tt

operation-there : (word : ℕ) → word < 2 ^ 32 → IfSome (operation word) (Writes word)
unfolding operation
operation-there word small = format-there _ word small (settled-rows word)

joined : (word : ℕ) (o : Option ArmOp) → IfSome o Fits → IfSome o (Writes word)
    → IfSome o (λ one. has_manual_bits one (field word) ≡ true → encoding one ≡ Ok word)
joined word (Some one) fits writes = λ m. encoding-Fits one fits ∙ ap Ok (writes m)
joined word None fits writes = tt

-- a word whose should-be bits are the manual's is what its operation is encoded as
pub encoding-operation : (word : ℕ) → word < 2 ^ 32
    → IfSome (operation word) (λ o. has_manual_bits o (field word) ≡ true → encoding o ≡ Ok word)
encoding-operation word small = joined word (operation word) (operation-Fits word) (operation-there word small)
