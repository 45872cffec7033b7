use Rattle.std.proofs.Common.{ℕ, ◌+◌, ◌*◌, ◌-◌, ◌/◌, ◌%◌, ◌^◌, ◌<◌, ◌≡◌, ◌∙◌, suc, ap, sym, subst, refl, Bool, true, false, List, [], ◌∷◌, arith}
use Rattle.std.proofs.Math.Path.{fun_ext}
use Rattle.std.proofs.lemmas.Bool.Decides.{nat_tests}
use Rattle.std.proofs.Math.Nat.{mod-eq_of_lt}
use Rattle.std.specs.Prelude.{Some, Ok, Result, IfSome, IsOkAnd, ◌==◌}
use Rattle.gba_terms.specs.Bits.{field}
use Rattle.gba_arm_table.specs.declared.operation.ArmOp.{ArmOp}
use Rattle.gba_arm_table.specs.declared.operation.ArmOp.TheVariants as op
use Rattle.gba_arm_table.specs.declared.operation.Condition.{Condition}
use Rattle.gba_arm_table.specs.declared.operation.Condition.TheVariants.{Equal, NotEqual, CarrySet, CarryClear, Minus, Plus, Overflow, NoOverflow, Higher, LowerOrSame, GreaterOrEqual, Less, Greater, LessOrEqual, Always, Never}
use Rattle.gba_arm_table.specs.declared.operation.ComputeOp.{ComputeOp}
use Rattle.gba_arm_table.specs.declared.operation.ComputeOp.TheVariants.{And, Eor, Sub, Rsb, Add, Adc, Sbc, Rsc, Orr, Mov, Bic, Mvn}
use Rattle.gba_arm_table.specs.declared.operation.CompareOp.{CompareOp}
use Rattle.gba_arm_table.specs.declared.operation.CompareOp.TheVariants.{Tst, Teq, Cmp, Cmn}
use Rattle.gba_arm_table.specs.declared.operation.HalfKind.{HalfKind}
use Rattle.gba_arm_table.specs.declared.operation.HalfKind.TheVariants.{StoreHalf, LoadHalf, LoadSignedByte, LoadSignedHalf}
use Rattle.gba_arm_table.specs.declared.operation.HalfOffset.{HalfOffset}
use Rattle.gba_arm_table.specs.declared.operation.HalfOffset.TheVariants as half_offset
use Rattle.gba_arm_table.specs.declared.operation.Operand.{Operand}
use Rattle.gba_arm_table.specs.declared.operation.Operand.TheVariants as operand
use Rattle.gba_arm_table.specs.declared.operation.Source.{Source}
use Rattle.gba_arm_table.specs.declared.operation.Source.TheVariants as source
use Rattle.gba_arm_table.specs.declared.operation.TransferOffset.{TransferOffset}
use Rattle.gba_arm_table.specs.declared.operation.TransferOffset.TheVariants as transfer_offset
use Rattle.gba_arm_table.specs.declared.parts.Part.{Part}
use Rattle.gba_arm_table.specs.Limits.{Limit, Within, within, Fits, registers_of, immediates_of, offsets_of, distance, source_registers, source_immediates, operand_registers, operand_immediates, transfer_registers, transfer_immediates, transfer_offsets, half_registers, half_offsets}
use Rattle.gba_word.specs.declared.kinds.Shift.{Shift}
use Rattle.gba_word.specs.declared.kinds.Shift.TheVariants.{Lsl, Lsr, Asr, Ror}
use Rattle.std.specs.Int.{cast_unsigned, w32}
use Rattle.std.specs.Prelude.{ℤ, pos, negsuc}
use Rattle.gba_word.specs.Sums.{flag_number}
use Rattle.gba_arm_table.specs.Numbers.{condition_of, condition_number, compute_of, compute_number, compare_of, compare_number, shift_of, shift_number, signed_of}
use Rattle.gba_arm_table.specs.Table.{operation, operation_of}
use Rattle.gba_arm_table.specs.Branches.{branch_format}
use Rattle.gba_arm_table.specs.Diagrams.{pack, diagram, has_manual_bits}
use Rattle.gba_arm_table.specs.Encoding.{encoding}
use Rattle.gba_arm_table.specs.declared.encoding.EncodeError.{EncodeError}
use Rattle.gba_arm_table.proofs.Reading.{operation-Fits}
use Rattle.std.proofs.lemmas.Option.{IfSome_then}
use Rattle.gba_arm_table.proofs.Branching.{format_in-rows}
use Rattle.gba_arm_table.proofs.Packing.{read, field-pack}

-- ---- numbers and back

condition-back : (cond : Condition) → condition_of (condition_number cond % 16) ≡ cond
condition-back Equal = refl
condition-back NotEqual = refl
condition-back CarrySet = refl
condition-back CarryClear = refl
condition-back Minus = refl
condition-back Plus = refl
condition-back Overflow = refl
condition-back NoOverflow = refl
condition-back Higher = refl
condition-back LowerOrSame = refl
condition-back GreaterOrEqual = refl
condition-back Less = refl
condition-back Greater = refl
condition-back LessOrEqual = refl
condition-back Always = refl
condition-back Never = refl

flag-back : (set : Bool) → (flag_number set % 2 == 1) ≡ set
flag-back true = refl
flag-back false = refl

field-read : (parts : List Part) → field (pack parts) ≡ read parts
field-read parts = fun_ext (λ low. fun_ext (λ width. field-pack parts low width))

-- the operation of a word is computed from its parts
operation-pack : (parts : List Part) → operation (pack parts) ≡ operation_of (branch_format (read parts)) (read parts)
unfolding operation
operation-pack parts =
    ap (λ format. operation_of format (field (pack parts))) (format_in-rows (pack parts))
    ∙ ap (λ bits. operation_of (branch_format bits) bits) (field-read parts)

compute-apart : (o : ComputeOp) → (compute_number o % 16 / 4 == 2) ≡ false
compute-apart And = refl
compute-apart Eor = refl
compute-apart Sub = refl
compute-apart Rsb = refl
compute-apart Add = refl
compute-apart Adc = refl
compute-apart Sbc = refl
compute-apart Rsc = refl
compute-apart Orr = refl
compute-apart Mov = refl
compute-apart Bic = refl
compute-apart Mvn = refl

compute-back : (o : ComputeOp) → compute_of (compute_number o % 16) ≡ o
compute-back And = refl
compute-back Eor = refl
compute-back Sub = refl
compute-back Rsb = refl
compute-back Add = refl
compute-back Adc = refl
compute-back Sbc = refl
compute-back Rsc = refl
compute-back Orr = refl
compute-back Mov = refl
compute-back Bic = refl
compute-back Mvn = refl

compare-together : (o : CompareOp) → (compare_number o % 16 / 4 == 2) ≡ true
compare-together Tst = refl
compare-together Teq = refl
compare-together Cmp = refl
compare-together Cmn = refl

compare-back : (o : CompareOp) → compare_of (compare_number o % 16) ≡ o
compare-back Tst = refl
compare-back Teq = refl
compare-back Cmp = refl
compare-back Cmn = refl

shift-back : (kind : Shift) → shift_of (shift_number kind % 4) ≡ kind
shift-back Lsl = refl
shift-back Lsr = refl
shift-back Asr = refl
shift-back Ror = refl

signed-back : (z : ℤ) → distance z < 2 ^ 23 → signed_of (cast_unsigned w32 z % 2 ^ 24) ≡ z
signed-back (pos n) small =
    let whole : n % 2 ^ 24 ≡ n = omega arith in
    rw whole (grind (arith, nat_tests))
signed-back (negsuc n) small =
    let bits : (2 ^ 32 - suc n) % 2 ^ 24 ≡ 2 ^ 24 - suc n = omega arith in
    rw bits (grind (arith, nat_tests))

halves-back : (n : ℕ) → n < 256 → n / 16 % 16 * 16 + n % 16 ≡ n
halves-back n small = omega arith

-- what the parts of a diagram say is the operation that was drawn
abbrev Back : ArmOp → Type 0
Back o = operation_of (branch_format (read (diagram o))) (read (diagram o)) ≡ Some o

exchange-back : (cond : Condition) (rm : ℕ) → rm < 16 → Back (op.Exchange cond rm)
exchange-back cond rm h1 = simp (condition-back, mod-eq_of_lt)

multiply-back : (cond : Condition) (accumulate set : Bool) (rd rn rs rm : ℕ) → rd < 16 → rn < 16 → rs < 16 → rm < 16
    → Back (op.Multiply cond accumulate set rd rn rs rm)
multiply-back cond accumulate set rd rn rs rm h1 h2 h3 h4 = simp (condition-back, flag-back, mod-eq_of_lt)

multiply_long-back : (cond : Condition) (signed accumulate set : Bool) (hi lo rs rm : ℕ) → hi < 16 → lo < 16 → rs < 16
    → rm < 16 → Back (op.MultiplyLong cond signed accumulate set hi lo rs rm)
multiply_long-back cond signed accumulate set hi lo rs rm h1 h2 h3 h4 = simp (condition-back, flag-back, mod-eq_of_lt)

swap-back : (cond : Condition) (byte : Bool) (rn rd rm : ℕ) → rn < 16 → rd < 16 → rm < 16
    → Back (op.Swap cond byte rn rd rm)
swap-back cond byte rn rd rm h1 h2 h3 = simp (condition-back, flag-back, mod-eq_of_lt)

half_number-back : (cond : Condition) (kind : HalfKind) (pre up write : Bool) (rn rd value : ℕ) → rn < 16 → rd < 16
    → value < 256 → Back (op.Half cond kind pre up write rn rd (half_offset.Number value))
half_number-back cond StoreHalf pre up write rn rd value h1 h2 h3 =
    simp (condition-back, flag-back, mod-eq_of_lt, halves-back)
half_number-back cond LoadHalf pre up write rn rd value h1 h2 h3 =
    simp (condition-back, flag-back, mod-eq_of_lt, halves-back)
half_number-back cond LoadSignedByte pre up write rn rd value h1 h2 h3 =
    simp (condition-back, flag-back, mod-eq_of_lt, halves-back)
half_number-back cond LoadSignedHalf pre up write rn rd value h1 h2 h3 =
    simp (condition-back, flag-back, mod-eq_of_lt, halves-back)

half_plain-back : (cond : Condition) (kind : HalfKind) (pre up write : Bool) (rn rd rm : ℕ) → rn < 16 → rd < 16
    → rm < 16 → Back (op.Half cond kind pre up write rn rd (half_offset.Plain rm))
half_plain-back cond StoreHalf pre up write rn rd rm h1 h2 h3 = simp (condition-back, flag-back, mod-eq_of_lt)
half_plain-back cond LoadHalf pre up write rn rd rm h1 h2 h3 = simp (condition-back, flag-back, mod-eq_of_lt)
half_plain-back cond LoadSignedByte pre up write rn rd rm h1 h2 h3 = simp (condition-back, flag-back, mod-eq_of_lt)
half_plain-back cond LoadSignedHalf pre up write rn rd rm h1 h2 h3 = simp (condition-back, flag-back, mod-eq_of_lt)

read_status-back : (cond : Condition) (saved : Bool) (rd : ℕ) → rd < 16 → Back (op.ReadStatus cond saved rd)
read_status-back cond true rd h1 = simp (condition-back, mod-eq_of_lt)
read_status-back cond false rd h1 = simp (condition-back, mod-eq_of_lt)

write_status-back : (cond : Condition) (saved : Bool) (fields : ℕ) (source : Source) → fields < 16
    → Within (source_registers source) → Within (source_immediates source)
    → Back (op.WriteStatus cond saved fields source)
write_status-back cond true fields (source.Immediate value turn) h1 r i =
    simp (condition-back, mod-eq_of_lt h1, mod-eq_of_lt i.0, mod-eq_of_lt i.1.0)
write_status-back cond true fields (source.Plain rm) h1 r i = simp (condition-back, mod-eq_of_lt h1, mod-eq_of_lt r.0)
write_status-back cond false fields (source.Immediate value turn) h1 r i =
    simp (condition-back, mod-eq_of_lt h1, mod-eq_of_lt i.0, mod-eq_of_lt i.1.0)
write_status-back cond false fields (source.Plain rm) h1 r i = simp (condition-back, mod-eq_of_lt h1, mod-eq_of_lt r.0)

processing-back : (cond : Condition) (o : ComputeOp) (set : Bool) (rn rd : ℕ) (operand : Operand) → rn < 16 → rd < 16
    → Within (operand_registers operand) → Within (operand_immediates operand)
    → Back (op.Compute cond o set rn rd operand)
processing-back cond o set rn rd (operand.Immediate value turn) h1 h2 r i =
    simp (
      compute-apart,
      compute-back,
      condition-back,
      flag-back,
      mod-eq_of_lt h1,
      mod-eq_of_lt h2,
      mod-eq_of_lt i.0,
      mod-eq_of_lt i.1.0,
    )
processing-back cond o set rn rd (operand.Fixed rm kind amount) h1 h2 r i =
    simp (
      compute-apart,
      compute-back,
      condition-back,
      flag-back,
      shift-back,
      mod-eq_of_lt h1,
      mod-eq_of_lt h2,
      mod-eq_of_lt r.0,
      mod-eq_of_lt i.0,
    )
processing-back cond o set rn rd (operand.ByRegister rm kind rs) h1 h2 r i =
    simp (
      compute-apart,
      compute-back,
      condition-back,
      flag-back,
      shift-back,
      mod-eq_of_lt h1,
      mod-eq_of_lt h2,
      mod-eq_of_lt r.0,
      mod-eq_of_lt r.1.0,
    )

compare_operand-back : (cond : Condition) (o : CompareOp) (rn : ℕ) (operand : Operand) → rn < 16
    → Within (operand_registers operand) → Within (operand_immediates operand) → Back (op.Compare cond o rn operand)
compare_operand-back cond o rn (operand.Immediate value turn) h1 r i =
    simp (compare-together, compare-back, condition-back, mod-eq_of_lt h1, mod-eq_of_lt i.0, mod-eq_of_lt i.1.0)
compare_operand-back cond o rn (operand.Fixed rm kind amount) h1 r i =
    simp (
      compare-together,
      compare-back,
      condition-back,
      shift-back,
      mod-eq_of_lt h1,
      mod-eq_of_lt r.0,
      mod-eq_of_lt i.0,
    )
compare_operand-back cond o rn (operand.ByRegister rm kind rs) h1 r i =
    simp (
      compare-together,
      compare-back,
      condition-back,
      shift-back,
      mod-eq_of_lt h1,
      mod-eq_of_lt r.0,
      mod-eq_of_lt r.1.0,
    )

transfer-back : (cond : Condition) (load byte pre up write : Bool) (rn rd : ℕ) (offset : TransferOffset) → rn < 16
    → rd < 16 → Within (transfer_registers offset) → Within (transfer_immediates offset)
    → Within (transfer_offsets offset) → Back (op.Transfer cond load byte pre up write rn rd offset)
transfer-back cond load byte pre up write rn rd (transfer_offset.Number value) h1 h2 r i o =
    simp (condition-back, flag-back, mod-eq_of_lt h1, mod-eq_of_lt h2, mod-eq_of_lt o.0)
transfer-back cond load byte pre up write rn rd (transfer_offset.Shifted rm kind amount) h1 h2 r i o =
    simp (condition-back, flag-back, shift-back, mod-eq_of_lt h1, mod-eq_of_lt h2, mod-eq_of_lt r.0, mod-eq_of_lt i.0)

block-back : (cond : Condition) (load pre up user write : Bool) (rn list : ℕ) → rn < 16 → list < 2 ^ 16
    → Back (op.Block cond load pre up user write rn list)
block-back cond load pre up user write rn list h1 h2 = simp (condition-back, flag-back, mod-eq_of_lt)

branch-back : (cond : Condition) (link : Bool) (offset : ℤ) → distance offset < 2 ^ 23
    → Back (op.Branch cond link offset)
branch-back cond link offset h1 = rw (condition-back, flag-back, signed-back offset h1) refl

interrupt-back : (cond : Condition) (comment : ℕ) → comment < 2 ^ 24 → Back (op.Interrupt cond comment)
interrupt-back cond comment h1 = simp (condition-back, mod-eq_of_lt)

half-back : (cond : Condition) (kind : HalfKind) (pre up write : Bool) (rn rd : ℕ) (offset : HalfOffset) → rn < 16
    → rd < 16 → Within (half_registers offset) → Within (half_offsets offset)
    → Back (op.Half cond kind pre up write rn rd offset)
half-back cond kind pre up write rn rd (half_offset.Number value) h1 h2 r o =
    half_number-back cond kind pre up write rn rd value h1 h2 o.0
half-back cond kind pre up write rn rd (half_offset.Plain rm) h1 h2 r o =
    half_plain-back cond kind pre up write rn rd rm h1 h2 r.0

diagram-back : (o : ArmOp) → Fits o → Back o
diagram-back (op.Exchange cond rm) h = exchange-back _ _ h.registers.0
diagram-back (op.Multiply cond accumulate set rd rn rs rm) h =
    multiply-back _ _ _ _ _ _ _ h.registers.0 h.registers.1.0 h.registers.1.1.0 h.registers.1.1.1.0
diagram-back (op.MultiplyLong cond signed accumulate set hi lo rs rm) h =
    multiply_long-back _ _ _ _ _ _ _ _ h.registers.0 h.registers.1.0 h.registers.1.1.0 h.registers.1.1.1.0
diagram-back (op.Swap cond byte rn rd rm) h = swap-back _ _ _ _ _ h.registers.0 h.registers.1.0 h.registers.1.1.0
diagram-back (op.Half cond kind pre up write rn rd offset) h =
    half-back _ _ _ _ _ _ _ offset h.registers.0 h.registers.1.0 h.registers.1.1 h.offsets
diagram-back (op.ReadStatus cond saved rd) h = read_status-back _ saved _ h.registers.0
diagram-back (op.WriteStatus cond saved fields source) h =
    write_status-back _ saved _ source h.immediates.0 h.registers h.immediates.1
diagram-back (op.Compute cond o set rn rd operand) h =
    processing-back _ o _ _ _ operand h.registers.0 h.registers.1.0 h.registers.1.1 h.immediates
diagram-back (op.Compare cond o rn operand) h =
    compare_operand-back _ o _ operand h.registers.0 h.registers.1 h.immediates
diagram-back (op.Transfer cond load byte pre up write rn rd offset) h =
    transfer-back _ _ _ _ _ _ _ _ offset h.registers.0 h.registers.1.0 h.registers.1.1 h.immediates h.offsets
diagram-back (op.Block cond load pre up user write rn list) h = block-back _ _ _ _ _ _ _ _ h.registers.0 h.immediates.0
diagram-back (op.Branch cond link offset) h = branch-back _ _ offset h.offsets.0
diagram-back (op.Interrupt cond comment) h = interrupt-back _ _ h.immediates.0

-- an operation whose fields fit comes back from its word
pub operation-diagram : (o : ArmOp) → Fits o → operation (pack (diagram o)) ≡ Some o
operation-diagram o h = operation-pack (diagram o) ∙ diagram-back o h

Within-within : (limits : List Limit) → within limits ≡ true → Within limits
Within-within [] all = tt
Within-within (one ∷ rest) all =
    let here : one.number < one.bound = grind (arith, nat_tests) in
    let later : within rest ≡ true = grind arith in
    (here, Within-within rest later)

within-Within : (limits : List Limit) → Within limits → within limits ≡ true
within-Within [] all = refl
within-Within (one ∷ rest) all =
    let here : one.number < one.bound = all.0 in
    let later : within rest ≡ true = within-Within rest all.1 in
    grind (arith, nat_tests)

pub fitting : (o : ArmOp) → within (registers_of o) ≡ true → within (immediates_of o) ≡ true
    → within (offsets_of o) ≡ true → Fits o
fitting o r i f = record { registers = Within-within _ r; immediates = Within-within _ i; offsets = Within-within _ f }

-- an operation whose fields fit is encoded
pub encoding-Fits : (o : ArmOp) → Fits o → encoding o ≡ Ok (pack (diagram o))
unfolding encoding
encoding-Fits o h =
    let r : within (registers_of o) ≡ true = within-Within _ h.registers in
    let i : within (immediates_of o) ≡ true = within-Within _ h.immediates in
    let f : within (offsets_of o) ≡ true = within-Within _ h.offsets in
    rw (r, i, f) refl

-- an operation whose fields fit is encoded as a word that decodes to it
pub encoding-back : (o : ArmOp) → Fits o → IsOkAnd (encoding o) (λ word. operation word ≡ Some o)
encoding-back o h =
    let P : Result ℕ EncodeError → Type 0 = λ r. IsOkAnd r (λ word. operation word ≡ Some o) in
    subst P (sym (encoding-Fits o h)) (operation-diagram o h)

-- the operation of a word is encoded as a word that decodes to it
pub operation-again : (word : ℕ)
    → IfSome (operation word) (λ o. IsOkAnd (encoding o) (λ again. operation again ≡ Some o))
operation-again word = IfSome_then (operation word) (operation-Fits word) encoding-back

-- ---- bits that should be one or zero

manual-read : (o : ArmOp) → has_manual_bits o (read (diagram o)) ≡ true
manual-read (op.Exchange cond rm) = refl
manual-read (op.Swap cond byte rn rd rm) = refl
manual-read (op.Half cond kind pre up write rn rd (half_offset.Number value)) = refl
manual-read (op.Half cond kind pre up write rn rd (half_offset.Plain rm)) = refl
manual-read (op.ReadStatus cond saved rd) = refl
manual-read (op.WriteStatus cond saved fields (source.Immediate value turn)) = refl
manual-read (op.WriteStatus cond saved fields (source.Plain rm)) = refl
manual-read (op.Compare cond o rn (operand.Immediate value turn)) = refl
manual-read (op.Compare cond o rn (operand.Fixed rm kind amount)) = refl
manual-read (op.Compare cond o rn (operand.ByRegister rm kind rs)) = refl
manual-read _ = refl

pub manual-diagram : (o : ArmOp) → has_manual_bits o (field (pack (diagram o))) ≡ true
manual-diagram o = ap (has_manual_bits o) (field-read (diagram o)) ∙ manual-read o
