-- Quick forms of operations that fit, fit.
use Rattle.std.proofs.Common.{◌≡◌, ℕ, Bool, true, false, ◌<◌, ◌≤◌, ◌==◌, ◌||◌, ◌&&◌, not, ◌*◌, refl, arith, if◌then◌else◌}
use Rattle.std.proofs.lemmas.Bool.Decides.{nat_tests}
use Rattle.std.specs.Prelude.{Option, Some, None, IfSome}
use Rattle.gba_word.specs.Shifts.{rotation}
use Rattle.gba_word.specs.declared.kinds.Shift.{Shift}
use Rattle.gba_arm_table.specs.Limits.{Fits, Within, operand_immediates, operand_registers}
use Rattle.gba_arm_table.specs.declared.operation.ArmOp.{ArmOp}
use Rattle.gba_arm_table.specs.declared.operation.ArmOp.TheVariants as op
use Rattle.gba_arm_table.specs.declared.operation.ComputeOp.{ComputeOp}
use Rattle.gba_arm_table.specs.declared.operation.ComputeOp.TheVariants.{And, Eor, Sub, Rsb, Add, Adc, Sbc, Rsc, Orr, Mov, Bic, Mvn}
use Rattle.gba_arm_table.specs.declared.operation.HalfKind.{HalfKind}
use Rattle.gba_arm_table.specs.declared.operation.HalfKind.TheVariants.{StoreHalf, LoadHalf, LoadSignedByte, LoadSignedHalf}
use Rattle.gba_arm_table.specs.declared.operation.HalfOffset.TheVariants as half_offset
use Rattle.gba_arm_table.specs.declared.operation.Operand.{Operand}
use Rattle.gba_arm_table.specs.declared.operation.Operand.TheVariants as operand
use Rattle.gba_arm_table.specs.declared.operation.TransferOffset.TheVariants as transfer_offset
use Rattle.gba_exec_registers.specs.Processing.{compute_op_of}
use Rattle.gba_exec_transfers.specs.Plain.{IsPlain, is_plain, plain_of}
use Rattle.gba_exec_transfers.specs.declared.units.BlockTransfer.{BlockTransfer}
use Rattle.gba_exec_transfers.specs.declared.units.SingleTransfer.{SingleTransfer}
use Rattle.gba_exec_quick.specs.Making.{QuickFits, compare_form, compare_number_form, compare_plain_form, compare_shifted, compute_form, compute_shifted, general_block, general_transfer, half_form, is_lsl, number_form, number_transfer, plain_block, plain_form, plain_transfer, quick_of, quick_of_word, set_number_form, set_plain_form, set_shifted_form, signed_offset}
use Rattle.gba_exec_quick.specs.declared.quick.Quick.{Quick}
use Rattle.gba_exec_quick.specs.declared.quick.Quick.TheVariants as quick

either-fits : (test : Bool) (one other : Quick) → QuickFits one → QuickFits other
    → QuickFits (if test then one else other)
either-fits true one other here there = here
either-fits false one other here there = there

-- an amount that isn't 0
tested-fits : (test : Bool) (amount : ℕ) (one other : Quick) → (amount == 0) ≡ test → QuickFits one
    → (0 < amount → QuickFits other) → QuickFits (if test then one else other)
tested-fits true amount one other is here there = here
tested-fits false amount one other is here there = there (grind (arith, nat_tests))

number_form-fits : (kind : ComputeOp) (rn rd value : ℕ) → rn < 16 → rd < 16 → QuickFits (number_form kind rn rd value)
number_form-fits And rn rd value n d = (n, d)
number_form-fits Eor rn rd value n d = (n, d)
number_form-fits Sub rn rd value n d = (n, d)
number_form-fits Rsb rn rd value n d = (n, d)
number_form-fits Add rn rd value n d = (n, d)
number_form-fits Adc rn rd value n d = (n, d)
number_form-fits Sbc rn rd value n d = (n, d)
number_form-fits Rsc rn rd value n d = (n, d)
number_form-fits Orr rn rd value n d = (n, d)
number_form-fits Mov rn rd value n d = (n, d)
number_form-fits Bic rn rd value n d = (n, d)
number_form-fits Mvn rn rd value n d = (n, d)

plain_form-fits : (kind : ComputeOp) (rn rd rm : ℕ) → rn < 16 → rd < 16 → rm < 16 → QuickFits (plain_form kind rn rd rm)
plain_form-fits And rn rd rm n d m = (n, d, m)
plain_form-fits Eor rn rd rm n d m = (n, d, m)
plain_form-fits Sub rn rd rm n d m = (n, d, m)
plain_form-fits Rsb rn rd rm n d m = (n, d, m)
plain_form-fits Add rn rd rm n d m = (n, d, m)
plain_form-fits Adc rn rd rm n d m = (n, d, m)
plain_form-fits Sbc rn rd rm n d m = (n, d, m)
plain_form-fits Rsc rn rd rm n d m = (n, d, m)
plain_form-fits Orr rn rd rm n d m = (n, d, m)
plain_form-fits Mov rn rd rm n d m = (n, d, m)
plain_form-fits Bic rn rd rm n d m = (n, d, m)
plain_form-fits Mvn rn rd rm n d m = (n, d, m)

set_number_form-fits : (kind : ComputeOp) (rn rd value : ℕ) (turned : Bool) → rn < 16 → rd < 16
    → QuickFits (set_number_form kind rn rd value turned)
set_number_form-fits Add rn rd value turned n d = (n, d)
set_number_form-fits kind rn rd value turned n d = (n, d)

set_plain_form-fits : (kind : ComputeOp) (rn rd rm : ℕ) → rn < 16 → rd < 16 → rm < 16
    → QuickFits (set_plain_form kind rn rd rm)
set_plain_form-fits Add rn rd rm n d m = (n, d, m)
set_plain_form-fits kind rn rd rm n d m = (n, d, m)

set_shifted_form-fits : (kind : ComputeOp) (rn rd rm : ℕ) (shift : Shift) (amount : ℕ) → rn < 16 → rd < 16 → rm < 16
    → 0 < amount → amount ≤ 31 → QuickFits (set_shifted_form kind rn rd rm shift amount)
set_shifted_form-fits Mov rn rd rm shift amount n d m least most = (n, d, m, least, most)
set_shifted_form-fits kind rn rd rm shift amount n d m least most = (n, d, m, least, most)

compare_number_form-fits : (kind : ComputeOp) (rn value : ℕ) (turned : Bool) → rn < 16
    → QuickFits (compare_number_form kind rn value turned)
compare_number_form-fits Sub rn value turned n = n
compare_number_form-fits kind rn value turned n = n

compare_plain_form-fits : (kind : ComputeOp) (rn rm : ℕ) → rn < 16 → rm < 16 → QuickFits (compare_plain_form kind rn rm)
compare_plain_form-fits Sub rn rm n m = (n, m)
compare_plain_form-fits kind rn rm n m = (n, m)

compute_shifted-fits : (whole : ArmOp) (kind : ComputeOp) (set : Bool) (rn rd rm : ℕ) (shift : Shift) (amount : ℕ)
    → Fits whole → rn < 16 → rd < 16 → rm < 16 → amount < 32
    → QuickFits (compute_shifted whole kind set rn rd rm shift amount)
compute_shifted-fits whole kind set rn rd rm shift amount fits n d m a =
    let other = quick.Other whole in
    let plain = if set then set_plain_form kind rn rd rm else plain_form kind rn rd rm in
    let shifts =
    if set then set_shifted_form kind rn rd rm shift amount else quick.Shifted kind rn rd rm shift amount in
    either-fits (rm == 15) other (if amount == 0 then (if is_lsl shift then plain else other) else shifts) fits
    (tested-fits (amount == 0) amount (if is_lsl shift then plain else other) shifts refl
    (either-fits (is_lsl shift) plain other
    (either-fits set (set_plain_form kind rn rd rm) (plain_form kind rn rd rm) (set_plain_form-fits kind rn rd rm n d m)
    (plain_form-fits kind rn rd rm n d m)) fits)
    (λ positive. let most : amount ≤ 31 = omega arith in
    either-fits set (set_shifted_form kind rn rd rm shift amount) (quick.Shifted kind rn rd rm shift amount)
    (set_shifted_form-fits kind rn rd rm shift amount n d m positive most) (n, d, m, positive, most)))

compute_form-fits : (whole : ArmOp) (kind : ComputeOp) (set : Bool) (rn rd : ℕ) (second : Operand) → Fits whole
    → rn < 16 → rd < 16 → Within (operand_registers second) → Within (operand_immediates second)
    → QuickFits (compute_form whole kind set rn rd second)
compute_form-fits whole kind set rn rd (operand.Immediate value turn) fits n d r i =
    let word = rotation value (2 * turn) in
    either-fits set (set_number_form kind rn rd word (not (turn == 0))) (number_form kind rn rd word)
    (set_number_form-fits kind rn rd word (not (turn == 0)) n d)
    (number_form-fits kind rn rd word n d)
compute_form-fits whole kind set rn rd (operand.Fixed rm shift amount) fits n d r i =
    compute_shifted-fits whole kind set rn rd rm shift amount fits n d r.0 i.0
compute_form-fits whole kind set rn rd (operand.ByRegister rm shift rs) fits n d r i = fits

compare_shifted-fits : (whole : ArmOp) (kind : ComputeOp) (rn rm : ℕ) (shift : Shift) (amount : ℕ) → Fits whole
    → rn < 16 → rm < 16 → amount < 32 → QuickFits (compare_shifted whole kind rn rm shift amount)
compare_shifted-fits whole kind rn rm shift amount fits n m a =
    let other = quick.Other whole in
    let plain = compare_plain_form kind rn rm in
    let shifts = quick.CompareShifted kind rn rm shift amount in
    either-fits (rm == 15) other (if amount == 0 then (if is_lsl shift then plain else other) else shifts) fits
    (tested-fits (amount == 0) amount (if is_lsl shift then plain else other) shifts refl
    (either-fits (is_lsl shift) plain other (compare_plain_form-fits kind rn rm n m) fits)
    (λ positive. (n, m, positive, omega arith)))

compare_form-fits : (whole : ArmOp) (kind : ComputeOp) (rn : ℕ) (second : Operand) → Fits whole → rn < 16
    → Within (operand_registers second) → Within (operand_immediates second)
    → QuickFits (compare_form whole kind rn second)
compare_form-fits whole kind rn (operand.Immediate value turn) fits n r i =
    compare_number_form-fits kind rn (rotation value (2 * turn)) (not (turn == 0)) n
compare_form-fits whole kind rn (operand.Fixed rm shift amount) fits n r i =
    compare_shifted-fits whole kind rn rm shift amount fits n r.0 i.0
compare_form-fits whole kind rn (operand.ByRegister rm shift rs) fits n r i = fits

plain_transfer-fits : (load byte : Bool) (rn rd offset : ℕ) → rn < 16 → rd < 16
    → QuickFits (plain_transfer load byte rn rd offset)
plain_transfer-fits true true rn rd offset n d = (n, d)
plain_transfer-fits true false rn rd offset n d = (n, d)
plain_transfer-fits false true rn rd offset n d = (n, d)
plain_transfer-fits false false rn rd offset n d = (n, d)

general_transfer-fits : (load byte : Bool) (one : SingleTransfer) → one.rn < 16 → one.rd < 16
    → QuickFits (general_transfer load byte one)
general_transfer-fits true byte one n d = (n, d)
general_transfer-fits false byte one n d = (n, d)

number_transfer-fits : (load byte : Bool) (one : SingleTransfer) → one.rn < 16 → one.rd < 16
    → QuickFits (number_transfer load byte one)
number_transfer-fits load byte one n d =
    let offset = signed_offset one.up one.distance in
    either-fits (one.pre && not one.write && not (one.rn == 15) && not (one.rd == 15))
    (plain_transfer load byte one.rn one.rd offset) (general_transfer load byte one)
    (plain_transfer-fits load byte one.rn one.rd offset n d) (general_transfer-fits load byte one n d)

half_form-fits : (kind : HalfKind) (one : SingleTransfer) → one.rn < 16 → one.rd < 16 → QuickFits (half_form kind one)
half_form-fits StoreHalf one n d = (n, d)
half_form-fits LoadHalf one n d = (n, d)
half_form-fits LoadSignedByte one n d = (n, d)
half_form-fits LoadSignedHalf one n d = (n, d)

plain-fits : (block : BlockTransfer) → is_plain block ≡ true → IsPlain (plain_of block)
plain-fits block is =
    record {
      present = grind (arith, nat_tests);
      rn = grind (arith, nat_tests);
      some = grind (arith, nat_tests);
      list = grind (arith, nat_tests);
      whole = refl;
    }

plain_block-fits : (load : Bool) (block : BlockTransfer) → is_plain block ≡ true → QuickFits (plain_block load block)
plain_block-fits true block is = plain-fits block is
plain_block-fits false block is = plain-fits block is

general_block-fits : (load : Bool) (block : BlockTransfer) → block.rn < 16 → QuickFits (general_block load block)
general_block-fits true block n = n
general_block-fits false block n = n

block-fits : (load : Bool) (block : BlockTransfer) (plain : Bool) → is_plain block ≡ plain → block.rn < 16
    → QuickFits (if plain then plain_block load block else general_block load block)
block-fits load block true is n = plain_block-fits load block is
block-fits load block false is n = general_block-fits load block n

quick_of-fits : (whole : ArmOp) → Fits whole → QuickFits (quick_of whole)
unfolding quick_of
quick_of-fits (op.Compute cond kind set rn rd second) fits =
    let whole = op.Compute cond kind set rn rd second in
    either-fits (rn == 15 || rd == 15) (quick.Other whole) (compute_form whole kind set rn rd second) fits
    (compute_form-fits whole kind set rn rd second fits fits.registers.0 fits.registers.1.0 fits.registers.1.1
    fits.immediates)
quick_of-fits (op.Compare cond kind rn second) fits =
    let whole = op.Compare cond kind rn second in
    either-fits (rn == 15) (quick.Other whole) (compare_form whole (compute_op_of kind) rn second) fits
    (compare_form-fits whole (compute_op_of kind) rn second fits fits.registers.0 fits.registers.1 fits.immediates)
quick_of-fits (op.Transfer cond load byte pre up write rn rd (transfer_offset.Number distance)) fits =
    number_transfer-fits load byte (record { pre = pre; up = up; write = write; rn = rn; rd = rd; distance = distance })
    fits.registers.0 fits.registers.1.0
quick_of-fits (op.Transfer cond load byte pre up write rn rd (transfer_offset.Shifted rm kind amount)) fits = fits
quick_of-fits (op.Half cond kind pre up write rn rd (half_offset.Number distance)) fits =
    half_form-fits kind (record { pre = pre; up = up; write = write; rn = rn; rd = rd; distance = distance })
    fits.registers.0 fits.registers.1.0
quick_of-fits (op.Half cond kind pre up write rn rd (half_offset.Plain rm)) fits = fits
quick_of-fits (op.Block cond load pre up user write rn list) fits =
    let block : BlockTransfer = record { pre = pre; up = up; user = user; write = write; rn = rn; list = list } in
    block-fits load block (is_plain block) refl fits.registers.0
quick_of-fits (op.Branch cond true offset) fits = tt
quick_of-fits (op.Branch cond false offset) fits = tt
quick_of-fits (op.Exchange cond rm) fits = fits
quick_of-fits (op.Multiply cond accumulate set rd rn rs rm) fits = fits
quick_of-fits (op.MultiplyLong cond signed accumulate set hi lo rs rm) fits = fits
quick_of-fits (op.Swap cond byte rn rd rm) fits = fits
quick_of-fits (op.ReadStatus cond saved rd) fits = fits
quick_of-fits (op.WriteStatus cond saved fields source) fits = fits
quick_of-fits (op.Interrupt cond comment) fits = fits

pub quick_of_word-fits : (one : Option ArmOp) → IfSome one Fits → QuickFits (quick_of_word one)
quick_of_word-fits None fits = tt
quick_of_word-fits (Some whole) fits = quick_of-fits whole fits
