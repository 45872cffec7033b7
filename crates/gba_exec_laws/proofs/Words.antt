-- What is read or computed of words is a word.
use Rattle.std.proofs.Common.{◌≡◌, ◌≢◌, ⊎_elim, ◌⊎◌, inl, inr, ℕ, ◌<◌, ◌≤◌, ◌+◌, ◌-◌, ◌*◌, ◌/◌, ◌%◌, ◌^◌, ◌==◌, Bool, true, false, List, length, get_or, set, ap, sym, ◌∙◌, subst, arith, if◌then◌else◌}
use Rattle.std.specs.Prelude.{bit_and}
use Rattle.std.proofs.lemmas.Bool.{cases_eq, cases_lt}
use Rattle.std.proofs.lemmas.Grind.{get_or-set_at}
use Rattle.std.proofs.lemmas.List.{get_or-set_other, get_or_past, length-set}
use Rattle.std.proofs.lemmas.Nat.{and_le_l, mod_below, mul-add-lt, or_of_32, pow-add, pow_pos, shr_below, shr_le, xor_of_32}
use Rattle.gba_terms.specs.Bits.{bit, field}
use Rattle.gba_word.specs.Extension.{sign_extension}
use Rattle.gba_word.specs.Shifts.{arithmetic_quotient, fixed_shift, immediate_value, nonzero_shift, register_shift, rotation, rotation_with_carry, zero_shift}
use Rattle.gba_word.specs.Sums.{flag_number}
use Rattle.gba_word.specs.declared.kinds.Shift.{Shift}
use Rattle.gba_word.specs.declared.kinds.Shift.TheVariants.{Lsl, Lsr, Asr, Ror}
use Rattle.gba_arm_table.specs.Limits.{Within, operand_immediates}
use Rattle.gba_arm_table.specs.declared.operation.ComputeOp.{ComputeOp}
use Rattle.gba_arm_table.specs.declared.operation.ComputeOp.TheVariants.{And, Eor, Sub, Rsb, Add, Adc, Sbc, Rsc, Orr, Mov, Bic, Mvn}
use Rattle.gba_arm_table.specs.declared.operation.Operand.{Operand}
use Rattle.gba_arm_table.specs.declared.operation.Operand.TheVariants as operand
use Rattle.gba_bus.specs.Meanings.{Load, LoadsFit, Price, Store}
use Rattle.gba_bus.specs.Widths.{aligned}
use Rattle.gba_bus.specs.declared.width.Width.TheVariants as width
use Rattle.gba_psr.specs.Entry.{vector}
use Rattle.gba_psr.specs.Modes.{is_mode, place, saved_place}
use Rattle.gba_psr.specs.RegisterFile.{flags, mode, register, saved_status, status}
use Rattle.gba_psr.specs.Status.{kept_status, mode_of, status_with_flags, written_status}
use Rattle.gba_psr.specs.declared.condition.Flags.{Flags}
use Rattle.gba_psr.specs.declared.exceptions.Exception.{Exception}
use Rattle.gba_psr.specs.declared.exceptions.Exception.TheVariants.{Undefined, Software, Interrupt}
use Rattle.gba_exec_registers.specs.Access.{operand_register}
use Rattle.gba_exec_registers.specs.Multiplying.{long_product, product}
use Rattle.gba_exec_registers.specs.Processing.{complement, operand_counter, operand_of, outcome, outcome_of}
use Rattle.gba_exec_registers.specs.declared.site.Site.{Site}
use Rattle.gba_exec_transfers.specs.Singles.{offset_address, unit_load}
use Rattle.gba_exec_transfers.specs.declared.units.LoadUnit.{LoadUnit}
use Rattle.gba_exec_transfers.specs.declared.units.LoadUnit.TheVariants as unit
use Rattle.gba_exec_laws.specs.Sound.{IsStoredFile}

-- a number written among words
pub set-words : (file : List ℕ) (p value : ℕ) → ((at : ℕ) → get_or file at 0 < 2 ^ 32) → value < 2 ^ 32 → (at : ℕ)
    → get_or (set file p value) at 0 < 2 ^ 32
set-words file p value words word at =
    ⊎_elim (λ (same : at ≡ p). by_length same (cases_lt at (length file)))
    (λ (other : at ≢ p). rw (get_or-set_other file p at value 0 other) (words at)) (cases_eq at p)
  where
    by_length : at ≡ p → (at < length file) ⊎ (length file ≤ at) → get_or (set file p value) at 0 < 2 ^ 32
    by_length same (inl within) = rw (get_or-set_at file p at value 0 same (omega (arith, same, within))) word
    by_length same (inr past) =
        rw (get_or_past (set file p value) at 0 (rw (length-set file p value) past)) (omega arith)

pub either-word : (test : Bool) (one other : ℕ) → one < 2 ^ 32 → other < 2 ^ 32 → (if test then one else other) < 2 ^ 32
either-word true one other here there = here
either-word false one other here there = there

pub remainder-word : (whole : ℕ) → whole % 2 ^ 32 < 2 ^ 32
remainder-word whole = omega arith

-- each register is a word
pub register-word : (file : List ℕ) (number : ℕ) → IsStoredFile file → register file number < 2 ^ 32
unfolding register
register-word file number is = is.words (place (mode file) number)

pub status-word : (file : List ℕ) → IsStoredFile file → status file < 2 ^ 32
unfolding status
status-word file is = is.words 31

pub saved-word : (file : List ℕ) → IsStoredFile file → saved_status file < 2 ^ 32
unfolding saved_status
saved-word file is = is.words (saved_place (mode file))

-- ---- statuses

pub kept-word : (value : ℕ) → kept_status value < 2 ^ 32
kept-word value = omega arith

pub written-word : (old value : ℕ) → written_status old value < 2 ^ 32
written-word old value = by_mode (is_mode (mode_of value))
  where
    by_mode : (test : Bool)
        → field value 28 4 * 2 ^ 28 + field value 5 3 * 2 ^ 5 + (if test then mode_of value else mode_of old) < 2 ^ 32
    by_mode true = omega arith
    by_mode false = omega arith

flag-least : (flag : Bool) → flag_number flag ≤ 1
flag-least true = omega arith
flag-least false = omega arith

pub flagged-word : (old : ℕ) (new : Flags) → status_with_flags old new < 2 ^ 32
flagged-word old new =
    let n = flag-least new.negative in
    let z = flag-least new.zero in
    let c = flag-least new.carry in
    let v = flag-least new.overflow in
    omega (arith, n, z, c, v)

pub vector-word : (kind : Exception) → vector kind < 2 ^ 32
vector-word Undefined = omega arith
vector-word Software = omega arith
vector-word Interrupt = omega arith

-- a target cut to the address of an instruction
pub cut-word : (thumb : Bool) (target : ℕ) → target < 2 ^ 32
    → (if thumb then target - target % 2 else target - target % 4) < 2 ^ 32
cut-word true target word = omega (arith, word)
cut-word false target word = omega (arith, word)

-- ---- shifts

quotient-word : (value amount : ℕ) → value < 2 ^ 32 → value / 2 ^ amount < 2 ^ 32
quotient-word value amount word = let least = shr_le value amount in omega (arith, word, least)

turned-word : (value turn : ℕ) → value < 2 ^ 32 → turn < 32
    → value / 2 ^ turn + value % 2 ^ turn * 2 ^ (32 - turn) < 2 ^ 32
turned-word value turn word within =
    let split : (32 - turn) + turn ≡ 32 = omega (arith, within) in
    let low : value / 2 ^ turn < 2 ^ (32 - turn) =
    shr_below value (32 - turn) turn (subst (λ (j : ℕ). value < 2 ^ j) (sym split) word) in
    let high : value % 2 ^ turn < 2 ^ turn = mod_below value (2 ^ turn) (pow_pos turn) in
    let both : value % 2 ^ turn * 2 ^ (32 - turn) + value / 2 ^ turn < 2 ^ (32 - turn) * 2 ^ turn =
    mul-add-lt (value % 2 ^ turn) (2 ^ (32 - turn)) (value / 2 ^ turn) (2 ^ turn) high low in
    let whole : 2 ^ (32 - turn) * 2 ^ turn ≡ 2 ^ 32 = sym (pow-add 2 (32 - turn) turn) ∙ ap (λ (j : ℕ). 2 ^ j) split in
    omega (arith, both, whole)

rotation-word : (value turn : ℕ) → value < 2 ^ 32 → rotation value turn < 2 ^ 32
rotation-word value turn word = turned-word value (turn % 32) word (mod_below turn 32 (omega arith))

arithmetic-word : (value amount : ℕ) → value < 2 ^ 32 → arithmetic_quotient value amount < 2 ^ 32
arithmetic-word value amount word =
    either-word (bit value 31) (2 ^ 32 - 1 - (2 ^ 32 - 1 - value) / 2 ^ amount) (value / 2 ^ amount) (omega arith)
    (quotient-word value amount word)

nonzero-word : (kind : Shift) (value amount : ℕ) → value < 2 ^ 32 → (nonzero_shift kind value amount).0 < 2 ^ 32
nonzero-word Lsl value amount word = remainder-word _
nonzero-word Lsr value amount word = quotient-word value amount word
nonzero-word Asr value amount word = arithmetic-word value amount word
nonzero-word Ror value amount word = rotation-word value amount word

carried-word : (value : ℕ) (carry : Bool) → value < 2 ^ 32 → (rotation_with_carry value carry).0 < 2 ^ 32
carried-word value carry word = let flag = flag-least carry in omega (arith, word, flag)

zero-word : (kind : Shift) (value : ℕ) (carry : Bool) → value < 2 ^ 32 → (zero_shift kind value carry).0 < 2 ^ 32
zero-word Lsl value carry word = word
zero-word Lsr value carry word = nonzero-word Lsr value 32 word
zero-word Asr value carry word = nonzero-word Asr value 32 word
zero-word Ror value carry word = carried-word value carry word

fixed-word : (kind : Shift) (value amount : ℕ) (carry : Bool) → value < 2 ^ 32
    → (fixed_shift kind value amount carry).0 < 2 ^ 32
fixed-word kind value amount carry word = by_amount (amount == 0)
  where
    by_amount : (test : Bool)
        → (if test then zero_shift kind value carry else nonzero_shift kind value amount).0 < 2 ^ 32
    by_amount true = zero-word kind value carry word
    by_amount false = nonzero-word kind value amount word

by_register-word : (kind : Shift) (value amount : ℕ) (carry : Bool) → value < 2 ^ 32
    → (register_shift kind value amount carry).0 < 2 ^ 32
by_register-word kind value amount carry word = by_amount (amount == 0)
  where
    by_amount : (test : Bool) → (if test then (value, carry) else nonzero_shift kind value amount).0 < 2 ^ 32
    by_amount true = word
    by_amount false = nonzero-word kind value amount word

immediate-word : (value turn : ℕ) (carry : Bool) → value < 256 → (immediate_value value turn carry).0 < 2 ^ 32
immediate-word value turn carry byte = rotation-word value (2 * turn) (omega (arith, byte))

-- ---- results

complement-word : (value : ℕ) → complement value < 2 ^ 32
complement-word value = omega arith

both-word : (a b : ℕ) → a < 2 ^ 32 → bit_and a b < 2 ^ 32
both-word a b word = let least = and_le_l a b in omega (arith, word, least)

outcome_of-word : (kind : ComputeOp) (a b : ℕ) (carry : Bool) (flags : Flags) → a < 2 ^ 32 → b < 2 ^ 32
    → (outcome_of kind a b carry flags).value < 2 ^ 32
outcome_of-word And a b carry flags first second = both-word a b first
outcome_of-word Eor a b carry flags first second = xor_of_32 a b first second
outcome_of-word Sub a b carry flags first second = remainder-word _
outcome_of-word Rsb a b carry flags first second = remainder-word _
outcome_of-word Add a b carry flags first second = remainder-word _
outcome_of-word Adc a b carry flags first second = remainder-word _
outcome_of-word Sbc a b carry flags first second = remainder-word _
outcome_of-word Rsc a b carry flags first second = remainder-word _
outcome_of-word Orr a b carry flags first second = or_of_32 a b first second
outcome_of-word Mov a b carry flags first second = second
outcome_of-word Bic a b carry flags first second = both-word a (complement b) first
outcome_of-word Mvn a b carry flags first second = complement-word b

pub offset-word : (up : Bool) (base distance : ℕ) → offset_address up base distance < 2 ^ 32
offset-word true base distance = remainder-word _
offset-word false base distance = remainder-word _

-- the low byte or halfword of a word that is read, extended by its sign
extension-word : (byte : Bool) (value : ℕ) → sign_extension value (if byte then 8 else 16) < 2 ^ 32
extension-word true value =
    either-word (bit value 7) (value % 2 ^ 8 + (2 ^ 32 - 2 ^ 8)) (value % 2 ^ 8) (omega arith) (omega arith)
extension-word false value =
    either-word (bit value 15) (value % 2 ^ 16 + (2 ^ 32 - 2 ^ 16)) (value % 2 ^ 16) (omega arith) (omega arith)

-- ---- what an operation computes of a register file

pub operand-word : (file : List ℕ) (counter number : ℕ) → IsStoredFile file → counter < 2 ^ 32
    → operand_register file counter number < 2 ^ 32
unfolding operand_register
operand-word file counter number is word =
    either-word (number == 15) counter (register file number) word (register-word file number is)

counter-word : (one : Operand) (site : Site) → operand_counter one site < 2 ^ 32
counter-word (operand.Immediate value turn) site = remainder-word _
counter-word (operand.Fixed rm kind amount) site = remainder-word _
counter-word (operand.ByRegister rm kind rs) site = remainder-word _

shifted-word : (one : Operand) (counter : ℕ) (carry : Bool) (file : List ℕ) → Within (operand_immediates one)
    → IsStoredFile file → counter < 2 ^ 32 → (operand_of one counter carry file).0 < 2 ^ 32
unfolding operand_of
shifted-word (operand.Immediate value turn) counter carry file fits is word = immediate-word value turn carry fits.1.0
shifted-word (operand.Fixed rm kind amount) counter carry file fits is word =
    fixed-word kind (operand_register file counter rm) amount carry (operand-word file counter rm is word)
shifted-word (operand.ByRegister rm kind rs) counter carry file fits is word =
    by_register-word kind (operand_register file counter rm) (field (operand_register file counter rs) 0 8) carry
    (operand-word file counter rm is word)

pub outcome-word : (kind : ComputeOp) (rn : ℕ) (one : Operand) (site : Site) (file : List ℕ)
    → Within (operand_immediates one) → IsStoredFile file → (outcome kind rn one site file).value < 2 ^ 32
unfolding outcome
outcome-word kind rn one site file fits is =
    let r15 = operand_counter one site in
    let word = counter-word one site in
    let second = operand_of one r15 (flags file).carry file in
    outcome_of-word kind (operand_register file r15 rn) second.0 second.1 (flags file)
    (operand-word file r15 rn is word) (shifted-word one r15 (flags file).carry file fits is word)

pub product-word : (accumulate : Bool) (rn rs rm : ℕ) (site : Site) (file : List ℕ)
    → product accumulate rn rs rm site file < 2 ^ 32
unfolding product
product-word accumulate rn rs rm site file = remainder-word _

pub long_product-wide : (signed accumulate : Bool) (hi lo rs rm : ℕ) (site : Site) (file : List ℕ)
    → long_product signed accumulate hi lo rs rm site file < 2 ^ 64
unfolding long_product
long_product-wide signed accumulate hi lo rs rm site file = mod_below _ (2 ^ 64) (omega arith)

module _ {State : Type 0} (price : Price State) (load : Load State) (store : Store State) (fit : LoadsFit load) where
  -- what a load gives to Rd
  pub unit_load-word : (kind : LoadUnit) (site : Site) (address : ℕ) (bus : State)
      → (unit_load price load store kind site address bus).value < 2 ^ 32
  unfolding unit_load
  unit_load-word unit.Word site address bus =
      rotation-word (load bus site.address (aligned width.Word address) width.Word false).value (8 * (address % 4))
      (fit bus site.address (aligned width.Word address) width.Word false)
  unit_load-word unit.Byte site address bus =
      let byte = fit bus site.address (aligned width.Byte address) width.Byte false in omega (arith, byte)
  unit_load-word unit.Half site address bus =
      let half = fit bus site.address (aligned width.Half address) width.Half false in
      rotation-word (load bus site.address (aligned width.Half address) width.Half false).value (8 * (address % 2))
      (omega (arith, half))
  unit_load-word unit.SignedByte site address bus =
      extension-word true (load bus site.address (aligned width.Byte address) width.Byte false).value
  unit_load-word unit.SignedHalf site address bus =
      let wide = if address % 2 == 1 then width.Byte else width.Half in
      extension-word (address % 2 == 1) (load bus site.address (aligned wide address) wide false).value
