use Rattle.std.specs.Prelude.{ℕ, Bool, true, false, List, ◌&&◌, ◌||◌, ◌+◌, ◌-◌, ◌*◌, ◌/◌, ◌%◌, ◌^◌, ◌==◌, if◌then◌else◌}
use Rattle.gba_terms.specs.Bits.{bit, field}
use Rattle.gba_psr.specs.RegisterFile.{flags, with_flags}
use Rattle.gba_psr.specs.declared.condition.Flags.{Flags}
use Rattle.gba_exec_registers.specs.Access.{counter, operand_register, with_result, refill_cost}
use Rattle.gba_exec_registers.specs.declared.site.Site.{Site}

-- N and Z of a product; C and V stay (ARM Architecture Reference Manual, A4.1; that C stays is this project's profile)
abbrev pub product_flags : Bool → Bool → List ℕ → Flags
product_flags negative zero file =
    record { negative = negative; zero = zero; carry = (flags file).carry; overflow = (flags file).overflow }

-- the low 32 bits of Rm times Rs, plus Rn where it accumulates
unfoldable pub product : Bool → ℕ → ℕ → ℕ → Site → List ℕ → ℕ
product accumulate rn rs rm site file =
    let value : ℕ → ℕ = λ number. operand_register file (counter site) number in
    (value rm * value rs + (if accumulate then value rn else 0)) % 2 ^ 32

-- MUL and MLA (ARM Architecture Reference Manual, A4.1): the flags where S is set, and Rd
unfoldable pub with_product : Bool → ℕ → ℕ → List ℕ → List ℕ
with_product set rd value file =
    if set then with_result (with_flags file (product_flags (bit value 31) (value == 0) file)) rd value
    else with_result file rd value

-- a word as a number of 64 bits, extended by its sign or by zeros
abbrev pub extension : Bool → ℕ → ℕ
extension signed value = if signed && bit value 31 then value + (2 ^ 64 - 2 ^ 32) else value

-- the low 64 bits of Rm times Rs, plus the number in hi and lo where it accumulates
unfoldable pub long_product : Bool → Bool → ℕ → ℕ → ℕ → ℕ → Site → List ℕ → ℕ
long_product signed accumulate hi lo rs rm site file =
    let value : ℕ → ℕ = λ number. operand_register file (counter site) number in
    (extension signed (value rm) * extension signed (value rs)
    + (if accumulate then value hi * 2 ^ 32 + value lo else 0))
    % 2 ^ 64

-- the two halves written, the low one first: a register that is both ends with the high half
abbrev pub with_halves : ℕ → ℕ → ℕ → List ℕ → List ℕ
with_halves hi lo value file = with_result (with_result file lo (value % 2 ^ 32)) hi (value / 2 ^ 32)

-- UMULL, UMLAL, SMULL, SMLAL (ARM Architecture Reference Manual, A4.1)
unfoldable pub with_long_product : Bool → ℕ → ℕ → ℕ → List ℕ → List ℕ
with_long_product set hi lo value file =
    if set then with_halves hi lo value (with_flags file (product_flags (bit value 63) (value == 0) file))
    else with_halves hi lo value file

-- whether all bits from `low` up are 0, or are all 1 where the multiplier is signed
abbrev pub is_short : Bool → ℕ → ℕ → Bool
is_short signed value low =
    field value low (32 - low) == 0 || (signed && field value low (32 - low) == 2 ^ (32 - low) - 1)

-- the cycles of the multiplier, by its leading bytes (ARM7TDMI Technical Reference Manual, multiply)
unfoldable pub multiplier_cycles : Bool → ℕ → ℕ
multiplier_cycles signed value =
    if is_short signed value 8 then 1
    else if is_short signed value 16 then 2
    else if is_short signed value 24 then 3
    else 4

-- 1S and m, or m + 1 where it accumulates, and 1S + 1N where r15 is written
abbrev pub multiply_cost : Bool → ℕ → ℕ → Site → List ℕ → (Bool → ℕ) → ℕ
multiply_cost accumulate rd rs site file code =
    code true + multiplier_cycles true (operand_register file (counter site) rs)
    + (if accumulate then 1 else 0) + refill_cost rd code

-- the same with one cycle more, and 1S + 1N where either half goes to r15
abbrev pub multiply_long_cost : Bool → Bool → ℕ → ℕ → ℕ → Site → List ℕ → (Bool → ℕ) → ℕ
multiply_long_cost signed accumulate hi lo rs site file code =
    code true + multiplier_cycles signed (operand_register file (counter site) rs) + 1
    + (if accumulate then 1 else 0) + (if hi == 15 || lo == 15 then code true + code false else 0)
