use Rattle.std.specs.Prelude.{ℕ, Bool, List, ◌+◌, ◌-◌, ◌*◌, ◌%◌, ◌^◌, ◌==◌, true, false, if◌then◌else◌}
use Rattle.gba_terms.specs.Bits.{bit}
use Rattle.gba_bus.specs.Meanings.{Price}
use Rattle.gba_bus.specs.declared.width.Width.{Width}
use Rattle.gba_bus.specs.declared.width.Width.TheVariants.{Half, Word}
use Rattle.gba_psr.specs.RegisterFile.{status, register, with_register}
use Rattle.gba_exec_registers.specs.declared.site.Site.{Site}

-- r15 as an operand: the instruction's address plus 8, in Thumb state plus 4 (ARM Architecture Reference Manual, A2.3)
abbrev pub counter : Site → ℕ
counter site = (site.address + (if site.thumb then 4 else 8)) % 2 ^ 32

-- r15 where it is stored, and in an instruction whose amount of shift is a register: the address plus 12
-- (ARM7TDMI Technical Reference Manual; that STM and Thumb state store it so too is this project's profile)
abbrev pub late_counter : Site → ℕ
late_counter site = (site.address + 12) % 2 ^ 32

-- register `number` as an operand, where r15 reads as `counter`
unfoldable pub operand_register : List ℕ → ℕ → ℕ → ℕ
operand_register file counter number = if number == 15 then counter else register file number

-- A jump: r15 takes the target with the low bit cleared in Thumb state, and the low two bits in ARM state
-- (ARM Architecture Reference Manual, A2.3).
unfoldable pub after_jump : List ℕ → ℕ → List ℕ
after_jump file target =
    with_register file 15 (if bit (status file) 5 then target - target % 2 else target - target % 4)

-- a result written to a register; to r15 it is a jump
unfoldable pub with_result : List ℕ → ℕ → ℕ → List ℕ
with_result file number value = if number == 15 then after_jump file value else with_register file number value

-- an instruction's code accesses are a word, in Thumb state a halfword, at its own address
abbrev pub code_width : Site → Width
code_width site = if site.thumb then Half else Word

-- The price of one code access of an instruction, by whether the access is sequential: what the manual's cycle tables
-- call 1S and 1N (ARM7TDMI Technical Reference Manual, instruction cycle timings).
abbrev pub code_cost : {State : Type 0} → Price State → State → Site → Bool → ℕ
code_cost price bus site sequential = price bus site.address (code_width site) sequential

-- 1S + 1N more where the instruction writes r15
abbrev pub refill_cost : ℕ → (Bool → ℕ) → ℕ
refill_cost number code = if number == 15 then code true + code false else 0

-- 2S + 1N, what each jump costs
abbrev pub jump_cost : (Bool → ℕ) → ℕ
jump_cost code = 2 * code true + code false
