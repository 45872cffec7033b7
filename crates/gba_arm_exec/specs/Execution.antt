use Rattle.std.specs.Prelude.{ℕ, true, false, List, ◌+◌, ◌%◌, ◌^◌, if◌then◌else◌}
use Rattle.gba_terms.specs.Bits.{field}
use Rattle.gba_arm_table.specs.Numbers.{condition_of}
use Rattle.gba_arm_table.specs.Table.{operation}
use Rattle.gba_bus.specs.Meanings.{Load, Price, Store}
use Rattle.gba_psr.specs.RegisterFile.{flags, register, with_register}
use Rattle.gba_exec_registers.specs.Access.{code_cost}
use Rattle.gba_exec_registers.specs.Conditions.{holds}
use Rattle.gba_exec_registers.specs.declared.site.Site.{Site}
use Rattle.gba_exec_transfers.specs.Done.{Done}
use Rattle.gba_exec_transfers.specs.Effects.{effect_of_word, internal}

-- where a word in ARM state stands: at the address in r15
abbrev pub site_of : List ℕ → Site
site_of file = record { address = register file 15; thumb = false }

-- the registers while a word executes: r15 is the address of the next instruction
abbrev pub with_next : List ℕ → List ℕ
with_next file = with_register file 15 ((register file 15 + 4) % 2 ^ 32)

-- A word executed in ARM state. r15 is first the word's own address, and then that of the next instruction. The
-- condition, bits 31 to 28, is tested before all else; where it doesn't hold, the word costs 1S
-- (ARM Architecture Reference Manual, A3.2; ARM7TDMI Technical Reference Manual, unexecuted instructions).
unfoldable pub execution : {State : Type 0} → Price State → Load State → Store State → ℕ → List ℕ → State → Done State
execution price load store word file bus =
    if holds (condition_of (field word 28 4)) (flags (with_next file))
    then effect_of_word price load store (operation word) (site_of file) (with_next file) bus
    else internal price load store bus (with_next file) (code_cost price bus (site_of file) true)
