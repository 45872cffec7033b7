use Rattle.std.specs.Prelude.{ℕ, true, List, ◌+◌, ◌%◌, ◌^◌}
use Rattle.gba_bus.specs.Meanings.{Load, Price, Store}
use Rattle.gba_exec_registers.specs.declared.site.Site.{Site}
use Rattle.gba_exec_transfers.specs.Done.{Done}
use Rattle.gba_psr.specs.RegisterFile.{register, with_register}
use Rattle.gba_thumb_exec.specs.Effects.{effect_of_half}
use Rattle.gba_thumb_table.specs.Table.{operation}

-- where a halfword in Thumb state stands: at the address in r15
abbrev pub site_of : List ℕ → Site
site_of file = record { address = register file 15; thumb = true }

-- the registers while a halfword executes: r15 is the address of the next instruction
abbrev pub with_next : List ℕ → List ℕ
with_next file = with_register file 15 ((register file 15 + 2) % 2 ^ 32)

-- A halfword executed in Thumb state. r15 is first the halfword's own address, and then that of the next instruction
-- (ARM Architecture Reference Manual, A6.2).
unfoldable pub execution : {State : Type 0} → Price State → Load State → Store State → ℕ → List ℕ → State → Done State
execution price load store half file bus =
    effect_of_half price load store (operation half) (site_of file) (with_next file) bus
