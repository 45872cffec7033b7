use Rattle.std.specs.Prelude.{ℕ, Bool, not, ◌+◌, if◌then◌else◌}
use Rattle.gba_dma.specs.declared.unit.Unit.{Unit as DmaUnit}
use Rattle.gba_devices.specs.State.{after_dma_unit}
use Rattle.gba_io.specs.Bus.{core_price, core_read, core_written}
use Rattle.gba_io.specs.Core.{Core}

-- A DMA unit (GBATEK, GBA DMA Transfers): it reads at its source and writes at its target, and then its channel moves
-- on. The BIOS reads 0 to it, as it does to an instruction that stands anywhere else.
abbrev pub outside_bios : ℕ
outside_bios = 0x4000

abbrev pub unit_value : DmaUnit → Core → ℕ
unit_value unit b = core_read b outside_bios unit.source unit.width

abbrev pub unit_written : DmaUnit → Core → Core
unit_written unit b = core_written b unit.target unit.width (unit_value unit b)

abbrev pub unit_ended : ℕ → Core → Core
unit_ended channel b = record b { devices = after_dma_unit channel b.devices }

unfoldable pub core_after_unit : DmaUnit → Core → Core
core_after_unit unit b = unit_ended unit.channel (unit_written unit b)

-- It costs its two accesses, which are non-sequential in the first unit of a run and sequential after it, and the first
-- unit 2 cycles more (this project's profile).
abbrev pub start_cycles : Bool → ℕ
start_cycles first = if first then 2 else 0

abbrev pub unit_cycles : DmaUnit → Core → ℕ
unit_cycles unit b =
    core_price b unit.source unit.width (not unit.first) + core_price b unit.target unit.width (not unit.first)
    + start_cycles unit.first
