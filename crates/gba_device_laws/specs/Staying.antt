-- What leaves the numbers of a board's devices at their rules.
use Rattle.std.specs.Prelude.{ℕ, ◌<◌, Bool}
use Rattle.gba_devices.specs.Cycles.{device_cycle}
use Rattle.gba_devices.specs.Registers.{keyed, whole_written}
use Rattle.gba_devices.specs.State.{Devices, after_dma_unit, begun, devices_at_reset, rested, woken}
use Rattle.gba_irq.specs.Interrupts.{with_request_if}
use Rattle.gba_device_laws.specs.Holding.{DevicesHold}
use Rattle.gba_sound.specs.Queues.{after_word}

-- They keep to their rules at reset, and after whatever comes to them: a write of a halfword, a word for a sound queue,
-- a cycle, the end of a unit of a DMA channel, keys that are pressed, the end of a transfer, the start of a step,
-- cycles in which no device moves, the end of a halt.
pub record DevicesStay : Type 0 where
  pub reset : DevicesHold devices_at_reset
  pub half : (offset value lanes : ℕ) (d : Devices) → DevicesHold d → DevicesHold (whole_written offset value lanes d)
  pub word : (number word : ℕ) (d : Devices) → DevicesHold d
      → DevicesHold (record d { sound = after_word number word d.sound })
  pub cycle : (d : Devices) → DevicesHold d → DevicesHold (device_cycle d)
  pub unit : (number : ℕ) (d : Devices) → number < 4 → DevicesHold d → DevicesHold (after_dma_unit number d)
  pub keys : (pressed : ℕ) (d : Devices) → DevicesHold d → DevicesHold (keyed pressed d)
  pub transfer : (asked : Bool) (d : Devices) → DevicesHold d
      → DevicesHold (record d { interrupts = with_request_if asked 7 d.interrupts })
  pub begins : (d : Devices) → DevicesHold d → DevicesHold (begun d)
  pub rests : (cycles : ℕ) (d : Devices) → DevicesHold d → DevicesHold (rested cycles d)
  pub wakes : (d : Devices) → DevicesHold d → DevicesHold (woken d)
