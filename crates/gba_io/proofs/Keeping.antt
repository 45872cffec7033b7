use Rattle.std.proofs.Common.{◌≡◌, ℕ, Bool, true, false, refl, if◌then◌else◌}
use Rattle.gba_bus.specs.Regions.{is_io, region_of}
use Rattle.gba_bus.specs.declared.width.Width.{Width}
use Rattle.gba_devices.specs.Keeping.{WritesKeep}
use Rattle.gba_devices.specs.State.{Devices, after_dma_unit}
use Rattle.gba_io.specs.Core.{Core}
use Rattle.gba_io.specs.Bus.{core_written, io_offset, register_written}
use Rattle.gba_io.specs.SerialRegisters.{is_serial}
use Rattle.gba_io.specs.Keeping.{IsSameTime, WritesKeepTime}

-- What writes keep of a core.

either-time : (test : Bool) (b one other : Core) → IsSameTime b one → IsSameTime b other
    → IsSameTime b (if test then one else other)
either-time true b one other here there = here
either-time false b one other here there = there

register-keeps-time : WritesKeep → (offset : ℕ) (width : Width) (value : ℕ) (b : Core)
    → IsSameTime b (register_written offset width value b)
unfolding register_written
register-keeps-time keep offset width value b =
    either-time (is_serial offset) b _ _
    (record { clock = refl; place = refl; lines = refl })
    (record {
      clock = keep.clock offset width value b.devices;
      place = keep.place offset width value b.devices;
      lines = refl;
    })

pub writes-keep-time : WritesKeep → WritesKeepTime
unfolding core_written
writes-keep-time keep b address width value =
    either-time (is_io (region_of address)) b _ _
    (register-keeps-time keep (io_offset address) width value b)
    (record { clock = refl; place = refl; lines = refl })

-- the end of a DMA unit keeps the prices of this step and the clock
pub unit-keeps-priced : (channel : ℕ) (d : Devices) → (after_dma_unit channel d).priced ≡ d.priced
unfolding after_dma_unit
unit-keeps-priced channel d = refl

pub unit-keeps-clock : (channel : ℕ) (d : Devices) → (after_dma_unit channel d).clock ≡ d.clock
unfolding after_dma_unit
unit-keeps-clock channel d = refl
