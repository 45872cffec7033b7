-- What a step keeps of a core.
use Rattle.std.proofs.Common.{ℕ, ◌<◌, ◌≤◌, zero, suc, Bool, true, false, List, [], ◌∷◌, if◌then◌else◌}
use Rattle.std.specs.Prelude.{All, Option, None, Some, nat_le}
use Rattle.std.proofs.lemmas.List.Elements.{All-head, All-tail}
use Rattle.gba_bus.specs.Regions.{is_io, region_of}
use Rattle.gba_bus.specs.declared.width.Width.{Width}
use Rattle.gba_terms.specs.Bits.{field}
use Rattle.gba_device_laws.specs.Cable.{SerialHolds, SerialStays, last_clock}
use Rattle.gba_device_laws.specs.Holding.{DevicesHold, HasBytes}
use Rattle.gba_device_laws.specs.Staying.{DevicesStay}
use Rattle.gba_devices.specs.Cycles.{after_cycles}
use Rattle.gba_devices.specs.Keeping.{WritesKeep}
use Rattle.gba_devices.specs.Registers.{half_kept, half_written, io_written, keyed, queue_of, written_in}
use Rattle.gba_devices.specs.State.{Devices, after_dma_unit}
use Rattle.gba_io.specs.Bus.{core_written, io_offset, register_written}
use Rattle.gba_io.specs.Cable.{asks_interrupt, board_ended, board_taken, core_ended, core_heard}
use Rattle.gba_io.specs.Core.{Core, core_begun, core_keyed, core_learned, core_woken}
use Rattle.gba_io.specs.SerialRegisters.{is_serial, serial_put, serial_written_at}
use Rattle.gba_io.specs.Units.{unit_ended}
use Rattle.gba_io.specs.declared.board.Board.{Board}
use Rattle.gba_mem.specs.BackupLaw.{BackupsStaySound, IsSoundBackup}
use Rattle.gba_ppu_reg.specs.Registers.{picture_mode}
use Rattle.gba_register.proofs.Accesses.{written-keeps}
use Rattle.gba_register.specs.Accesses.{merged}
use Rattle.gba_serial.specs.End.{ending}
use Rattle.gba_serial.specs.Registers.{serial_kept}
use Rattle.gba_serial.specs.SerialUnit.{SerialUnit}
use Rattle.link_node.specs.declared.signal.Incoming.{Incoming}
use Rattle.gba_console.specs.Keys.{after_keys}
use Rattle.gba_console.specs.declared.keys.KeyState.{KeyState}
use Rattle.gba_console.specs.Step.{acted, all_learned, all_taken}
use Rattle.gba_run_laws.specs.Holding.{MemoriesHold}
use Rattle.gba_run_laws.proofs.Acting.{acted-keeps}
use Rattle.gba_run_laws.proofs.Memories.{store-holds}

-- signals of steps at clocks of a run
abbrev pub AreNear : List Incoming → Type 0
AreNear dues = All (λ due. due.signal.clock ≤ last_clock) dues

-- a core at a clock of a run
pub record CoreHolds (b : Core) : Type 0 where
  pub near : b.devices.clock ≤ last_clock
  pub memories : MemoriesHold b.memory
  pub lines : All (HasBytes 480) b.lines
  pub backup : IsSoundBackup b.memory.backup
  pub devices : DevicesHold b.devices
  pub serial : SerialHolds b.serial

either-core : (test : Bool) (one other : Core) → CoreHolds one → CoreHolds other
    → CoreHolds (if test then one else other)
either-core true one other here there = here
either-core false one other here there = there

module _ (backups : BackupsStaySound) (devices : DevicesStay) (serial : SerialStays) (writes : WritesKeep) where
  -- a write of a register of the devices
  half-holds : (offset value lanes : ℕ) (d : Devices) → DevicesHold d → DevicesHold (half_written offset value lanes d)
  half-holds offset value lanes d holds = devices.half offset (merged (half_kept offset d) value lanes) lanes d holds

  into-holds : (queue : Option ℕ) (offset : ℕ) (width : Width) (value : ℕ) (d : Devices) → DevicesHold d
      → DevicesHold (written_in queue offset width value d)
  into-holds (Some queue) offset width value d holds = devices.word queue (field value 0 32) d holds
  into-holds None offset width value d holds =
      written-keeps DevicesHold half_written half-holds offset width value d holds

  io-holds : (offset : ℕ) (width : Width) (value : ℕ) (d : Devices) → DevicesHold d
      → DevicesHold (io_written offset width value d)
  io-holds offset width value d holds = into-holds (queue_of offset width) offset width value d holds

  -- and of the serial unit
  put-holds : (clock : ℕ) → clock ≤ last_clock → (offset value lanes : ℕ) (u : SerialUnit) → SerialHolds u
      → SerialHolds (serial_put clock offset value lanes u)
  unfolding serial_put
  put-holds clock near offset value lanes u holds =
      serial.write clock offset (merged (serial_kept offset u) value lanes) u near holds

  cable-holds : (clock : ℕ) → clock ≤ last_clock → (offset : ℕ) (width : Width) (value : ℕ) (u : SerialUnit)
      → SerialHolds u → SerialHolds (serial_written_at clock offset width value u)
  cable-holds clock near offset width value u holds =
      written-keeps SerialHolds (serial_put clock) (put-holds clock near) offset width value u holds

  register-holds : (offset : ℕ) (width : Width) (value : ℕ) (b : Core) → CoreHolds b
      → CoreHolds (register_written offset width value b)
  unfolding register_written
  register-holds offset width value b holds =
      either-core (is_serial offset) _ _
      (record {
        near = holds.near;
        memories = holds.memories;
        lines = holds.lines;
        backup = holds.backup;
        devices = holds.devices;
        serial = cable-holds b.devices.clock holds.near offset width value b.serial holds.serial;
      })
      (record {
        near = rw (writes.clock offset width value b.devices) holds.near;
        memories = holds.memories;
        lines = holds.lines;
        backup = holds.backup;
        serial = holds.serial;
        devices = io-holds offset width value b.devices holds.devices;
      })

  written-holds : (b : Core) (address : ℕ) (width : Width) (value : ℕ) → CoreHolds b
      → CoreHolds (core_written b address width value)
  unfolding core_written
  written-holds b address width value holds =
      either-core (is_io (region_of address)) _ _ (register-holds (io_offset address) width value b holds)
      (record {
        near = holds.near;
        devices = holds.devices;
        serial = holds.serial;
        lines = holds.lines;
        memories = store-holds (picture_mode b.devices.picture) b.memory address width value holds.memories;
        backup = (backups (picture_mode b.devices.picture) b.memory address width value holds.backup).sound;
      })

  woken-holds : (b : Core) → CoreHolds b → CoreHolds (core_woken b)
  woken-holds b holds = record {
    near = holds.near;
    memories = holds.memories;
    lines = holds.lines;
    backup = holds.backup;
    serial = holds.serial;
    devices = devices.wakes b.devices holds.devices;
  }

  unit-holds : (channel : ℕ) (b : Core) → channel < 4 → CoreHolds b → CoreHolds (unit_ended channel b)
  unfolding after_dma_unit
  unit-holds channel b few holds = record {
    near = holds.near;
    memories = holds.memories;
    lines = holds.lines;
    backup = holds.backup;
    serial = holds.serial;
    devices = devices.unit channel b.devices few holds.devices;
  }

  pub after-acted : (file : List ℕ) (b : Core) → CoreHolds b → CoreHolds (acted file b).bus
  after-acted = acted-keeps CoreHolds written-holds woken-holds unit-holds

  -- keys
  pub after-keys : (clock : ℕ) (changes : List KeyState) (b : Core) → CoreHolds b
      → CoreHolds (after_keys clock changes b)
  unfolding after_keys keyed
  after-keys clock [] b holds = holds
  after-keys clock (change ∷ changes) b holds =
      either-core (nat_le change.clock clock) (after_keys clock changes (core_keyed change.keys b)) b
      (after-keys clock changes (core_keyed change.keys b) (record {
        near = keyed-clock;
        memories = holds.memories;
        lines = holds.lines;
        backup = holds.backup;
        serial = holds.serial;
        devices = devices.keys change.keys b.devices holds.devices;
      })) holds
    where
      keyed-clock : (core_keyed change.keys b).devices.clock ≤ last_clock
      keyed-clock = holds.near

  -- signals
  pub begun-holds : (b : Core) → CoreHolds b → CoreHolds (core_begun b)
  begun-holds b holds = record {
    near = holds.near;
    memories = holds.memories;
    lines = holds.lines;
    backup = holds.backup;
    devices = devices.begins b.devices holds.devices;
    serial = serial.told b.serial holds.serial;
  }

  ended-holds : (clock : ℕ) (b : Core) → CoreHolds b → CoreHolds (core_ended clock b)
  ended-holds clock b holds = record {
    near = holds.near;
    memories = holds.memories;
    lines = holds.lines;
    backup = holds.backup;
    devices = devices.transfer (asks_interrupt (ending clock b.serial)) b.devices holds.devices;
    serial = serial.ended clock b.serial holds.serial;
  }

  heard-holds : (due : Incoming) (b : Core) → due.signal.clock ≤ last_clock → CoreHolds b → CoreHolds (core_heard due b)
  heard-holds due b near holds = record {
    near = holds.near;
    memories = holds.memories;
    lines = holds.lines;
    backup = holds.backup;
    devices = holds.devices;
    serial = serial.taken due b.serial near holds.serial;
  }

  pub after-taking : (dues : List Incoming) (b : Board) → AreNear dues → CoreHolds b.core
      → CoreHolds (all_taken dues b).core
  after-taking [] b near holds = holds
  after-taking (due ∷ dues) b near holds =
      after-taking dues (board_taken due b) (All-tail (λ one. one.signal.clock ≤ last_clock) due dues near)
      (heard-holds due (core_ended due.arrival b.core) (All-head (λ one. one.signal.clock ≤ last_clock) due dues near)
      (ended-holds due.arrival b.core holds))

  learned-holds : (due : Incoming) (b : Core) → CoreHolds b → CoreHolds (core_learned due b)
  learned-holds due b holds = record {
    near = holds.near;
    memories = holds.memories;
    lines = holds.lines;
    backup = holds.backup;
    devices = holds.devices;
    serial = serial.learned due b.serial holds.serial;
  }

  pub after-learning : (dues : List Incoming) (b : Core) → CoreHolds b → CoreHolds (all_learned dues b)
  after-learning [] b holds = holds
  after-learning (due ∷ dues) b holds = after-learning dues (core_learned due b) (learned-holds due b holds)

  -- cycles
  pub after-cycles : (count : ℕ) (d : Devices) → DevicesHold d → DevicesHold (after_cycles count d)
  unfolding after_cycles
  after-cycles zero d holds = holds
  after-cycles (suc count) d holds = devices.cycle (after_cycles count d) (after-cycles count d holds)

  pub heard-core : (clock : ℕ) (dues : List Incoming) (b : Board) → AreNear dues → CoreHolds b.core
      → CoreHolds (board_ended clock (all_taken dues b)).core
  heard-core clock dues b near holds = ended-holds clock (all_taken dues b).core (after-taking dues b near holds)
