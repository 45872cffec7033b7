-- The rules to which a console keeps in each run.
use Rattle.std.specs.Prelude.{◌≡◌, ℕ, zero, suc, ◌+◌, ◌*◌, ◌%◌, ◌^◌, ◌<◌, ◌≤◌, true, All, List, Option, Some, slice_index_or}
use Rattle.gba_terms.specs.Bytes.{AreBytes}
use Rattle.gba_console.specs.Counted.{Counts, KeepsKinds}
use Rattle.gba_console.specs.Keys.{due_count}
use Rattle.gba_console.specs.Machine.{Machine, clock_of, reset}
use Rattle.gba_console.specs.Step.{stepped}
use Rattle.gba_console.specs.declared.keys.KeyState.{KeyState}
use Rattle.gba_device_laws.specs.Cable.{SerialHolds, last_clock}
use Rattle.gba_device_laws.specs.Holding.{DevicesHold, HasBytes}
use Rattle.gba_exec_laws.specs.Sound.{IsSoundFile}
use Rattle.gba_image.specs.Backups.{backup_length}
use Rattle.gba_image.specs.declared.backup.Backup.{Backup}
use Rattle.gba_io.specs.declared.made.Room.{Room}
use Rattle.gba_mem.specs.BackupLaw.{IsSoundBackup}
use Rattle.gba_mem.specs.Backups.{backup_bytes, backup_of}
use Rattle.gba_mem.specs.Memories.{Memories}
use Rattle.gba_serial.specs.Apart.{next_end}
use Rattle.gba_serial.specs.Making.{seat_of}
use Rattle.gba_serial.specs.SerialUnit.{is_running}
use Rattle.link_node.specs.Due.{InOrder, IsDue}
use Rattle.link_node.specs.declared.signal.Incoming.{Incoming}

-- Each memory has its bytes (GBATEK, GBA Memory Map).
pub record MemoriesHold (m : Memories) : Type 0 where
  pub work : HasBytes 0x40000 m.work
  pub inner : HasBytes 0x8000 m.inner
  pub palette : HasBytes 0x400 m.palette
  pub vram : HasBytes 0x18000 m.vram
  pub oam : HasBytes 0x400 m.oam
  pub backup : AreBytes (backup_bytes m.backup)

-- The keys that are pressed once so many changes are applied to others (GBATEK, GBA Keypad Input: ten keys).
abbrev pub keys_after : ℕ → List KeyState → ℕ → ℕ
keys_after zero changes before = before
keys_after (suc count) changes before = (slice_index_or changes count (record { clock = 0; keys = 0 })).keys % 2 ^ 10

-- The changes of the keys that are applied are those that were due when the last step began, if there was one, and the
-- last of them says which keys are pressed.
pub record ChangesHold (m : Machine) : Type 0 where
  pub within : m.applied ≤ due_count (clock_of m) m.keys
  pub due : m.was < clock_of m → m.applied ≡ due_count m.was m.keys
  pub pressed : m.board.core.devices.keys.pressed ≡ keys_after m.applied m.keys 0

-- What it has counted: no more frames and pairs than cycles, and transfers that took 512 cycles each, of which the next
-- one takes as many.
pub record CountsHold (m : Machine) : Type 0 where
  pub frames : m.board.made.frame_count ≤ clock_of m
  pub pairs : m.board.made.pairs ≤ clock_of m
  pub past : 512 * m.board.ended.count ≤ m.was
  pub next : 512 * (m.board.ended.count + 1) ≤ next_end m.board.core.serial

-- A console. A drawn line has 240 colours of two bytes, and a transfer runs only while the console is on.
pub record Holds (m : Machine) : Type 0 where
  pub registers : IsSoundFile m.registers
  pub memories : MemoriesHold m.board.core.memory
  pub backup : IsSoundBackup m.board.core.memory.backup
  pub devices : DevicesHold m.board.core.devices
  pub serial : SerialHolds m.board.core.serial
  pub lines : All (HasBytes 480) m.board.core.lines
  pub counts : Counts m
  pub changes : ChangesHold m
  pub numbers : CountsHold m
  pub begun : m.was ≤ clock_of m
  pub short : clock_of m ≤ m.was + 512
  pub on : is_running m.board.core.serial ≡ true → m.off ≤ clock_of m

-- The signals that a step may take: those that arrived since the last step began, in their order.
pub record MayTake (dues : List Incoming) (m : Machine) : Type 0 where
  pub due : All (IsDue m.was (clock_of m)) dues
  pub ordered : InOrder dues

-- It keeps to them at reset, with a save of as many bytes as its kind has if it has one, and after each step.
pub record StepsHold : Type 0 where
  pub begins : (player count round off : ℕ) (bios : List ℕ) (cart save : Option (List ℕ)) (backup : Backup)
      (keys : List KeyState) (room : Room) → player < count → count ≤ 4 → round ≤ 2048
      → ((bytes : List ℕ) → save ≡ Some bytes → HasBytes (backup_length backup) bytes)
      → Holds (reset player count round off bios cart save backup keys room)
  pub steps : (dues : List Incoming) (m : Machine) → clock_of m ≤ last_clock → MayTake dues m → Holds m
      → Holds (stepped dues m)

-- What no step changes: the images, what the saves are kept in, the seat, the changes of the keys, the clock from which
-- on the console is on, and what is kept of what it makes.
pub record IsSameConsole (before after : Machine) : Type 0 where
  pub bios : after.board.core.memory.bios ≡ before.board.core.memory.bios
  pub rom : after.board.core.memory.rom ≡ before.board.core.memory.rom
  pub backup : backup_of after.board.core.memory.backup ≡ backup_of before.board.core.memory.backup
  pub seat : seat_of after.board.core.serial ≡ seat_of before.board.core.serial
  pub keys : after.keys ≡ before.keys
  pub off : after.off ≡ before.off
  pub kinds : KeepsKinds before after

abbrev pub StepsLeaveTheRest : Type 0
StepsLeaveTheRest =
    (dues : List Incoming) (m : Machine) → IsSoundBackup m.board.core.memory.backup → IsSameConsole m (stepped dues m)
