-- The rules that the consoles of a run keep, device by device, beside what their memories and their images are. Of a
-- console that keeps them, what a frozen file says of it makes it again.
use Rattle.std.specs.Prelude.{◌≡◌, ℕ, ◌+◌, ◌%◌, ◌^◌, ◌<◌, ◌≤◌, true, List, length, slice_index}
use Rattle.gba_console.specs.Keys.{due_count}
use Rattle.gba_console.specs.Machine.{Machine, clock_of}
use Rattle.gba_device_laws.specs.Cable.{SerialHolds}
use Rattle.gba_device_laws.specs.Holding.{DevicesHold}
use Rattle.gba_io.specs.Drawing.{lines_drawn}
use Rattle.gba_mem.specs.BackupLaw.{IsSoundBackup}
use Rattle.gba_numbers.specs.Ranges.{latest_clock}
use Rattle.gba_psr.specs.Status.{IsStatus, unit_bytes}
use Rattle.gba_serial.specs.SerialUnit.{is_running}
use Rattle.gba_snapshot.specs.Console.{HaveLengths}
use Rattle.gba_thaw.specs.Checks.{pressed_after}

-- The 37 registers are words, CPSR is a status, and r15 is the address of an instruction.
pub record RegistersHold (registers : List ℕ) : Type 0 where
  pub long : length registers ≡ 37
  pub words : (register : ℕ) → slice_index registers register < 2 ^ 32
  pub status : IsStatus (slice_index registers 31)
  pub aligned : slice_index registers 15 % unit_bytes (slice_index registers 31) ≡ 0

-- The last step took at most 512 cycles, and counts are below 2^40.
pub record TimesHold (m : Machine) : Type 0 where
  pub begun : m.was ≤ clock_of m
  pub short : clock_of m ≤ m.was + 512
  pub latest : clock_of m ≤ latest_clock
  pub frames : m.board.made.frame_count < 2 ^ 40
  pub samples : m.board.made.pairs < 2 ^ 40
  pub words : m.board.ended.count < 2 ^ 40

-- The changes of the keys that are applied are those which the last step found due, if there was one, and the last of
-- them says which keys are pressed.
pub record ChangesHold (m : Machine) : Type 0 where
  pub few : m.applied ≤ length m.keys
  pub due : m.was < clock_of m → m.applied ≡ due_count m.was m.keys
  pub pressed : m.board.core.devices.keys.pressed ≡ pressed_after m.applied m.keys

-- A console. Its drawn lines are those that the picture's place says, and a transfer runs only while it is on.
pub record Holds (m : Machine) : Type 0 where
  pub registers : RegistersHold m.registers
  pub devices : DevicesHold m.board.core.devices
  pub serial : SerialHolds m.board.core.serial
  pub lengths : HaveLengths m.board.core
  pub backup : IsSoundBackup m.board.core.memory.backup
  pub drawn : length m.board.core.lines ≡ lines_drawn m.board.core.devices.place
  pub times : TimesHold m
  pub changes : ChangesHold m
  pub on : is_running m.board.core.serial ≡ true → m.off ≤ clock_of m
