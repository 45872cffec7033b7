-- The flash of a cartridge (GBATEK, GBA Cart Backup Flash ROM). The machine of its states, and that commands take no
-- time and a programmed byte keeps its zeros, are this project's profile.
use Rattle.std.specs.Prelude.{ℕ, zero, suc, ◌+◌, ◌*◌, ◌/◌, ◌%◌, ◌==◌, Bool, true, false, ◌&&◌, bit_and, List, length, slice_index, slice_set, if◌then◌else◌}
use Rattle.gba_image.specs.declared.backup.Backup.{Backup}
use Rattle.gba_image.specs.declared.backup.Backup.TheVariants.{Sram, Flash64, Flash128}
use Rattle.gba_flash.specs.declared.machine.Command.{Command}
use Rattle.gba_flash.specs.declared.machine.Command.TheVariants as command
use Rattle.gba_flash.specs.declared.machine.FlashMachine.{FlashMachine}
use Rattle.gba_flash.specs.declared.machine.FlashState.{FlashState}
use Rattle.gba_flash.specs.declared.machine.FlashState.TheVariants.{Ready, First, Second, Program, Bank}

pub record FlashMemory : Type 0 where
  pub bytes : List ℕ
  pub backup : Backup
  pub machine : FlashMachine

abbrev pub bank_size : ℕ
bank_size = 0x10000

abbrev pub sector_size : ℕ
sector_size = 0x1000

abbrev pub is_flash : Backup → Bool
is_flash Sram = false
is_flash Flash64 = true
is_flash Flash128 = true

abbrev pub has_banks : Backup → Bool
has_banks Sram = false
has_banks Flash64 = false
has_banks Flash128 = true

-- the states in which a write is a command, programs a byte, and chooses a bank
abbrev pub is_commanding : FlashState → Bool
is_commanding Ready = false
is_commanding First = false
is_commanding Second = true
is_commanding Program = false
is_commanding Bank = false

abbrev pub is_programming : FlashState → Bool
is_programming Ready = false
is_programming First = false
is_programming Second = false
is_programming Program = true
is_programming Bank = false

abbrev pub is_choosing : FlashState → Bool
is_choosing Ready = false
is_choosing First = false
is_choosing Second = false
is_choosing Program = false
is_choosing Bank = true

-- no command has begun, and bank 0 is seen
abbrev pub machine_at_first : FlashMachine
machine_at_first = record { state = Ready; armed = false; identify = false; bank = 0 }

abbrev pub flash_at_first : List ℕ → Backup → FlashMemory
flash_at_first bytes backup = record { bytes = bytes; backup = backup; machine = machine_at_first }

-- ---- reads

-- where the byte at an offset stands: in the bank that is seen
abbrev pub place_in : FlashMachine → ℕ → ℕ
place_in m offset = m.bank * bank_size + offset

-- the maker's number at offset 0, and the device's at offset 1
abbrev pub device_of : Backup → ℕ
device_of Sram = 0
device_of Flash64 = 0x1c
device_of Flash128 = 0x09

abbrev pub flash_read : ℕ → FlashMemory → ℕ
flash_read offset f =
    if f.machine.identify && (offset == 0) then 0xc2
    else if f.machine.identify && (offset == 1) then device_of f.backup
    else slice_index f.bytes (place_in f.machine offset)

-- ---- writes

abbrev pub with_state : FlashState → FlashMachine → FlashMachine
with_state state m = record m { state = state }

-- the two writes before a command
abbrev pub after_ready : ℕ → ℕ → FlashMachine → FlashMachine
after_ready offset value m =
    if (offset == 0x5555) && (value == 0xaa) then with_state First m
    else if value == 0xf0 then record m { identify = false }
    else m

abbrev pub after_first : ℕ → ℕ → FlashMachine → FlashMachine
after_first offset value m = with_state (if (offset == 0x2aaa) && (value == 0x55) then Second else Ready) m

-- the command that a write is
abbrev pub erase_of : Bool → Command → Command
erase_of armed erase = if armed then erase else command.Nothing

abbrev pub command_at : ℕ → Backup → Bool → Command
command_at value backup armed =
    if value == 0x80 then command.Arm
    else if value == 0x90 then command.Identify true
    else if value == 0xf0 then command.Identify false
    else if value == 0xa0 then command.Program
    else if value == 0xb0 then (if has_banks backup then command.Bank else command.Nothing)
    else if value == 0x10 then erase_of armed command.EraseAll
    else if value == 0x30 then erase_of armed command.EraseSector
    else command.Nothing

unfoldable pub command_of : ℕ → ℕ → Backup → Bool → Command
command_of offset value backup armed =
    if offset == 0x5555 then command_at value backup armed
    else if value == 0x30 then erase_of armed command.EraseSector
    else command.Nothing

-- what a command leaves of the machine
abbrev pub machine_after : Command → FlashMachine → FlashMachine
machine_after command.Arm m = record m { state = Ready; armed = true }
machine_after (command.Identify identify) m = record m { state = Ready; armed = false; identify = identify }
machine_after command.Program m = record m { state = Program; armed = false }
machine_after command.Bank m = record m { state = Bank; armed = false }
machine_after command.EraseAll m = record m { state = Ready; armed = false }
machine_after command.EraseSector m = record m { state = Ready; armed = false }
machine_after command.Nothing m = record m { state = Ready; armed = false }

-- so many bytes from one on are FFh
unfoldable pub erased : ℕ → ℕ → List ℕ → List ℕ
erased first zero bytes = bytes
erased first (suc count) bytes = slice_set (erased first count bytes) (first + count) 0xff

-- the first byte of a byte's sector
abbrev pub sector_of : ℕ → ℕ
sector_of place = place / sector_size * sector_size

abbrev pub bytes_after : Command → ℕ → List ℕ → List ℕ
bytes_after command.Arm place bytes = bytes
bytes_after (command.Identify identify) place bytes = bytes
bytes_after command.Program place bytes = bytes
bytes_after command.Bank place bytes = bytes
bytes_after command.EraseAll place bytes = erased 0 (length bytes) bytes
bytes_after command.EraseSector place bytes = erased (sector_of place) sector_size bytes
bytes_after command.Nothing place bytes = bytes

abbrev pub commanded : Command → ℕ → FlashMemory → FlashMemory
commanded command place f =
    record f { bytes = bytes_after command place f.bytes; machine = machine_after command f.machine }

-- a byte keeps its zeros
abbrev pub programmed : ℕ → ℕ → FlashMemory → FlashMemory
programmed place value f = record f {
  bytes = slice_set f.bytes place (bit_and (slice_index f.bytes place) value);
  machine = with_state Ready f.machine;
}

-- a bank is chosen at 0
abbrev pub after_bank : ℕ → ℕ → FlashMachine → FlashMachine
after_bank offset value m =
    record m { state = Ready; bank = if offset == 0 then value % 2 else m.bank }

abbrev pub written_in : FlashState → ℕ → ℕ → FlashMemory → FlashMemory
written_in Ready offset value f = record f { machine = after_ready offset value f.machine }
written_in First offset value f = record f { machine = after_first offset value f.machine }
written_in Second offset value f =
    commanded (command_of offset value f.backup f.machine.armed) (place_in f.machine offset) f
written_in Program offset value f = programmed (place_in f.machine offset) value f
written_in Bank offset value f = record f { machine = after_bank offset value f.machine }

-- what a write of a byte at an offset leaves
unfoldable pub flash_written : ℕ → ℕ → FlashMemory → FlashMemory
flash_written offset value f = written_in f.machine.state offset value f
