-- The numbers that a frozen file has of a console.
use Rattle.std.specs.Prelude.{ℕ, zero, suc, ◌+◌, List, [], ◌∷◌, ◌++◌, map, slice_index, Option, Some, None}
use Rattle.gba_console.specs.Machine.{Machine, clock_of}
use Rattle.gba_word.specs.Sums.{flag_number}
use Rattle.gba_flash.specs.declared.machine.FlashMachine.{FlashMachine}
use Rattle.gba_flash.specs.declared.machine.FlashState.{FlashState}
use Rattle.gba_flash.specs.declared.machine.FlashState.TheVariants.{Ready, First, Second, Program, Bank}
use Rattle.gba_mem.specs.Backups.{flash_machine}
use Rattle.gba_numbers.specs.Numbers.{ConsoleNumbers}
use Rattle.gba_numbers.specs.declared.fields.BoardField.TheVariants as board
use Rattle.gba_numbers.specs.declared.fields.Field.{Field}
use Rattle.gba_numbers.specs.declared.fields.Field.TheVariants as console
use Rattle.gba_sound.specs.Queues.{queue_at}
use Rattle.gba_loose.specs.Numbers.{board_number}

-- the state of a flash, in the order of its declaration
abbrev pub state_number : FlashState → ℕ
state_number Ready = 0
state_number First = 1
state_number Second = 2
state_number Program = 3
state_number Bank = 4

-- what a flash remembers; without one each of the numbers is 0
abbrev pub flash_numbers : Option FlashMachine → List ℕ
flash_numbers None = 0 ∷ 0 ∷ 0 ∷ 0 ∷ []
flash_numbers (Some machine) =
    state_number machine.state ∷ flag_number machine.armed ∷ flag_number machine.identify ∷ machine.bank ∷ []

abbrev pub flash_number : ℕ → Machine → ℕ
flash_number part m = slice_index (flash_numbers (flash_machine m.board.core.memory.backup)) part

-- each number of a console
unfoldable pub console_number : Field → Machine → ℕ
console_number console.Clock m = clock_of m
console_number console.Was m = m.was
console_number console.Applied m = m.applied
console_number (console.Register register) m = slice_index m.registers register
console_number (console.Board field) m = board_number field m.board.core
console_number (console.QueueByte queue place) m = slice_index (queue_at queue m.board.core.devices.sound).bytes place
console_number console.Frames m = m.board.made.frame_count
console_number console.Samples m = m.board.made.pairs
console_number console.Words m = m.board.ended.count
console_number console.FlashState m = flash_number 0 m
console_number console.FlashArmed m = flash_number 1 m
console_number console.FlashIdentify m = flash_number 2 m
console_number console.FlashBank m = flash_number 3 m

-- Those that stand by themselves, in the order of the file.
abbrev pub registers_from : ℕ → ℕ → List Field
registers_from first zero = []
registers_from first (suc count) = console.Register first ∷ registers_from (first + 1) count

abbrev pub timer_fields : ℕ → List Field
timer_fields timer =
    console.Board (board.TimerCounter timer) ∷ console.Board (board.TimerReload timer)
    ∷ console.Board (board.TimerControl timer) ∷ console.Board (board.TimerPhase timer) ∷ []

abbrev pub channel_fields : ℕ → List Field
channel_fields channel =
    console.Board (board.DmaActive channel) ∷ console.Board (board.DmaFirst channel)
    ∷ console.Board (board.DmaSource channel)
    ∷ console.Board (board.DmaTarget channel) ∷ console.Board (board.DmaLeft channel) ∷ []

abbrev pub queue_fields : ℕ → List Field
queue_fields queue = console.Board (board.QueueCurrent queue) ∷ console.Board (board.QueueLength queue) ∷ []

abbrev pub tone_fields : ℕ → List Field
tone_fields tone = map (λ part. console.Board (board.Tone tone part)) (0 ∷ 1 ∷ 2 ∷ 3 ∷ 4 ∷ 5 ∷ 6 ∷ 7 ∷ [])

abbrev pub picture_fields : List Field
picture_fields =
    console.Board board.Line ∷ console.Board board.Dot ∷ console.Board (board.ReferenceX 2)
    ∷ console.Board (board.ReferenceY 2) ∷ console.Board (board.ReferenceX 3) ∷ console.Board (board.ReferenceY 3) ∷ []

abbrev pub cable_fields : List Field
cable_fields =
    console.Board board.SerialMode ∷ console.Board board.SerialRunning ∷ console.Board board.SerialStarted
    ∷ console.Board board.SerialEnd ∷ console.Board board.SerialGot ∷ console.Board board.SerialSent
    ∷ console.Board board.SerialWord ∷ map (λ player. console.Board (board.Known player)) (0 ∷ 1 ∷ 2 ∷ 3 ∷ [])

abbrev pub last_fields : List Field
last_fields =
    console.FlashState ∷ console.FlashArmed ∷ console.FlashIdentify ∷ console.FlashBank ∷ console.Was ∷ console.Applied
    ∷ console.Frames ∷ console.Samples ∷ console.Words ∷ []

unfoldable pub single_fields : List Field
single_fields =
    console.Clock ∷ console.Board board.Halted
    ∷ (registers_from 0 37 ++ timer_fields 0 ++ timer_fields 1 ++ timer_fields 2 ++ timer_fields 3 ++ channel_fields 0
    ++ channel_fields 1 ++ channel_fields 2 ++ channel_fields 3 ++ queue_fields 0 ++ queue_fields 1
    ++ console.Board board.Sequencer
    ∷ (tone_fields 1 ++ tone_fields 2 ++ tone_fields 3 ++ tone_fields 4 ++ picture_fields
    ++ cable_fields ++ last_fields))

-- the numbers of a console
unfoldable pub numbers_of : Machine → ConsoleNumbers
numbers_of m = record {
  values = map (λ field. console_number field m) single_fields;
  queue_a = m.board.core.devices.sound.queue_a.bytes;
  queue_b = m.board.core.devices.sound.queue_b.bytes;
  wave0 = m.board.core.devices.tones.wave.bank0;
  wave1 = m.board.core.devices.tones.wave.bank1;
}
