-- What a step resets before it looks at anything is in no output.
use Rattle.std.proofs.Common.{◌≡◌, ℕ, ◌++◌, ◌∙◌, List, [], ◌∷◌, map, refl, ap}
use Rattle.gba_console.specs.Machine.{Machine, without_limit}
use Rattle.gba_console.specs.Shorn.{rested}
use Rattle.gba_frozen_text.specs.Memories.{memory_lines_text}
use Rattle.gba_frozen_text.specs.Text.{numbers_say, says_text}
use Rattle.gba_io.specs.Core.{Core, core_begun}
use Rattle.gba_loose.specs.Numbers.{board_number}
use Rattle.gba_numbers.specs.Numbers.{ConsoleNumbers}
use Rattle.gba_numbers.specs.declared.fields.BoardField.{BoardField}
use Rattle.gba_numbers.specs.declared.fields.BoardField.TheVariants as board
use Rattle.gba_numbers.specs.declared.fields.Field.{Field}
use Rattle.gba_numbers.specs.declared.fields.Field.TheVariants as console
use Rattle.gba_numbers.specs.declared.names.MemoryName.TheVariants as memory
use Rattle.gba_output.specs.StateFile.{summary_line}
use Rattle.gba_snapshot.proofs.Forgetting.{state-unlimited}
use Rattle.gba_snapshot.specs.Console.{lines_of_memories, memory_bytes, state_file}
use Rattle.gba_snapshot.specs.Snapshot.{console_number, numbers_of, single_fields}
use Rattle.gba_thaw_laws.proofs.Unseen.{io-unseen}
use Rattle.gba_thaw_laws.specs.Cut.{as_it_runs}

board-rested : (b : Core) (field : BoardField) → board_number field (core_begun b) ≡ board_number field b
unfolding board_number
board-rested b board.Halted = refl
board-rested b (board.TimerCounter timer) = refl
board-rested b (board.TimerReload timer) = refl
board-rested b (board.TimerControl timer) = refl
board-rested b (board.TimerPhase timer) = refl
board-rested b (board.DmaActive channel) = refl
board-rested b (board.DmaFirst channel) = refl
board-rested b (board.DmaSource channel) = refl
board-rested b (board.DmaTarget channel) = refl
board-rested b (board.DmaLeft channel) = refl
board-rested b (board.QueueCurrent queue) = refl
board-rested b (board.QueueLength queue) = refl
board-rested b board.Sequencer = refl
board-rested b (board.Tone tone part) = refl
board-rested b (board.WaveByte bank place) = refl
board-rested b board.Line = refl
board-rested b board.Dot = refl
board-rested b (board.ReferenceX background) = refl
board-rested b (board.ReferenceY background) = refl
board-rested b board.SerialMode = refl
board-rested b board.SerialRunning = refl
board-rested b board.SerialStarted = refl
board-rested b board.SerialEnd = refl
board-rested b board.SerialGot = refl
board-rested b board.SerialSent = refl
board-rested b board.SerialWord = refl
board-rested b (board.Known player) = refl

module _ (m : Machine) where
  number-rested : (field : Field) → console_number field (rested m) ≡ console_number field m
  unfolding console_number
  number-rested console.Clock = refl
  number-rested console.Was = refl
  number-rested console.Applied = refl
  number-rested (console.Register register) = refl
  number-rested (console.Board field) = board-rested m.board.core field
  number-rested (console.QueueByte queue place) = refl
  number-rested console.Frames = refl
  number-rested console.Samples = refl
  number-rested console.Words = refl
  number-rested console.FlashState = refl
  number-rested console.FlashArmed = refl
  number-rested console.FlashIdentify = refl
  number-rested console.FlashBank = refl

all-same : (one other : Field → ℕ) → ((field : Field) → one field ≡ other field) → (fields : List Field)
    → map one fields ≡ map other fields
all-same one other same [] = refl
all-same one other same (field ∷ fields) =
    ap (λ (n : ℕ). n ∷ map one fields) (same field)
    ∙ ap (λ (ns : List ℕ). other field ∷ ns) (all-same one other same fields)

with_values : List ℕ → Machine → ConsoleNumbers
with_values values m = record {
  values = values;
  queue_a = m.board.core.devices.sound.queue_a.bytes;
  queue_b = m.board.core.devices.sound.queue_b.bytes;
  wave0 = m.board.core.devices.tones.wave.bank0;
  wave1 = m.board.core.devices.tones.wave.bank1;
}

numbers-rested : (m : Machine) → numbers_of (rested m) ≡ numbers_of m
unfolding numbers_of with_values
numbers-rested m =
    ap (λ (values : List ℕ). with_values values m)
    (all-same (λ f. console_number f (rested m)) (λ f. console_number f m) (number-rested m) single_fields)

memories-rested : (b : Core) → lines_of_memories (core_begun b) ≡ lines_of_memories b
memories-rested b =
    ap (λ (io : List ℕ).
    memory_lines_text memory.Io io ++ memory_lines_text memory.Wram (memory_bytes b memory.Wram)
    ++ memory_lines_text memory.Iwram (memory_bytes b memory.Iwram)
    ++ memory_lines_text memory.Palette (memory_bytes b memory.Palette)
    ++ memory_lines_text memory.Vram (memory_bytes b memory.Vram)
    ++ memory_lines_text memory.Oam (memory_bytes b memory.Oam))
    (io-unseen 512 b (core_begun b) (record { devices = refl; serial = refl }))

state-rested : (m : Machine) → state_file (rested m) ≡ state_file m
state-rested m =
    ap (λ (n : ConsoleNumbers). says_text (numbers_say m.board.core.serial.player n)
    ++ lines_of_memories (core_begun m.board.core))
    (numbers-rested m)
    ∙ ap (λ (lines : List ℕ). says_text (numbers_say m.board.core.serial.player (numbers_of m)) ++ lines)
    (memories-rested m.board.core)

pub state-runs : (m : Machine) → state_file (as_it_runs m) ≡ state_file m
state-runs m = state-rested (without_limit m) ∙ state-unlimited m

pub line-runs : (m : Machine) → summary_line (as_it_runs m) ≡ summary_line m
unfolding summary_line
line-runs m = refl
