use Rattle.std.specs.Prelude.{◌≡◌, ℕ, ◌+◌, ◌^◌, ◌<◌, ◌≤◌, List, length}
use Rattle.gba_io.specs.Board.{board_begun_at, board_poured}
use Rattle.gba_io.specs.Core.{core_cleared, core_with_machine, core_with_part}
use Rattle.gba_io.specs.Drawing.{lines_drawn}
use Rattle.gba_io.specs.declared.board.Board.{Board}
use Rattle.gba_io.specs.declared.pouring.BoardParts.{BoardParts}
use Rattle.gba_flash.specs.declared.machine.FlashMachine.{FlashMachine}
use Rattle.gba_mem.specs.declared.part.MemoryPart.{MemoryPart}
use Rattle.gba_console.specs.Machine.{Machine, first_on}
use Rattle.gba_console.specs.Shorn.{shorn}
use Rattle.gba_console.specs.declared.doing.What.TheVariants.{Nothing}
use Rattle.gba_console.specs.declared.pouring.ConsoleParts.{ConsoleParts}

-- A console whose numbers are replaced, as no step does it.

-- What it needs of the parts of its board, its lines, the clock at which its last step began, and the end of its room:
-- the last step took at most 512 cycles and began below that end, the lines are those that the picture's place says,
-- and the counts are below 2^40. A transfer may run whose end has passed, and the counts needn't be those of the clock;
-- nor of a console that is off.
pub record CanPour (was until : ℕ) (parts : BoardParts) (lines : List (List ℕ)) : Type 0 where
  pub begun : was ≤ parts.devices.clock
  pub short : parts.devices.clock ≤ was + 512
  pub drawn : length lines ≡ lines_drawn parts.devices.place
  pub frames : parts.counts.frames < 2 ^ 40
  pub samples : parts.counts.samples < 2 ^ 40
  pub words : parts.counts.words < 2 ^ 40
  pub few : until ≤ 2 ^ 39
  pub near : until ≤ parts.devices.clock + 16777216
  pub room : parts.devices.clock ≤ until + 511

-- The board of these parts. What it makes begins with the first step with which the console is on that is off
-- below a clock.
abbrev pub board_poured_at : ℕ → BoardParts → List (List ℕ) → ℕ → Board → Board
board_poured_at off parts lines until b =
    board_begun_at (first_on off parts.devices.clock) until (board_poured parts lines until b)

-- The console of these parts, which stand beside its memories, all changes of its keys, and the clock below which it is
-- off. Its lists are empty, and what its last step did isn't told.
abbrev pub machine_poured : ConsoleParts → List (List ℕ) → ℕ → Machine → Machine
machine_poured parts lines until m = record m {
  registers = parts.registers;
  board = board_poured_at m.off parts.board lines until m.board;
  applied = parts.applied;
  was = parts.was;
  last = Nothing;
}

-- with bytes of a memory replaced from a place on, with every byte of the memories 0, and with what a flash remembers
abbrev pub machine_with_part : MemoryPart → ℕ → List ℕ → Machine → Machine
machine_with_part part place new m =
    record m { board = record m.board { core = core_with_part part place new m.board.core } }

abbrev pub machine_cleared : Machine → Machine
machine_cleared m = record m { board = record m.board { core = core_cleared m.board.core } }

abbrev pub machine_with_flash : FlashMachine → Machine → Machine
machine_with_flash machine m =
    record m { board = record m.board { core = core_with_machine machine m.board.core } }

-- the parts of a console
abbrev pub parts_of : Machine → ConsoleParts
parts_of m = record {
  registers = m.registers;
  board = record {
    devices = m.board.core.devices;
    serial = m.board.core.serial;
    counts = record { frames = m.board.made.frame_count; samples = m.board.made.pairs; words = m.board.ended.count };
  };
  applied = m.applied;
  was = m.was;
}

-- two consoles have the same memories, key changes and clock to be off below, and keep the same lists
pub record IsSameFrame (one other : Machine) : Type 0 where
  pub memory : one.board.core.memory ≡ other.board.core.memory
  pub keys : one.keys ≡ other.keys
  pub off : one.off ≡ other.off
  pub frames : one.board.made.keeps_frames ≡ other.board.made.keeps_frames
  pub samples : one.board.made.keeps_samples ≡ other.board.made.keeps_samples
  pub words : one.board.ended.keeps_words ≡ other.board.ended.keeps_words

-- The parts and lines of a console make it again of such a one, but for what no step looks at.
abbrev pub PoursAgain : Type 0
PoursAgain =
    (until : ℕ) (start m : Machine) → IsSameFrame start m
    → shorn (machine_poured (parts_of m) m.board.core.lines until start) ≡ shorn m
