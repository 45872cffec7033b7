use Rattle.std.specs.Prelude.{ℕ, ◌+◌, ◌-◌, ◌*◌, ◌/◌, Bool, List, Option, drop, nat_lt}
use Rattle.gba_psr.specs.RegisterFile.{reset_file}
use Rattle.gba_io.specs.Base.{at_reset}
use Rattle.gba_image.specs.declared.backup.Backup.{Backup}
use Rattle.gba_io.specs.Board.{board_at_start, board_begun_at, board_emptied, board_from}
use Rattle.gba_io.specs.declared.board.Board.{Board}
use Rattle.gba_io.specs.declared.made.Room.{Room}
use Rattle.gba_console.specs.declared.doing.What.{What}
use Rattle.gba_console.specs.declared.doing.What.TheVariants.{Nothing}
use Rattle.gba_console.specs.declared.keys.KeyState.{KeyState}

-- a console: its 37 registers in the order of the register names, its board, all changes of its keys in their order and
-- how many of them are applied, the clock below which it is off, the clock at which the last step began, 0 before the
-- first, and what that step did
pub record Machine : Type 0 where
  pub registers : List ℕ
  pub board : Board
  pub keys : List KeyState
  pub applied : ℕ
  pub off : ℕ
  pub was : ℕ
  pub last : What

-- the key changes that aren't applied yet
abbrev pub left_of : Machine → List KeyState
left_of m = drop m.applied m.keys

-- its clock in cycles since reset
abbrev pub clock_of : Machine → ℕ
clock_of m = m.board.core.devices.clock

-- its player, from 0
abbrev pub player_of : Machine → ℕ
player_of m = m.board.core.serial.player

-- whether it is off: below a clock, from which on it is on
abbrev pub is_off : Machine → Bool
is_off m = nat_lt (clock_of m) m.off

-- The clock from which on no step begins, and the console but for it and for where its lists begin: no step depends on
-- either.
abbrev pub limit_of : Machine → ℕ
limit_of m = m.board.made.until

abbrev pub board_without_limit : Board → Board
board_without_limit b = board_from at_reset 0 b

abbrev pub without_limit : Machine → Machine
without_limit m = record m { board = board_without_limit m.board }

-- The clock of the first step with which a console is on that is off below a clock, from another clock: up to it its
-- clock rises by 16 cycles at a time. It is that clock itself where the console is on by then.
abbrev pub first_on : ℕ → ℕ → ℕ
first_on off clock = clock + (off - clock + 15) / 16 * 16

-- a console at reset, from its player number, the number of consoles, the way from player 0 to player 1 and back, the
-- clock below which it is off, a BIOS, a cartridge, a save, what it is kept in, the changes of its keys and what is to
-- be kept of what it makes, which begins with its first step
abbrev pub reset : ℕ → ℕ → ℕ → ℕ → List ℕ → Option (List ℕ) → Option (List ℕ) → Backup → List KeyState → Room → Machine
reset player count round off bios cart save backup keys room = record {
  registers = reset_file;
  board = board_begun_at (first_on off 0) room.until (board_at_start player count round bios cart save backup room);
  keys = keys;
  applied = 0;
  off = off;
  was = 0;
  last = Nothing;
}

-- its three lists are emptied, what they had stays counted, and what its last step did isn't told any more
abbrev pub forgotten : Machine → Machine
forgotten m = record m { board = board_emptied m.board; last = Nothing }
