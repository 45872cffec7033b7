use Rattle.std.specs.Prelude.{ℕ, ◌≡◌, ◌≤◌, true}
use Rattle.gba_io.specs.Core.{core_is_idle}
use Rattle.gba_serial.specs.Apart.{next_end}
use Rattle.gba_console.specs.Keys.{due_of}
use Rattle.gba_console.specs.Machine.{Machine, clock_of, left_of}

-- What idle steps need and keep. Only private functions cite this file.

-- The console is on, nothing asks for more than idling, and below a clock neither its room ends nor its keys change nor
-- a transfer ends.
pub record CanIdle (stop : ℕ) (m : Machine) : Type 0 where
  pub until : stop ≤ m.board.made.until
  pub idle : core_is_idle m.board.core ≡ true
  pub on : m.off ≤ clock_of m
  pub keys : stop ≤ due_of (left_of m)
  pub ends : stop ≤ next_end m.board.core.serial

-- Idle steps leave the end of the room, the clock below which the console is off, the changes of its keys that are
-- still to come, and its serial unit.
pub record KeepsIdling (m after : Machine) : Type 0 where
  pub until : after.board.made.until ≡ m.board.made.until
  pub off : after.off ≡ m.off
  pub keys : left_of after ≡ left_of m
  pub serial : after.board.core.serial ≡ m.board.core.serial
