use Rattle.std.specs.Prelude.{◌≡◌, ◌≤◌, ◌<◌, ◌+◌, ℕ, zero, suc, nat_lt, List, Option, if◌then◌else◌}
use Rattle.gba_serial.specs.Tell.{outgoing}
use Rattle.link_node.specs.Alone.{StepsAlone}
use Rattle.link_node.specs.declared.signal.Incoming.{Incoming}
use Rattle.link_node.specs.declared.signal.Signal.{Signal}
use Rattle.gba_console.specs.Machine.{Machine, clock_of}
use Rattle.gba_console.specs.Step.{next, node_next, stepped, told}

-- A console has come to another one by a step, which raised the clock by 1 to 512 cycles, keeps its own start, and
-- leaves the end of the room and the clock below which the console is off. What it told can be read from the serial
-- unit after it.
pub record Follows (m after : Machine) (signal : Option Signal) : Type 0 where
  pub raised : clock_of m < clock_of after
  pub short : clock_of after ≤ clock_of m + 512
  pub was : after.was ≡ clock_of m
  pub until : after.board.made.until ≡ m.board.made.until
  pub off : after.off ≡ m.off
  pub tells : signal ≡ outgoing (clock_of m) after.board.core.serial

-- Each step does so, whatever the console's numbers are and whatever it takes.
abbrev pub StepPasses : List Incoming → Machine → Type 0
StepPasses dues m = Follows m (stepped dues m) (told dues m)

-- what the last step told, which the serial unit keeps up to the next one
abbrev pub news : Machine → Option Signal
news m = outgoing m.was m.board.core.serial

-- a console has come to another one by steps that took nothing and began below a clock, and only the last has told
-- something
abbrev pub GoesAlone : ℕ → Machine → Machine → Option Signal → Type 0
GoesAlone = StepsAlone clock_of node_next

-- steps while the clock is below `until`, at most `most` of them
unfoldable pub run : ℕ → ℕ → Machine → Machine
run zero until m = m
run (suc most) until m = if nat_lt (clock_of m) until then run most until (next m) else m

-- Steps until the clock is at least `until`. Each step raises the clock, so that many steps are enough: the law
-- `reaches` says so.
abbrev pub run_to : ℕ → Machine → Machine
run_to until m = run until until m

-- A run ends with a clock of at least `until`.
abbrev pub Reaches : Type 0
Reaches = (until : ℕ) (start : Machine) → until ≤ clock_of (run_to until start)

-- More steps than are wanted change nothing: any two bounds that are enough give the same run.
abbrev pub IsEnough : Type 0
IsEnough =
    (until a b : ℕ) (start : Machine) → until ≤ clock_of start + a → until ≤ clock_of start + b
    → run a until start ≡ run b until start
