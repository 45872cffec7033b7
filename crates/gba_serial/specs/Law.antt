use Rattle.std.specs.Prelude.{ℕ, ◌≡◌, ◌+◌, ◌<◌, ◌≤◌, true, None, Some, IfSome, List, [], All}
use Rattle.gba_terms.specs.Bits.{field}
use Rattle.gba_serial.specs.Timing.{multi_end, normal_end}
use Rattle.gba_serial.specs.SerialUnit.{SerialUnit, is_running, mode_of}
use Rattle.gba_serial.specs.Write.{written}
use Rattle.gba_serial.specs.Take.{end_of, is_answered, taken}
use Rattle.gba_serial.specs.End.{ended}
use Rattle.gba_serial.specs.Tell.{outgoing, silent}
use Rattle.gba_serial.specs.Steps.{HalfwordWrite, all_written, ends, hear}
use Rattle.gba_serial.specs.declared.transfer.Running.{Running}
use Rattle.link_node.specs.Due.{FitsWidths}
use Rattle.link_node.specs.declared.signal.Incoming.{Incoming}
use Rattle.link_node.specs.declared.signal.LinkMode.{LinkMode}
use Rattle.link_node.specs.declared.signal.Start.{Start}

-- Laws of the serial unit. They hold of every record, also of one that no console comes to.

-- A signal bears the clock at which its step began, and its parts fit their widths. Nothing is told twice.
pub record TellsOnce : Type 0 where
  pub bears : (clock : ℕ) (u : SerialUnit) → IfSome (outgoing clock u) (λ signal. signal.clock ≡ clock)
  pub fits : (clock : ℕ) (u : SerialUnit) → IfSome (outgoing clock u) FitsWidths
  pub once : (clock : ℕ) (u : SerialUnit) → outgoing clock (silent u) ≡ None

-- the transfer, its mode, clock and speed, the words and the error are as before, and so is what is to be told
pub record KeepsTransfer (old new : SerialUnit) : Type 0 where
  pub run : new.run ≡ old.run
  pub mode : mode_of new ≡ mode_of old
  pub speed : field new.control 0 2 ≡ field old.control 0 2
  pub start_bit : field new.control 7 1 ≡ field old.control 7 1
  pub words : new.words ≡ old.words
  pub error : new.error ≡ old.error
  pub start : new.start ≡ old.start
  pub reply : new.reply ≡ old.reply
  pub told : new.told ≡ old.told

-- in a transfer no write touches it
abbrev pub WritesKeepTransfers : Type 0
WritesKeepTransfers =
    (clock offset value : ℕ) (u : SerialUnit) → is_running u ≡ true → KeepsTransfer u (written clock offset value u)

-- player, number of consoles and delay are as before
pub record KeepsSeat (old new : SerialUnit) : Type 0 where
  pub player : new.player ≡ old.player
  pub count : new.count ≡ old.count
  pub round : new.round ≡ old.round

-- nothing changes a unit's seat
pub record StaysSeated : Type 0 where
  pub written : (clock offset value : ℕ) (u : SerialUnit) → KeepsSeat u (written clock offset value u)
  pub taken : (due : Incoming) (u : SerialUnit) → KeepsSeat u (taken due u)
  pub ended : (clock : ℕ) (u : SerialUnit) → KeepsSeat u (ended clock u)

-- A start that a console makes arrives in time to be answered: `hop` is the delay to the peer, and in a Normal mode
-- a part of the way there and back. Two starts of one console are at least 516 cycles apart.
pub record StartsInTime : Type 0 where
  pub multi : (count speed clock hop : ℕ) → 2 ≤ count → hop ≤ 1024 → clock + hop + 512 ≤ multi_end count speed clock
  pub normal : (round : ℕ) (mode : LinkMode) (speed clock hop : ℕ) → hop ≤ round
      → clock + hop + 512 ≤ normal_end round mode speed clock
  pub multi_apart : (count speed clock : ℕ) → 1 ≤ count → clock + 516 ≤ multi_end count speed clock
  pub normal_apart : (round : ℕ) (mode : LinkMode) (speed clock : ℕ) → 2 ≤ round
      → clock + 516 ≤ normal_end round mode speed clock

-- A transfer goes on: it is the same but for what was received, in the same mode, and nothing more is to be told.
pub record GoesOn (run : Running) (old new : SerialUnit) : Type 0 where
  pub now : Running
  pub runs : new.run ≡ Some now
  pub starter : now.starter ≡ run.starter
  pub end : now.end ≡ run.end
  pub sent : now.sent ≡ run.sent
  pub mode : mode_of new ≡ mode_of old
  pub start : new.start ≡ old.start
  pub reply : new.reply ≡ old.reply
  pub told : new.told ≡ old.told

-- the signals of a step that begins at a clock have arrived by then
abbrev pub HaveArrived : ℕ → List Incoming → Type 0
HaveArrived clock dues = All (λ due. due.arrival ≤ clock) dues

-- A transfer whose end a step doesn't reach goes on through it, no transfer ends in it, and it tells nothing. A start
-- that is answered ends later than any step that could take it.
pub record TransfersGoOn : Type 0 where
  pub goes_on : (clock : ℕ) (dues : List Incoming) (writes : List HalfwordWrite) (u : SerialUnit) (run : Running)
      → u.run ≡ Some run → clock < run.end → HaveArrived clock dues
      → GoesOn run u (all_written clock writes (hear clock dues u))
  pub ends_nothing : (clock : ℕ) (dues : List Incoming) (u : SerialUnit) (run : Running)
      → u.run ≡ Some run → clock < run.end → HaveArrived clock dues → ends clock dues u ≡ []
  pub tells_nothing : (clock : ℕ) (dues : List Incoming) (writes : List HalfwordWrite) (u : SerialUnit) (run : Running)
      → u.run ≡ Some run → clock < run.end → HaveArrived clock dues
      → outgoing clock (all_written clock writes (hear clock dues (silent u))) ≡ None
  pub answers_once : (was clock : ℕ) (due : Incoming) (start : Start) (u : SerialUnit)
      → is_answered due start u ≡ true → was < due.arrival → clock ≤ was + 512 → clock < end_of due start u
