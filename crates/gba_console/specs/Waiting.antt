use Rattle.std.specs.Prelude.{ℕ, ◌≡◌, ◌+◌, ◌^◌, ◌<◌, ◌≤◌, true, List, [], ◌∷◌, length}
use Rattle.gba_io.specs.Base.{begun_at}
use Rattle.gba_io.specs.Board.{IsInStep, base_of}
use Rattle.gba_io.specs.Cable.{EndsFit, NextEndFits, board_taken}
use Rattle.gba_io.specs.Core.{core_is_calm}
use Rattle.gba_io.specs.Drawing.{lines_drawn}
use Rattle.gba_io.specs.declared.board.Board.{Board}
use Rattle.gba_ppu_reg.specs.Position.{IsPosition}
use Rattle.gba_serial.specs.Apart.{next_end}
use Rattle.link_node.specs.declared.signal.Incoming.{Incoming}
use Rattle.gba_console.specs.Keys.{due_of}
use Rattle.gba_console.specs.Machine.{Machine, clock_of, first_on, left_of}

-- what the taking of one signal needs: it was sent before it arrives, and there is room for a transfer that
-- ends before it
pub record CanTake (due : Incoming) (b : Board) : Type 0 where
  pub fits : EndsFit due.arrival b
  pub room : NextEndFits b
  pub early : due.arrival < b.ended.until
  pub in_flight : due.signal.clock < due.arrival

-- what the taking of these signals needs, one after another
abbrev pub CanTakeAll : List Incoming → Board → Type 0
CanTakeAll [] b = Unit {0}
CanTakeAll (due ∷ dues) b = CanTake due b × CanTakeAll dues (board_taken due b)

-- What holds of the board of each console that is on between its steps, the last of which began at a clock and took at
-- most 512 cycles: what it made and its transfers are those of its clocks, and there is room for more.
pub record IsSound (was : ℕ) (b : Board) : Type 0 where
  pub step : IsInStep b
  pub ends : EndsFit was b
  pub short : b.core.devices.clock ≤ was + 512
  pub clock : b.core.devices.clock ≤ b.made.until + 511
  pub few : b.made.until ≤ 2 ^ 39
  pub same : b.ended.until ≡ b.made.until

-- What holds of the board of a console that is off: its lists are empty, and begin with the first step with which it is
-- on, at the place of the picture and with the counts that it has.
pub record IsResting (off : ℕ) (b : Board) : Type 0 where
  pub begins : b.made.base ≡ begun_at (first_on off b.core.devices.clock) (base_of b)
  pub ends : b.ended.base ≡ begun_at (first_on off b.core.devices.clock) (base_of b)
  pub place : IsPosition b.core.devices.place
  pub drawn : length b.core.lines ≡ lines_drawn b.core.devices.place
  pub frames : b.made.frames ≡ []
  pub samples : b.made.samples ≡ []
  pub words : b.ended.words ≡ []
  pub few : b.ended.count < 2 ^ 40
  pub seat : 1 ≤ b.core.serial.count

-- what holds of either, where it is off below a clock
pub record IsKept (off was : ℕ) (b : Board) : Type 0 where
  pub most : off ≤ 2 ^ 39
  pub on : off ≤ b.core.devices.clock → IsSound was b
  pub rests : b.core.devices.clock < off → IsResting off b
  pub short : b.core.devices.clock ≤ was + 512
  pub clock : b.core.devices.clock ≤ b.made.until + 511
  pub few : b.made.until ≤ 2 ^ 39
  pub same : b.ended.until ≡ b.made.until

-- The console is on, and nothing asks for more than an instruction in the step that comes.
pub record IsPlain (m : Machine) : Type 0 where
  pub on : m.off ≤ clock_of m
  pub calm : core_is_calm m.board.core ≡ true
  pub keys : clock_of m < due_of (left_of m)
  pub ends : clock_of m < next_end m.board.core.serial
