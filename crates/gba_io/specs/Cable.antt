use Rattle.std.specs.Prelude.{ℕ, ◌≡◌, ◌+◌, ◌*◌, ◌<◌, ◌≤◌, ◌^◌, Bool, false, Option, None, Some}
use Rattle.gba_bus.specs.declared.width.Width.{Width}
use Rattle.gba_devices.specs.State.{Devices}
use Rattle.gba_irq.specs.Interrupts.{with_request_if}
use Rattle.gba_io.specs.Base.{words_from}
use Rattle.gba_io.specs.Bus.{core_written}
use Rattle.gba_io.specs.Core.{Core}
use Rattle.gba_io.specs.Ended.{with_transfer}
use Rattle.gba_io.specs.declared.base.Base.{Base}
use Rattle.gba_io.specs.declared.board.Board.{Board}
use Rattle.gba_serial.specs.Apart.{next_end}
use Rattle.gba_serial.specs.End.{ended, ending}
use Rattle.gba_serial.specs.Take.{taken}
use Rattle.gba_serial.specs.declared.transfer.Transfer.{Transfer}
use Rattle.link_node.specs.declared.signal.Incoming.{Incoming}

-- What the cable does to a board: its signals are taken, and its transfers end.

-- a transfer that ends requests the serial interrupt where SIOCNT's bit 14 asks for it (GBATEK, SIO Control Registers
-- Summary)
abbrev pub asks_interrupt : Option Transfer → Bool
asks_interrupt None = false
asks_interrupt (Some transfer) = transfer.interrupt

abbrev pub after_transfer : Option Transfer → Devices → Devices
after_transfer transfer d = record d {
  interrupts = with_request_if (asks_interrupt transfer) 7 d.interrupts;
}

-- a board after a transfer whose end is at most a clock: the interrupt is requested, and the transfer is
-- counted and kept
abbrev pub core_ended : ℕ → Core → Core
core_ended clock c = record c {
  devices = after_transfer (ending clock c.serial) c.devices;
  serial = ended clock c.serial;
}

abbrev pub board_ended : ℕ → Board → Board
board_ended clock b = record b {
  core = core_ended clock b.core;
  ended = with_transfer (ending clock b.core.serial) b.ended;
}

-- a board after a signal; a transfer whose end is at or below the arrival ends before it
abbrev pub core_heard : Incoming → Core → Core
core_heard due c = record c { serial = taken due c.serial }

abbrev pub board_taken : Incoming → Board → Board
board_taken due b =
    let b = board_ended due.arrival b in
    record b { core = core_heard due b.core }

-- Where the next transfer ends before the end of the room, there is room for it.
abbrev pub NextEndFits : Board → Type 0
NextEndFits b =
    next_end b.core.serial < b.ended.until → b.ended.count < b.ended.base.words + words_from b.ended.base b.ended.until

-- So many transfers ended up to a clock, and the next one ends at `end`. The ends are at least 512 cycles apart:
-- those that came took 512 cycles each, but for 2^40 at the most, and the next one takes as many. The same holds of
-- those since the base, where the first may come at once, and the second 512 cycles after a step that began up to 512
-- cycles before.
pub record AreApart (clock end count : ℕ) (base : Base) : Type 0 where
  pub past : 512 * count ≤ 2 ^ 49 + clock
  pub next : 512 * (count + 1) ≤ 2 ^ 49 + end
  pub since : 512 * count + base.clock ≤ 512 * base.words + clock + 1024
  pub soon : base.words < count → 512 * (count + 1) + base.clock ≤ 512 * base.words + end + 1024
  pub recent : base.clock ≤ clock + 512

-- So there is room for all that come before the end of the room.
pub record EndsFit (clock : ℕ) (b : Board) : Type 0 where
  pub apart : AreApart clock (next_end b.core.serial) b.ended.count b.ended.base
  pub seat : 1 ≤ b.core.serial.count
  pub few : b.ended.until ≤ 2 ^ 39

-- what signals, ends and writes keep of it
pub record EndsStayFit : Type 0 where
  pub later : (clock later : ℕ) (b : Board) → EndsFit clock b → clock ≤ later → EndsFit later b
  pub room : (clock : ℕ) (b : Board) → EndsFit clock b → clock < b.ended.until → NextEndFits b
  pub ended : (clock : ℕ) (b : Board) → EndsFit clock b → clock < b.ended.until → EndsFit clock (board_ended clock b)
  pub taken : (due : Incoming) (b : Board) → EndsFit due.arrival b → due.arrival < b.ended.until
      → EndsFit due.arrival (board_taken due b)

-- A write leaves no end that is nearer than 512 cycles and that wasn't there before, and the number of consoles.
pub record WritesKeepEnds : Type 0 where
  pub next : (bound : ℕ) (c : Core) (address : ℕ) (width : Width) (value : ℕ) → 1 ≤ c.serial.count
      → bound ≤ c.devices.clock + 512 → bound ≤ next_end c.serial
      → bound ≤ next_end (core_written c address width value).serial
  pub count : (c : Core) (address : ℕ) (width : Width) (value : ℕ)
      → (core_written c address width value).serial.count ≡ c.serial.count
