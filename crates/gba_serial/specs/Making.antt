use Rattle.std.specs.Prelude.{◌≡◌, ℕ, ◌<◌, ◌≤◌, ◌^◌, Bool, List, [], ◌∷◌, Option, None}
use Rattle.gba_terms.specs.Bits.{bit}
use Rattle.gba_serial.specs.Numbers.{received_mask}
use Rattle.gba_serial.specs.SerialUnit.{SerialUnit}
use Rattle.gba_serial.specs.Tell.{silent}
use Rattle.gba_serial.specs.Timing.{mode_by}
use Rattle.gba_serial.specs.declared.serial.making.Seat.{Seat}
use Rattle.gba_serial.specs.declared.serial.making.SerialRegisters.{SerialRegisters}
use Rattle.gba_serial.specs.declared.transfer.Running.{Running}
use Rattle.link_node.specs.declared.signal.LinkMode.{LinkMode}

-- A unit of its numbers: its seat, what stands in its registers, the modes that the players last told, and the transfer
-- that runs. It has nothing to tell: the mode that it told last is the one that its registers give.
abbrev pub unit_of : Seat → SerialRegisters → List LinkMode → Option Running → SerialUnit
unit_of seat registers known run = record {
  player = seat.player;
  count = seat.count;
  round = seat.round;
  control = registers.control;
  error = registers.error;
  select = registers.select;
  send = registers.send;
  words = registers.words;
  known = known;
  run = run;
  start = None;
  reply = None;
  told = mode_by registers.select registers.control;
}

-- its seat, and what stands in its registers
abbrev pub seat_of : SerialUnit → Seat
seat_of u = record { player = u.player; count = u.count; round = u.round }

abbrev pub registers_of : SerialUnit → SerialRegisters
registers_of u = record { control = u.control; error = u.error; select = u.select; send = u.send; words = u.words }

-- what always holds of a seat
pub record IsSeat (seat : Seat) : Type 0 where
  pub player : seat.player < seat.count
  pub count : seat.count ≤ 4
  pub round : seat.round ≤ 2048

-- the players whose bits are set, player j as bit j
unfoldable pub players_of : ℕ → List Bool
players_of mask = bit mask 0 ∷ bit mask 1 ∷ bit mask 2 ∷ bit mask 3 ∷ []

-- What a unit has makes it again, but for what it had to tell. The players of a mask have that mask.
pub record MadeAgain : Type 0 where
  pub unit : (u : SerialUnit) → unit_of (seat_of u) (registers_of u) u.known u.run ≡ silent u
  pub mask : (mask : ℕ) (run : Running) → mask < 2 ^ 4 → received_mask (record run { got = players_of mask }) ≡ mask
