use Rattle.std.specs.Prelude.{ℕ, List, [], ◌∷◌, Option, None, Some, bit_and, if◌then◌else◌}
use Rattle.gba_terms.specs.Bits.{bit}
use Rattle.gba_numbers.specs.Numbers.{ConsoleNumbers, value_of}
use Rattle.gba_numbers.specs.declared.fields.BoardField.TheVariants as board
use Rattle.gba_numbers.specs.declared.fields.Field.TheVariants.{Board}
use Rattle.gba_serial.specs.Making.{players_of, unit_of}
use Rattle.gba_serial.specs.SerialUnit.{SerialUnit}
use Rattle.gba_serial.specs.declared.serial.making.Seat.{Seat}
use Rattle.gba_serial.specs.declared.serial.making.SerialRegisters.{SerialRegisters}
use Rattle.gba_serial.specs.declared.transfer.Running.{Running}
use Rattle.link_node.specs.Packing.{numbered_mode}
use Rattle.link_node.specs.declared.signal.LinkMode.{LinkMode}
use Rattle.gba_loose_devices.specs.Values.{half_at, is_set, number_cut}

-- The serial unit of a console's numbers and of the bytes of its I/O registers (GBATEK, GBA Communication Ports).

-- what stands in its registers: of SIOCNT 128h the stored bits, without the player and the error, which is bit 6; RCNT
-- 134h; the halfword at 12Ah; and the four from 120h up
abbrev pub registers_at : List ℕ → SerialRegisters
registers_at io = record {
  control = bit_and (half_at 0x128 io) 0x708b;
  error = bit (half_at 0x128 io) 6;
  select = half_at 0x134 io;
  send = half_at 0x12a io;
  words = half_at 0x120 io ∷ half_at 0x122 io ∷ half_at 0x124 io ∷ half_at 0x126 io ∷ [];
}

-- the transfer that runs, if any
unfoldable pub run_poured : ConsoleNumbers → Option Running
run_poured n =
    if is_set board.SerialRunning n
    then Some (record {
      starter = is_set board.SerialStarted n;
      end = value_of (Board board.SerialEnd) n;
      sent = number_cut 32 board.SerialSent n;
      word = number_cut 32 board.SerialWord n;
      got = players_of (number_cut 32 board.SerialGot n);
    })
    else None

-- the mode that a player last told, and those of players 0 to 3
abbrev pub mode_poured : ℕ → ConsoleNumbers → LinkMode
mode_poured player n = numbered_mode (value_of (Board (board.Known player)) n)

unfoldable pub known_poured : ConsoleNumbers → List LinkMode
known_poured n = mode_poured 0 n ∷ mode_poured 1 n ∷ mode_poured 2 n ∷ mode_poured 3 n ∷ []

-- the unit of a console with a seat; it has nothing to tell
abbrev pub serial_poured : Seat → ConsoleNumbers → List ℕ → SerialUnit
serial_poured seat n io = unit_of seat (registers_at io) (known_poured n) (run_poured n)
