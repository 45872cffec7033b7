use Rattle.std.specs.Prelude.{ℕ, ◌==◌, Bool, true, false, not, ◌&&◌, ◌||◌, nat_lt, List, [], ◌∷◌, Option, Some}
use Rattle.std.specs.Prelude.{bit_and, bit_or, if◌then◌else◌, slice_set}
use Rattle.gba_terms.specs.Bits.{bit}
use Rattle.gba_register.specs.Rows.{row_at}
use Rattle.gba_serial.specs.Timing.{is_multi, is_normal, mode_by, multi_end, normal_end}
use Rattle.gba_serial.specs.SerialUnit.{SerialUnit, data_word, has_inside_clock, is_running, mode_of, own_word, speed_of}
use Rattle.gba_serial.specs.Registers.{serial_rows}
use Rattle.gba_serial.specs.declared.transfer.Running.{Running}
use Rattle.link_node.specs.declared.signal.LinkMode.{LinkMode}
use Rattle.link_node.specs.declared.signal.LinkMode.TheVariants.{Multi}
use Rattle.link_node.specs.declared.signal.Start.{Start}

-- A write, and the start of a transfer (GBATEK, SIO Multi-Player Mode and SIO Normal Mode; what is kept, what is
-- dropped in a transfer and the ends are this project's profile)

-- the four words as a Multi transfer starts with them, and whose words were received; one place is filled
abbrev pub first_words : ℕ → ℕ → List ℕ
first_words player word = slice_set (0xffff ∷ 0xffff ∷ 0xffff ∷ 0xffff ∷ []) player word

abbrev pub none_received : List Bool
none_received = false ∷ false ∷ false ∷ false ∷ []

abbrev pub received_from : ℕ → List Bool
received_from player = slice_set none_received player true

-- a transfer that this console starts: its end, its own word, and whose words it has
abbrev pub started : ℕ → ℕ → List Bool → Option Running
started end word got = Some (record { starter = true; end = end; sent = word; word = 0; got = got })

abbrev pub start_with : ℕ → SerialUnit → Start
start_with word u = record { speed = speed_of u; word = word }

unfoldable pub multi_begun : ℕ → SerialUnit → SerialUnit
multi_begun clock u = record u {
  error = false;
  words = first_words u.player (data_word Multi u);
  run = started (multi_end u.count (speed_of u) clock) (data_word Multi u) (received_from u.player);
  start = Some (start_with (data_word Multi u) u);
}

-- a Normal start of player 2 or 3 is heard by nobody, so nothing is told of it
unfoldable pub normal_begun : ℕ → SerialUnit → SerialUnit
normal_begun clock u = record u {
  run = started (normal_end u.round (mode_of u) (speed_of u) clock) (own_word u) none_received;
  start = if nat_lt u.player 2 then Some (start_with (own_word u) u) else u.start;
}

abbrev pub begun : ℕ → SerialUnit → SerialUnit
begun clock u = if is_multi (mode_of u) then multi_begun clock u else normal_begun clock u

-- the mode that a write of SIOCNT leaves
abbrev pub next_mode : ℕ → SerialUnit → LinkMode
next_mode bits u = mode_by u.select bits

-- whether a write of SIOCNT stores bit 7: in Multi only player 0's does, and none in mode Other
abbrev pub stores_start_bit : ℕ → SerialUnit → Bool
stores_start_bit bits u = is_normal (next_mode bits u) || (is_multi (next_mode bits u) && (u.player == 0))

-- SIOCNT after a write while no transfer runs, and after one in a transfer, which stores bits 3 and 14
abbrev pub idle_control : ℕ → SerialUnit → ℕ
idle_control bits u =
    bit_or (bit_and bits 0x700b) (bit_and (if stores_start_bit bits u then bits else u.control) 0x0080)

abbrev pub busy_control : ℕ → SerialUnit → ℕ
busy_control bits u = bit_or (bit_and bits 0x4008) (bit_and u.control 0x3083)

-- Whether a write of SIOCNT starts a transfer: bit 7 goes from 0 to 1, in Multi or with the inside clock.
abbrev pub begins : ℕ → SerialUnit → Bool
begins bits u =
    not (bit u.control 7) && bit bits 7 && stores_start_bit bits u
    && (is_multi (next_mode bits u) || has_inside_clock bits)

unfoldable pub with_control : ℕ → ℕ → SerialUnit → SerialUnit
with_control clock bits u =
    if is_running u then record u { control = busy_control bits u }
    else if begins bits u then begun clock (record u { control = idle_control bits u })
    else record u { control = idle_control bits u }

-- the four words and RCNT keep their values while a transfer runs; the send word is always stored
abbrev pub with_word : ℕ → ℕ → SerialUnit → SerialUnit
with_word place bits u = record u { words = if is_running u then u.words else slice_set u.words place bits }

abbrev pub with_select : ℕ → SerialUnit → SerialUnit
with_select bits u = record u { select = if is_running u then u.select else bits }

-- what a write of these bits leaves
abbrev pub put_at : ℕ → ℕ → ℕ → SerialUnit → SerialUnit
put_at clock offset bits u =
    if offset == 0x120 then with_word 0 bits u
    else if offset == 0x122 then with_word 1 bits u
    else if offset == 0x124 then with_word 2 bits u
    else if offset == 0x126 then with_word 3 bits u
    else if offset == 0x128 then with_control clock bits u
    else if offset == 0x12a then record u { send = bits }
    else if offset == 0x134 then with_select bits u
    else u

-- what a halfword write at a clock leaves
abbrev pub written : ℕ → ℕ → ℕ → SerialUnit → SerialUnit
written clock offset value u = put_at clock offset (bit_and value (row_at serial_rows offset).write_mask) u

-- the same, whichever of the halfword's bytes the access covers
abbrev pub half_written : ℕ → ℕ → ℕ → ℕ → SerialUnit → SerialUnit
half_written clock offset value lanes u = written clock offset value u
