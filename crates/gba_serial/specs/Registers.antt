use Rattle.std.specs.Prelude.{ℕ, ◌+◌, ◌*◌, ◌==◌, not, List, [], ◌∷◌, bit_and, if◌then◌else◌, slice_index}
use Rattle.gba_terms.specs.Bits.{field}
use Rattle.gba_word.specs.Weights.{weight}
use Rattle.gba_register.specs.Rows.{Row, row, row_at}
use Rattle.gba_serial.specs.Timing.{is_multi}
use Rattle.gba_serial.specs.SerialUnit.{SerialUnit, all_ready, is_running, mode_of}

-- The serial unit's halfwords: the four words, SIOCNT, the send word, RCNT (GBATEK, GBA Communication Ports). Of SIOCNT
-- the mode says which of its bits read.
unfoldable pub serial_rows : List Row
serial_rows =
    row 0x120 0xffff 0xffff ∷ row 0x122 0xffff 0xffff ∷ row 0x124 0xffff 0xffff ∷ row 0x126 0xffff 0xffff
    ∷ row 0x128 0x70ff 0x708b ∷ row 0x12a 0xffff 0xffff ∷ row 0x134 0xc000 0xc000 ∷ []

-- whether this console isn't the first, SIOCNT's bit 2, and its player number, bits 4 and 5, which only Multi shows
abbrev pub shown_player : SerialUnit → ℕ
shown_player u = if is_multi (mode_of u) then weight 4 (not (u.player == 0)) + 16 * field u.player 0 2 else 0

-- SIOCNT in Multi: bit 3 says that all are ready, bit 6 is the error, bit 7 says that a transfer runs
abbrev pub multi_control : SerialUnit → ℕ
multi_control u =
    bit_and u.control 0x7003 + shown_player u
    + weight 8 (all_ready u) + weight 64 u.error + weight 128 (is_running u)

-- SIOCNT as it reads: in the other modes its stored bits
abbrev pub control_shown : SerialUnit → ℕ
control_shown u = if is_multi (mode_of u) then multi_control u else u.control

-- SIOCNT in the state file: its stored bits, the error in every mode, and in Multi the player
abbrev pub control_listed : SerialUnit → ℕ
control_listed u = bit_and u.control 0x708b + shown_player u + weight 64 u.error

-- what stands at a halfword whose SIOCNT is given
abbrev pub halfword_at : ℕ → ℕ → SerialUnit → ℕ
halfword_at offset control u =
    if offset == 0x120 then slice_index u.words 0
    else if offset == 0x122 then slice_index u.words 1
    else if offset == 0x124 then slice_index u.words 2
    else if offset == 0x126 then slice_index u.words 3
    else if offset == 0x128 then control
    else if offset == 0x12a then u.send
    else if offset == 0x134 then u.select
    else 0

-- what a halfword reads
abbrev pub serial_read : ℕ → SerialUnit → ℕ
serial_read offset u = bit_and (halfword_at offset (control_shown u) u) (row_at serial_rows offset).read_mask

-- what a byte write keeps of the other byte of a halfword
abbrev pub serial_kept : ℕ → SerialUnit → ℕ
serial_kept offset u = halfword_at offset u.control u

-- a halfword of the state file
abbrev pub serial_listed : ℕ → SerialUnit → ℕ
serial_listed offset u = halfword_at offset (control_listed u) u
