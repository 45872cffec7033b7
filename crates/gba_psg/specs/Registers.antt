use Rattle.std.specs.Prelude.{ℕ, ◌+◌, ◌-◌, ◌%◌, ◌==◌, Bool, true, false, ◌&&◌, nat_le, nat_lt, List, [], ◌∷◌, bit_and, if◌then◌else◌}
use Rattle.gba_terms.specs.Bits.{bit}
use Rattle.gba_word.specs.Weights.{weight}
use Rattle.gba_register.specs.Rows.{Row, row, row_at}
use Rattle.gba_psg.specs.Square.{square_at_reset, square_controlled}
use Rattle.gba_psg.specs.Wave.{wave_cleared, wave_controlled, wave_half, with_wave_half}
use Rattle.gba_psg.specs.Noise.{noise_at_reset, noise_controlled}
use Rattle.gba_psg.specs.declared.four.FourTones.{FourTones}
use Rattle.gba_psg.specs.Tones.{channels_on}

-- The registers of the tone channels (GBATEK, GBA Sound Controller): channel 1 at 060h to 064h, channel 2 at 068h and
-- 06Ch, channel 3 at 070h to 074h and its bytes at 090h to 09Eh, channel 4 at 078h and 07Ch, SOUNDCNT_L 080h, of
-- SOUNDCNT_H 082h the bits 0 and 1, which direct sound reads, and SOUNDCNT_X 084h. Bit 15 of a control, which isn't
-- stored, starts.
unfoldable pub tone_rows : List Row
tone_rows =
    row 0x060 0x007f 0x007f ∷ row 0x062 0xffc0 0xffff ∷ row 0x064 0x4000 0x47ff
    ∷ row 0x068 0xffc0 0xffff ∷ row 0x06c 0x4000 0x47ff
    ∷ row 0x070 0x00e0 0x00e0 ∷ row 0x072 0xe000 0xe0ff ∷ row 0x074 0x4000 0x47ff
    ∷ row 0x078 0xff00 0xff3f ∷ row 0x07c 0x40ff 0x40ff
    ∷ row 0x080 0xff77 0xff77 ∷ row 0x082 0 0x0003 ∷ row 0x084 0x008f 0x0080
    ∷ row 0x090 0xffff 0xffff ∷ row 0x092 0xffff 0xffff ∷ row 0x094 0xffff 0xffff ∷ row 0x096 0xffff 0xffff
    ∷ row 0x098 0xffff 0xffff ∷ row 0x09a 0xffff 0xffff ∷ row 0x09c 0xffff 0xffff ∷ row 0x09e 0xffff 0xffff ∷ []

-- whether a halfword has bytes of the wave, and the first of them
abbrev pub is_wave_offset : ℕ → Bool
is_wave_offset offset = nat_le 0x090 offset && (nat_lt offset 0x0a0 && (offset % 2 == 0))

abbrev pub wave_place : ℕ → ℕ
wave_place offset = offset - 0x090

-- what is stored at a halfword, which is also what a byte write keeps of its other byte
abbrev pub tones_kept : ℕ → FourTones → ℕ
tones_kept offset ts =
    if is_wave_offset offset then wave_half (wave_place offset) ts.wave
    else if offset == 0x060 then ts.sweep
    else if offset == 0x062 then ts.square1.shape
    else if offset == 0x064 then ts.square1.control
    else if offset == 0x068 then ts.square2.shape
    else if offset == 0x06c then ts.square2.control
    else if offset == 0x070 then ts.wave.select
    else if offset == 0x072 then ts.wave.level
    else if offset == 0x074 then ts.wave.control
    else if offset == 0x078 then ts.noise.shape
    else if offset == 0x07c then ts.noise.control
    else if offset == 0x080 then ts.mixer
    else if offset == 0x082 then ts.ratio
    else if offset == 0x084 then weight 0x80 ts.is_on + channels_on ts
    else 0

-- what a halfword reads
abbrev pub tones_read : ℕ → FourTones → ℕ
tones_read offset ts = bit_and (tones_kept offset ts) (row_at tone_rows offset).read_mask

-- Everything is 0 while the master enable is 0, but for the bytes of the wave and SOUNDCNT_H.
abbrev pub cleared : FourTones → FourTones
cleared ts = record ts {
  is_on = false;
  sequencer = 0;
  sweep = 0;
  square1 = square_at_reset;
  square2 = square_at_reset;
  wave = wave_cleared ts.wave;
  noise = noise_at_reset;
  mixer = 0;
}

abbrev pub mastered : Bool → FourTones → FourTones
mastered is_on ts = if is_on then record ts { is_on = true } else cleared ts

-- what a write of these bits leaves in the registers of the channels, and whether it starts one
abbrev pub tone_set : ℕ → ℕ → Bool → FourTones → FourTones
tone_set offset value starts ts =
    if offset == 0x060 then record ts { sweep = value }
    else if offset == 0x062 then record ts { square1 = record ts.square1 { shape = value } }
    else if offset == 0x064 then record ts { square1 = square_controlled ts.sweep value starts ts.square1 }
    else if offset == 0x068 then record ts { square2 = record ts.square2 { shape = value } }
    else if offset == 0x06c then record ts { square2 = square_controlled 0 value starts ts.square2 }
    else if offset == 0x070 then record ts { wave = record ts.wave { select = value } }
    else if offset == 0x072 then record ts { wave = record ts.wave { level = value } }
    else if offset == 0x074 then record ts { wave = wave_controlled value starts ts.wave }
    else if offset == 0x078 then record ts { noise = record ts.noise { shape = value } }
    else if offset == 0x07c then record ts { noise = noise_controlled value starts ts.noise }
    else if offset == 0x080 then record ts { mixer = value }
    else ts

-- the same of any halfword: those below 082h are dropped while the master enable is 0
abbrev pub tones_set : ℕ → ℕ → Bool → FourTones → FourTones
tones_set offset value starts ts =
    if is_wave_offset offset then record ts { wave = with_wave_half (wave_place offset) value ts.wave }
    else if offset == 0x082 then record ts { ratio = value }
    else if offset == 0x084 then mastered (bit value 7) ts
    else if ts.is_on then tone_set offset value starts ts
    else ts

-- what a halfword write leaves
unfoldable pub tones_written : ℕ → ℕ → FourTones → FourTones
tones_written offset value ts =
    tones_set offset (bit_and value (row_at tone_rows offset).write_mask) (bit value 15) ts
