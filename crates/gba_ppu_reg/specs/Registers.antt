use Rattle.std.specs.Prelude.{ℕ, ◌+◌, ◌*◌, ◌/◌, ◌%◌, ◌^◌, ◌==◌, Bool, ◌&&◌, ◌||◌, nat_lt, List, [], ◌∷◌, bit_and, bit_or, replicate, slice_index, slice_set, if◌then◌else◌}
use Rattle.gba_terms.specs.Bits.{field}
use Rattle.gba_word.specs.Extension.{sign_extension}
use Rattle.gba_register.specs.Rows.{Row, row, row_at}
use Rattle.gba_ppu_reg.specs.declared.position.Position.{Position}
use Rattle.gba_ppu_reg.specs.declared.reference.Reference.{Reference}
use Rattle.gba_ppu_reg.specs.Position.{flags}

-- The picture's registers (GBATEK, LCD I/O Registers): what is stored in the 43 halfwords from 000h to 054h, and the
-- inner reference points of backgrounds 2 and 3.
pub record Picture : Type 0 where
  pub halves : List ℕ
  pub reference2 : Reference
  pub reference3 : Reference

-- their halfwords: control and status, the backgrounds' controls and scrolls, their parameters and reference points,
-- windows, blending
unfoldable pub picture_rows : List Row
picture_rows =
    row 0x000 0xfff7 0xfff7 ∷ row 0x004 0xff3f 0xff38 ∷ row 0x006 0x00ff 0
    ∷ row 0x008 0xdfff 0xdfff ∷ row 0x00a 0xdfff 0xdfff ∷ row 0x00c 0xffff 0xffff ∷ row 0x00e 0xffff 0xffff
    ∷ row 0x010 0 0x01ff ∷ row 0x012 0 0x01ff ∷ row 0x014 0 0x01ff ∷ row 0x016 0 0x01ff
    ∷ row 0x018 0 0x01ff ∷ row 0x01a 0 0x01ff ∷ row 0x01c 0 0x01ff ∷ row 0x01e 0 0x01ff
    ∷ row 0x020 0 0xffff ∷ row 0x022 0 0xffff ∷ row 0x024 0 0xffff ∷ row 0x026 0 0xffff
    ∷ row 0x028 0 0xffff ∷ row 0x02a 0 0x0fff ∷ row 0x02c 0 0xffff ∷ row 0x02e 0 0x0fff
    ∷ row 0x030 0 0xffff ∷ row 0x032 0 0xffff ∷ row 0x034 0 0xffff ∷ row 0x036 0 0xffff
    ∷ row 0x038 0 0xffff ∷ row 0x03a 0 0x0fff ∷ row 0x03c 0 0xffff ∷ row 0x03e 0 0x0fff
    ∷ row 0x040 0 0xffff ∷ row 0x042 0 0xffff ∷ row 0x044 0 0xffff ∷ row 0x046 0 0xffff
    ∷ row 0x048 0x3f3f 0x3f3f ∷ row 0x04a 0x3f3f 0x3f3f
    ∷ row 0x050 0x3fff 0x3fff ∷ row 0x052 0x1f1f 0x1f1f ∷ row 0x054 0 0x001f ∷ []

-- what is stored in a halfword, which is what a byte write keeps of its other byte
abbrev pub is_listed : ℕ → Bool
is_listed offset = (offset % 2 == 0) && nat_lt offset 0x56

abbrev pub picture_kept : ℕ → Picture → ℕ
picture_kept offset r = if is_listed offset then slice_index r.halves (offset / 2) else 0

-- What a halfword reads. DISPSTAT's flags and VCOUNT are of the position, and stand in no register.
abbrev pub picture_read : ℕ → Picture → ℕ
picture_read offset r = bit_and (picture_kept offset r) (row_at picture_rows offset).read_mask

abbrev pub picture_read_at : ℕ → Position → Picture → ℕ
picture_read_at offset p r =
    if offset == 0x004 then bit_or (picture_read 0x004 r) (flags (picture_kept 0x004 r) p)
    else if offset == 0x006 then field p.line 0 8
    else picture_read offset r

-- A reference point as it is written, in two halfwords from an offset up: 28 bits, signed, 8 of them behind the point,
-- as a word.
abbrev pub written_point : ℕ → List ℕ → ℕ
written_point offset halves =
    sign_extension (slice_index halves (offset / 2) + 2 ^ 16 * slice_index halves (offset / 2 + 1)) 28

-- A write of either half of a point makes the inner point the whole new one.
abbrev pub is_half_of : ℕ → ℕ → Bool
is_half_of point offset = (offset == point) || (offset == point + 2)

abbrev pub written_halves : ℕ → ℕ → Picture → List ℕ
written_halves offset value r =
    if is_listed offset
    then slice_set r.halves (offset / 2) (bit_and value (row_at picture_rows offset).write_mask)
    else r.halves

abbrev pub point_after : ℕ → ℕ → List ℕ → ℕ → ℕ
point_after point offset halves old = if is_half_of point offset then written_point point halves else old

abbrev pub picture_written : ℕ → ℕ → Picture → Picture
picture_written offset value r = record {
  halves = written_halves offset value r;
  reference2 = record {
    x = point_after 0x028 offset (written_halves offset value r) r.reference2.x;
    y = point_after 0x02c offset (written_halves offset value r) r.reference2.y;
  };
  reference3 = record {
    x = point_after 0x038 offset (written_halves offset value r) r.reference3.x;
    y = point_after 0x03c offset (written_halves offset value r) r.reference3.y;
  };
}

-- A drawn line lets the inner points grow, x by PB and y by PD, which are signed with 8 bits behind the point. They
-- wrap at 32 bits.
abbrev pub grown : ℕ → ℕ → Picture → ℕ
grown point parameter r = (point + sign_extension (slice_index r.halves (parameter / 2)) 16) % 2 ^ 32

abbrev pub after_line : Picture → Picture
after_line r = record r {
  reference2 = record { x = grown r.reference2.x 0x022 r; y = grown r.reference2.y 0x026 r };
  reference3 = record { x = grown r.reference3.x 0x032 r; y = grown r.reference3.y 0x036 r };
}

-- at VBlank the inner points become the written ones
abbrev pub after_reload : Picture → Picture
after_reload r = record r {
  reference2 = record { x = written_point 0x028 r.halves; y = written_point 0x02c r.halves };
  reference3 = record { x = written_point 0x038 r.halves; y = written_point 0x03c r.halves };
}

-- the inner point of background 2, and of 3 for any other number
abbrev pub reference_of : ℕ → Picture → Reference
reference_of background r = if background == 2 then r.reference2 else r.reference3

-- the mode, bits 0 to 2 of DISPCNT
abbrev pub picture_mode : Picture → ℕ
picture_mode r = field (slice_index r.halves 0) 0 3

-- the registers at reset: all numbers are 0
abbrev pub point_at_reset : Reference
point_at_reset = record { x = 0; y = 0 }

unfoldable pub halves_at_reset : List ℕ
halves_at_reset = replicate 43 0

abbrev pub picture_at_reset : Picture
picture_at_reset = record { halves = halves_at_reset; reference2 = point_at_reset; reference3 = point_at_reset }
