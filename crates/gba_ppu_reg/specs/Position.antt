use Rattle.std.specs.Prelude.{ℕ, zero, suc, ◌+◌, ◌-◌, ◌<◌, ◌==◌, Bool, ◌&&◌, nat_le, nat_lt, Option, None, Some, if◌then◌else◌}
use Rattle.std.specs.Option.{option_or}
use Rattle.gba_terms.specs.Bits.{field}
use Rattle.gba_word.specs.Weights.{weight}
use Rattle.gba_ppu_reg.specs.declared.position.Position.{Position}
use Rattle.gba_ppu_reg.specs.declared.position.PictureEvents.{PictureEvents}

-- The place of the picture (GBATEK, LCD Dimensions and Timings): the line, from 0 to 227, and the dot, which is the
-- cycle in the line, from 0 to 1,231.
pub record IsPosition (p : Position) : Type 0 where
  pub line : p.line < 228
  pub dot : p.dot < 1232

-- one cycle: the dot moves by 1, and after the last one the next line begins
abbrev pub ends_line : Position → Bool
ends_line p = p.dot + 1 == 1232

abbrev pub following_line : ℕ → ℕ
following_line line = if line + 1 == 228 then 0 else line + 1

abbrev pub cycle : Position → Position
cycle p = record {
  line = if ends_line p then following_line p.line else p.line;
  dot = if ends_line p then 0 else p.dot + 1;
}

-- so many cycles
unfoldable pub after_cycles : ℕ → Position → Position
after_cycles zero p = p
after_cycles (suc count) p = cycle (after_cycles count p)

-- The events: the dot becomes that of HBlank, and a line begins. A cycle has one where it comes to such a dot.
abbrev pub begins_hblank : Position → Bool
begins_hblank p = p.dot == 1006

abbrev pub begins_line : Position → Bool
begins_line p = p.dot == 0

-- the first of so many cycles, counted from 1, that comes to a dot
unfoldable pub first_cycle : ℕ → ℕ → Position → Option ℕ
first_cycle dot zero p = None
first_cycle dot (suc count) p =
    option_or (first_cycle dot count p) (if (after_cycles (suc count) p).dot == dot then Some (suc count) else None)

abbrev pub events : ℕ → Position → PictureEvents
events count p = record { hblank = first_cycle 1006 count p; line_start = first_cycle 0 count p }

-- how many cycles it is to a dot, in this line or the next
abbrev pub distance : ℕ → Position → ℕ
distance dot p = if nat_lt p.dot dot then dot - p.dot else dot + 1232 - p.dot

-- What holds at a place: VBlank in the lines 160 to 226, HBlank from its dot to the end of every line, and the match of
-- the line that DISPSTAT's bits 8 to 15 choose (GBATEK, LCD I/O Interrupts and Status).
abbrev pub is_vblank : Position → Bool
is_vblank p = nat_le 160 p.line && nat_lt p.line 227

abbrev pub is_hblank : Position → Bool
is_hblank p = nat_le 1006 p.dot

abbrev pub is_matched : ℕ → Position → Bool
is_matched status p = p.line == field status 8 8

-- DISPSTAT's bits 0 to 2
abbrev pub flags : ℕ → Position → ℕ
flags status p = weight 1 (is_vblank p) + weight 2 (is_hblank p) + weight 4 (is_matched status p)
