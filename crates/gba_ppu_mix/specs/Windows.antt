use Rattle.std.specs.Prelude.{ℕ, Bool, ◌&&◌, ◌||◌, ◌+◌, ◌*◌, nat_le, nat_lt, if◌then◌else◌}
use Rattle.gba_terms.specs.Bits.{bit, field}
use Rattle.gba_ppu_reg.specs.Registers.{Picture, picture_kept}
use Rattle.gba_ppu_mix.specs.declared.windows.Side.{Side}
use Rattle.gba_ppu_mix.specs.declared.windows.Window.{Window}
use Rattle.gba_ppu_mix.specs.declared.windows.Windows.{Windows}

-- A side of a window (GBATEK, LCD I/O Window Feature): from the high byte of its halfword up to the low one, which
-- isn't in it. An end past the screen's edge or before the start counts as the edge.
abbrev pub side_end : ℕ → ℕ → ℕ → ℕ
side_end start end edge = if nat_lt edge end || nat_lt end start then edge else end

abbrev pub side_of : ℕ → ℕ → Side
side_of half edge = record { start = field half 8 8; end = side_end (field half 8 8) (field half 0 8) edge }

abbrev pub is_on_side : Side → ℕ → Bool
is_on_side side place = nat_le side.start place && nat_lt place side.end

-- Window 0 or 1 on a line: whether it has a part there, which columns that part has, and what shows in it.
abbrev pub window_of : Picture → ℕ → ℕ → Window
window_of r number y = record {
  on_line =
      bit (picture_kept 0x000 r) (13 + number)
      && is_on_side (side_of (picture_kept (0x044 + 2 * number) r) 160) y;
  columns = side_of (picture_kept (0x040 + 2 * number) r) 240;
  shows = field (picture_kept 0x048 r) (8 * number) 6;
}

-- The windows on a line. Bits 13 to 15 of DISPCNT turn on windows 0 and 1 and the sprite window.
abbrev pub windows_of : Picture → ℕ → Windows
windows_of r y = record {
  are_used = nat_lt 0 (field (picture_kept 0x000 r) 13 3);
  first = window_of r 0 y;
  second = window_of r 1 y;
  has_sprites = bit (picture_kept 0x000 r) 15;
  sprites_show = field (picture_kept 0x04a r) 8 6;
  outside_shows = field (picture_kept 0x04a r) 0 6;
}

abbrev pub is_inside : Window → ℕ → Bool
is_inside w x = w.on_line && is_on_side w.columns x

-- What shows at a place, as six bits: backgrounds 0 to 3, sprites, and effects. It is what the first window that has
-- the place says, or what shows outside of them. Without windows everything shows.
unfoldable pub shows_at : Windows → ℕ → Bool → ℕ
shows_at w x in_sprites =
    if w.are_used
    then (if is_inside w.first x then w.first.shows
    else if is_inside w.second x then w.second.shows
    else if w.has_sprites && in_sprites then w.sprites_show
    else w.outside_shows)
    else 63
