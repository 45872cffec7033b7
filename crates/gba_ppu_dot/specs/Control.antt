use Rattle.std.specs.Prelude.{ℕ, Bool, ◌+◌, ◌*◌}
use Rattle.gba_terms.specs.Bits.{bit, field}
use Rattle.gba_ppu_reg.specs.Registers.{Picture, picture_kept}

-- BGxCNT of a background, and its fields (GBATEK, LCD I/O BG Control). Offsets in video memory are in bytes.
abbrev pub control_of : ℕ → Picture → ℕ
control_of background r = picture_kept (0x008 + 2 * background) r

abbrev pub priority_of : ℕ → ℕ
priority_of control = field control 0 2

-- the tiles begin at a multiple of 16 KiB, the map at one of 2 KiB
abbrev pub tiles_start : ℕ → ℕ
tiles_start control = 0x4000 * field control 2 2

abbrev pub map_start : ℕ → ℕ
map_start control = 0x800 * field control 8 5

-- whether a dot of a text background has 8 bits, and not 4
abbrev pub has_eight_bits : ℕ → Bool
has_eight_bits control = bit control 7

-- whether an affine background goes on past its edges
abbrev pub wraps : ℕ → Bool
wraps control = bit control 13

-- the size of the map, from 0 to 3, which means one thing for text and another for affine backgrounds
abbrev pub size_of : ℕ → ℕ
size_of control = field control 14 2
