use Rattle.std.specs.Prelude.{ℕ, ◌+◌, ◌==◌, List, if◌then◌else◌}
use Rattle.gba_ppu_dot.specs.Paints.{palette_colour}

-- The paint of a dot by its number in the palette that begins at an entry. Only private functions cite it.
abbrev pub number_paint : List ℕ → ℕ → ℕ → ℕ
number_paint palette start number = if number == 0 then 0x8000 else palette_colour palette (start + number)
