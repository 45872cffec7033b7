use Rattle.std.specs.Prelude.{◌≡◌, ℕ, ◌+◌, ◌<◌, ◌==◌, true, false, not, List, slice_index_or}
use Rattle.gba_terms.specs.Bits.{field}
use Rattle.gba_ppu_dot.specs.declared.dot.Dot.{Dot}
use Rattle.gba_ppu_dot.specs.declared.dot.DotKind.TheVariants.{Plain}

-- what a layer has where it has nothing
abbrev pub clear_dot : Dot
clear_dot = record { opaque = false; entry = 0; direct = false; priority = 0; kind = Plain; window = false }

-- a background's dot by its number in the palette that begins at an entry: number 0 isn't opaque
abbrev pub indexed_dot : ℕ → ℕ → ℕ → Dot
indexed_dot priority palette number = record {
  opaque = not (number == 0);
  entry = palette + number;
  direct = false;
  priority = priority;
  kind = Plain;
  window = false;
}

-- a background's dot that has its colour with it: the low 15 bits of a halfword, always opaque
abbrev pub coloured_dot : ℕ → ℕ → Dot
coloured_dot priority half = record {
  opaque = true;
  entry = field half 0 15;
  direct = true;
  priority = priority;
  kind = Plain;
  window = false;
}

-- A line of a layer has, at each x from 0 to 239, the dot of the pixel at x.
abbrev pub IsLine : (ℕ → Dot) → List Dot → Type 0
IsLine pixel dots = (x : ℕ) (d : Dot) → x < 240 → slice_index_or dots x d ≡ pixel x
