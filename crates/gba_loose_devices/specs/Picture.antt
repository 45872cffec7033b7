use Rattle.std.specs.Prelude.{ℕ, ◌*◌, List, bit_and, map, slice_set}
use Rattle.std.specs.List.{range_with_len}
use Rattle.gba_numbers.specs.Numbers.{ConsoleNumbers}
use Rattle.gba_numbers.specs.declared.fields.BoardField.TheVariants as board
use Rattle.gba_ppu_reg.specs.Registers.{Picture}
use Rattle.gba_ppu_reg.specs.declared.position.Position.{Position}
use Rattle.gba_ppu_reg.specs.declared.reference.Reference.{Reference}
use Rattle.gba_loose_devices.specs.Values.{half_at, number_cut}

-- The picture of a console's numbers and of the bytes of its I/O registers.

-- its place
abbrev pub place_poured : ConsoleNumbers → Position
place_poured n = record { line = number_cut 32 board.Line n; dot = number_cut 32 board.Dot n }

-- the inner reference point of background 2 or 3
abbrev pub reference_poured : ℕ → ConsoleNumbers → Reference
reference_poured background n = record {
  x = number_cut 32 (board.ReferenceX background) n;
  y = number_cut 32 (board.ReferenceY background) n;
}

-- so many halfwords, from DISPCNT 000h up
abbrev pub halves_at : ℕ → List ℕ → List ℕ
halves_at count io = map (λ place. half_at (2 * place) io) (range_with_len 0 count)

-- The halfwords from DISPCNT 000h to BLDY 054h (GBATEK, LCD I/O Registers): of DISPSTAT 004h the bits that are written,
-- since the others are of the place, and so is all of VCOUNT 006h.
unfoldable pub halves_poured : List ℕ → List ℕ
halves_poured io = slice_set (slice_set (halves_at 43 io) 2 (bit_and (half_at 0x004 io) 0xff38)) 3 0

abbrev pub picture_poured : ConsoleNumbers → List ℕ → Picture
picture_poured n io = record {
  halves = halves_poured io;
  reference2 = reference_poured 2 n;
  reference3 = reference_poured 3 n;
}
