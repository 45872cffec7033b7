use Rattle.std.specs.Prelude.{ℕ, ◌==◌, List, [], ◌∷◌, if◌then◌else◌}

-- a halfword of the I/O registers: its offset from 04000000h, the bits that read, and the bits that a write stores
pub record Row : Type 0 where
  pub offset : ℕ
  pub read_mask : ℕ
  pub write_mask : ℕ

abbrev pub row : ℕ → ℕ → ℕ → Row
row offset read_mask write_mask = record { offset = offset; read_mask = read_mask; write_mask = write_mask }

-- the row of an offset; where none is listed, no bit reads and none is stored
unfoldable pub row_at : List Row → ℕ → Row
row_at [] offset = row offset 0 0
row_at (first ∷ rows) offset = if offset == first.offset then first else row_at rows offset
