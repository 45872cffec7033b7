-- The bytes of the I/O registers as they stand in files.
use Rattle.std.specs.Prelude.{ℕ, zero, suc, ◌*◌, ◌/◌, ◌%◌, List, [], ◌∷◌, ◌++◌}
use Rattle.gba_io.specs.Core.{Core, core_half_listed}

-- the bytes of so many of the I/O registers' halfwords, from 04000000h up: what is stored there, and of bits that are
-- only read what they read
unfoldable pub io_bytes : ℕ → Core → List ℕ
io_bytes zero b = []
io_bytes (suc halves) b =
    io_bytes halves b ++ (core_half_listed (2 * halves) b % 256 ∷ core_half_listed (2 * halves) b / 256 ∷ [])
