-- The bytes of the I/O registers, one halfword after another.
use Rattle.std.proofs.Common.{◌≡◌, ℕ, ◌+◌, ◌*◌, ◌/◌, ◌%◌, List, [], ◌∷◌, ◌++◌, refl, add-one}
use Rattle.gba_io.specs.Core.{Core, core_half_listed}
use Rattle.gba_snapshot.specs.Io.{io_bytes}

pub io_bytes-none : (b : Core) → io_bytes 0 b ≡ []
unfolding io_bytes
io_bytes-none b = refl

pub io_bytes-more : (b : Core) (halves half : ℕ) (old new : List ℕ) → old ≡ io_bytes halves b
    → half ≡ core_half_listed (2 * halves) b → new ≡ old ++ (half % 256 ∷ half / 256 ∷ [])
    → new ≡ io_bytes (halves + 1) b
unfolding io_bytes
io_bytes-more b halves half old new before value grew = rw (add-one, grew, value, before) refl
