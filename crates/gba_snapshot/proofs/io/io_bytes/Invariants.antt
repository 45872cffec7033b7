use Rattle.std.proofs.Common.{◌≡◌, ◌*◌}
use Rattle.arrayvec.specs.ArrayVec.{array_vec_len}
use Rattle.gba_snapshot.specs.Io.{io_bytes}
use Rattle.gba_snapshot.proofs.io.io_bytes.Given as goal

abbrev pub invariant-loop-half : goal.invariant-loop-half
invariant-loop-half l =
    (l.bytes.items ≡ io_bytes l.half l.core) × (array_vec_len l.bytes ≡ 2 * l.half)
