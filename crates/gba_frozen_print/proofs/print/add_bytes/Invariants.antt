use Rattle.std.proofs.Common.{◌≡◌, ◌+◌, ◌*◌, ◌≤◌, ◌++◌, drop, vec_len}
use Rattle.std.specs.Prelude.{vec_capacity}
use Rattle.gba_frozen.specs.Spelling.{hex_all}
use Rattle.gba_frozen_print.proofs.print.add_bytes.Given as goal

-- the digits so far, and those that are left
abbrev pub invariant-loop-byte : goal.invariant-loop-byte
invariant-loop-byte l =
    (l.into.items ++ hex_all 2 (drop l.byte-index l.bytes) ≡ l.fn.into.items ++ hex_all 2 l.bytes)
    × (vec_len l.into ≡ vec_len l.fn.into + 2 * l.byte-index) × (vec_capacity l.fn.into ≤ vec_capacity l.into)
