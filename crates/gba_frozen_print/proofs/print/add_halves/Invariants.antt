use Rattle.std.proofs.Common.{◌≡◌, ◌+◌, ◌*◌, ◌≤◌, ◌++◌, drop, vec_len}
use Rattle.std.specs.Prelude.{vec_capacity}
use Rattle.gba_frozen.specs.Spelling.{hex_all}
use Rattle.gba_frozen_print.proofs.print.add_halves.Given as goal

-- the digits so far, and those that are left
abbrev pub invariant-loop-half : goal.invariant-loop-half
invariant-loop-half l =
    (l.into.items ++ hex_all 4 (drop l.half-index l.halves) ≡ l.fn.into.items ++ hex_all 4 l.halves)
    × (vec_len l.into ≡ vec_len l.fn.into + 4 * l.half-index) × (vec_capacity l.fn.into ≤ vec_capacity l.into)
