use Rattle.std.proofs.Common.{◌≡◌, ◌*◌, ◌≤◌, ◌++◌, drop, map}
use Rattle.std.specs.List.{flat_map}
use Rattle.arrayvec.specs.ArrayVec.{array_vec_len}
use Rattle.gba_console.specs.Machine.{without_limit}
use Rattle.gba_output.specs.StateFile.{summary_line}
use Rattle.gba_session.proofs.session.lines_of.Given as goal

-- the lines so far, and those that are left
abbrev pub invariant-loop-console : goal.invariant-loop-console
invariant-loop-console l =
    (l.lines.items ++ flat_map summary_line (map without_limit (drop l.console-index l.consoles))
    ≡ flat_map summary_line (map without_limit l.consoles))
    × (array_vec_len l.lines ≤ 146 * l.console-index)
