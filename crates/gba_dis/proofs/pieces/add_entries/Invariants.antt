use Rattle.std.proofs.Common.{◌≡◌, ◌-◌, ◌++◌, true}
use Rattle.gba_dis.specs.Pieces.{entries_from, text_of}
use Rattle.gba_dis.proofs.pieces.add_entries.Given as goal

abbrev pub invariant-loop-register : goal.invariant-loop-register
invariant-loop-register l =
    l.line.items ++ text_of (entries_from (16 - l.register) l.register l.first l.list)
    ≡ l.initial.line.items ++ text_of (entries_from 16 0 true l.list)
