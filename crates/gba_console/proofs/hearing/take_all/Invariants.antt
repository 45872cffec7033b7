use Rattle.std.proofs.Common.{◌≡◌, drop}
use Rattle.gba_console.specs.Step.{all_taken}
use Rattle.gba_console.specs.Waiting.{CanTakeAll}
use Rattle.gba_console.proofs.hearing.take_all.Given as goal

-- the signals that are left lead to the same board
abbrev pub invariant-loop-one : goal.invariant-loop-one
invariant-loop-one l =
    (all_taken (drop l.one-index l.due) l.board ≡ all_taken l.due l.fn.board)
    × CanTakeAll (drop l.one-index l.due) l.board
