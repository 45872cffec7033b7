use Rattle.std.proofs.Common.{drop}
use Rattle.gba_joblog.specs.Log.{changes_text}
use Rattle.gba_log.proofs.Printed.{Printed}
use Rattle.gba_log.proofs.printing.add_changes.Given as goal

abbrev pub invariant-loop-change : goal.invariant-loop-change
invariant-loop-change l =
    Printed l.initial.into l.into (changes_text l.changes) (changes_text (drop l.change-index l.changes))
