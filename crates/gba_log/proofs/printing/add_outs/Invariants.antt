use Rattle.std.proofs.Common.{drop}
use Rattle.std.specs.List.{flat_map}
use Rattle.gba_joblog.specs.Log.{out_text, outs_text}
use Rattle.gba_joblog.specs.Views.{console_value}
use Rattle.gba_log.proofs.Printed.{Printed}
use Rattle.gba_log.proofs.printing.add_outs.Given as goal

abbrev pub invariant-loop-kind : goal.invariant-loop-kind
invariant-loop-kind l =
    Printed l.initial.into l.into (outs_text (console_value l.fn.console))
    (flat_map (out_text (console_value l.fn.console)) (drop l.kind-index l.kind-items))
