use Rattle.std.proofs.Common.{ℕ, List, drop, map}
use Rattle.std.specs.List.{flat_map}
use Rattle.gba_command.proofs.Calls.{Leads}
use Rattle.gba_command.specs.Writing.{creation}
use Rattle.gba_joblog.specs.Views.{console_value}
use Rattle.gba_joblog.specs.declared.outputs.PerKind.{PerKind}
use Rattle.gba_run_files.specs.Outputs.{console_outputs, kind_output}
use Rattle.gba_run_files.specs.Views.{names_value}
use Rattle.gba_run_files.proofs.creating.create_console.Given as goal

-- the files of the kinds so far are made empty
abbrev pub invariant-loop-kind : goal.invariant-loop-kind
invariant-loop-kind g l =
    (files : PerKind (List ℕ)) → Leads g.O.Sink.Tells
    (map creation (console_outputs (names_value l.fn.names) (console_value l.fn.console) files))
    (map creation (flat_map (kind_output (names_value l.fn.names) (console_value l.fn.console) files)
    (drop l.kind-index l.kind-items)))
    (g.O.Sink.state l.fn.out) (g.O.Sink.state l.out)
