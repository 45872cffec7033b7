use Rattle.std.proofs.Common.{◌≡◌, ℕ, List, drop, length, map}
use Rattle.gba_command.proofs.Calls.{Leads}
use Rattle.gba_command.specs.Writing.{creation}
use Rattle.gba_joblog.specs.Views.{console_value}
use Rattle.gba_joblog.specs.declared.outputs.PerKind.{PerKind}
use Rattle.gba_run_files.specs.Outputs.{outputs_of}
use Rattle.gba_run_files.specs.Views.{names_value}
use Rattle.gba_run_files.proofs.creating.create_outputs.Given as goal

-- the files of the consoles so far are made empty
abbrev pub invariant-loop-player : goal.invariant-loop-player
invariant-loop-player g l =
    (files : List (PerKind (List ℕ))) → length files ≡ length l.fn.consoles → Leads g.O.Sink.Tells
    (map creation (outputs_of (map names_value l.fn.names) (map console_value l.fn.consoles) files))
    (map creation (outputs_of (drop l.player (map names_value l.fn.names))
    (drop l.player (map console_value l.fn.consoles)) (drop l.player files)))
    (g.O.Sink.state l.fn.out) (g.O.Sink.state l.out)
