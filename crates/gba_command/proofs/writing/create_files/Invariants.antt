use Rattle.std.proofs.Common.{drop, map}
use Rattle.gba_command.specs.Views.{output_value}
use Rattle.gba_command.specs.Writing.{creation}
use Rattle.gba_command.proofs.Calls.{Leads}
use Rattle.gba_command.proofs.writing.create_files.Given as goal

abbrev pub invariant-loop-file : goal.invariant-loop-file
invariant-loop-file g l =
    Leads g.O.Sink.Tells (map creation (map output_value l.files))
    (map creation (map output_value (drop l.file-index l.files))) (g.O.Sink.state l.fn.out)
    (g.O.Sink.state l.out)
