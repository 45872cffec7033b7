use Rattle.std.proofs.Common.{drop, map}
use Rattle.gba_command.specs.Plan.{each}
use Rattle.gba_command.proofs.Each.{Leads}
use Rattle.gba_inputs.specs.InputsPlan.{console_plan, inputs_plan}
use Rattle.gba_inputs.specs.Views.{inputs_value}
use Rattle.gba_joblog.specs.Views.{console_value}
use Rattle.gba_inputs.proofs.reading.read_all.Given as goal

-- the consoles that are left, from where the reads stand, lead to how the whole plan ends
abbrev pub invariant-loop-console : goal.invariant-loop-console
invariant-loop-console g l =
    Leads g.S.Store.gives
    (inputs_plan (map console_value l.consoles)) l.fn.store
    (each console_plan (map inputs_value l.all.items) (map console_value (drop l.console-index l.consoles))) l.store
