use Rattle.std.proofs.Common.{◌≡◌, Some, drop}
use Rattle.std.specs.Prelude.{option_map, slice_get}
use Rattle.gba_command.specs.Views.{cause_value}
use Rattle.gba_console.specs.Machine.{Machine}
use Rattle.gba_joblog.specs.Views.{console_value}
use Rattle.gba_joblog.proofs.EachKind.{all_with}
use Rattle.gba_session.specs.Files.{asks_of, files_of}
use Rattle.gba_session.specs.Session.{whole_cut}
use Rattle.gba_run_files.specs.Outputs.{console_difference, first_differs, kind_differs, or_later, outs_of}
use Rattle.gba_run_files.specs.Views.{names_value}
use Rattle.gba_run_files.proofs.stating.state_console.Given as goal

-- the lines as far as they are stated, and the first difference so far
abbrev pub invariant-loop-kind : goal.invariant-loop-kind
invariant-loop-kind l =
    (m : Machine) → slice_get (whole_cut l.fn.digests).consoles l.fn.player ≡ Some m
    → (record (console_value l.console) {
      outs = all_with (drop l.kind-index l.kind-items) (outs_of (console_value l.initial.console)
          (files_of (asks_of (console_value l.initial.console)) m)) l.console.outs;
    } ≡ record (console_value l.initial.console) {
      outs = outs_of (console_value l.initial.console) (files_of (asks_of (console_value l.initial.console)) m);
    })
    × (or_later (option_map cause_value l.cause)
    (first_differs (kind_differs (names_value l.fn.names) (console_value l.initial.console)
    (files_of (asks_of (console_value l.initial.console)) m)) (drop l.kind-index l.kind-items))
    ≡ console_difference (names_value l.fn.names) (console_value l.initial.console)
    (files_of (asks_of (console_value l.initial.console)) m))
