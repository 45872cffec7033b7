-- A run writes as much as its summary counts.
use Rattle.std.specs.Prelude.{◌≡◌, ℕ, ◌*◌, true, List, length, Ok, Some, Contains, slice_get}
use Rattle.std.specs.List.{flat_map}
use Rattle.gba_command.specs.Plan.{outcome}
use Rattle.gba_command.specs.Words.{RunWords}
use Rattle.gba_command.specs.Writing.{Output, Run}
use Rattle.gba_console.specs.Machine.{Machine}
use Rattle.gba_inputs.specs.Inputs.{ConsoleInputs}
use Rattle.gba_inputs.specs.InputsPlan.{inputs_plan}
use Rattle.gba_joblog.specs.Job.{WholeJob}
use Rattle.gba_joblog.specs.declared.outputs.OutKind.{OutKind}
use Rattle.gba_joblog.specs.declared.outputs.OutKind.TheVariants.{Frames, Samples, Words, State, Save}
use Rattle.gba_link.specs.AgainLaw.{SaysJob}
use Rattle.gba_link.specs.RunPlan.{end_with, whole_run_plan}
use Rattle.gba_output.specs.TransferWords.{words_line}
use Rattle.gba_run_files.specs.AskedLaw.{is_asked}
use Rattle.gba_run_files.specs.DigestsLaw.{Place, file_at}
use Rattle.gba_serial.specs.declared.transfer.Transfer.{Transfer}
use Rattle.gba_store.specs.Files.{Files}
use Rattle.link_order.specs.Cut.{Cut}

-- These are the lines of so many transfers.
pub record HasLines (count : ℕ) (bytes : List ℕ) : Type 0 where
  pub transfers : List Transfer
  pub many : length transfers ≡ count
  pub lines : bytes ≡ flat_map words_line transfers

-- The bytes of an output are as many as the summary's line of its console counts: 76,800 for each whole frame, 4 for
-- each pair of samples, a line for each transfer.
abbrev pub IsCounted : OutKind → Machine → List ℕ → Type 0
IsCounted Frames m bytes = length bytes ≡ 76800 * m.board.made.frame_count
IsCounted Samples m bytes = length bytes ≡ 4 * m.board.made.pairs
IsCounted Words m bytes = HasLines m.board.ended.count bytes
IsCounted State m bytes = Unit {0}
IsCounted Save m bytes = Unit {0}

-- One of these files is that of this output, and has as much as the console of its player counts.
pub record HasCounted (out : List ℕ) (cut : Cut Machine) (outputs : List Output) (place : Place) : Type 0 where
  pub bytes : List ℕ
  pub written : Contains outputs (record { name = file_at out place; bytes = bytes })
  pub console : Machine
  pub of_player : slice_get cut.consoles place.player ≡ Some console
  pub counted : IsCounted place.kind console bytes

-- So it is with each output that a run's job asks for. The cut is that of whose consoles the summary has a line each.
abbrev pub CountsItsFiles : Type 0
CountsItsFiles =
    (files : Files) (words : RunWords) (job : WholeJob) (inputs : List ConsoleInputs) (run : Run)
    → outcome files (whole_run_plan words) ≡ Ok run → SaysJob files words.job job
    → outcome files (inputs_plan job.consoles) ≡ Ok inputs → (place : Place) → is_asked job place ≡ true
    → HasCounted words.out (end_with job inputs) run.outputs place
