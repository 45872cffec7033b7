-- What a run writes of what its job asks for.
use Rattle.std.specs.Prelude.{◌≡◌, ◌⊎◌, ℕ, ◌+◌, Bool, true, List, ◌++◌, length, is_some, Some, IfOk, Option, Contains, option_and_then, slice_get}
use Rattle.std.specs.List.{All, count_by, flat_map, sum_by}
use Rattle.gba_command.specs.Writing.{Output, Run}
use Rattle.gba_console.specs.Machine.{Machine}
use Rattle.gba_joblog.specs.Clash.{log_file}
use Rattle.gba_joblog.specs.Job.{ConsoleJob, WholeJob}
use Rattle.gba_joblog.specs.Outputs.{all_kinds}
use Rattle.gba_joblog.specs.Statements.{asks_for, output_of}
use Rattle.gba_joblog.specs.declared.job.OutLine.{OutLine}
use Rattle.gba_joblog.specs.declared.outputs.OutKind.{OutKind}
use Rattle.gba_joblog.specs.declared.outputs.OutKind.TheVariants.{Frames, Samples, Words, State, Save}
use Rattle.gba_mem.specs.Backups.{backup_bytes}
use Rattle.gba_output.specs.StateFile.{state_file, summary_line}
use Rattle.gba_output.specs.TransferWords.{words_line}
use Rattle.gba_run_files.specs.DigestsLaw.{Place, file_at}
use Rattle.gba_run_files.specs.Written.{log_line}
use Rattle.link_order.specs.Cut.{Cut}

-- whether a job asks for an output, with a digest stated or without
abbrev pub line_in : OutKind → ConsoleJob → Option OutLine
line_in kind console = output_of console kind

abbrev pub is_asked : WholeJob → Place → Bool
is_asked job place = is_some (option_and_then (line_in place.kind) (slice_get job.consoles place.player))

-- how many outputs a console is asked for, and all consoles of a job
abbrev pub console_count : ConsoleJob → ℕ
console_count console = count_by (asks_for console) all_kinds

abbrev pub asked_count : WholeJob → ℕ
asked_count job = sum_by console_count job.consoles

-- These are the bytes of a console's output of a kind: its whole frames, its pairs of samples, a line for each of its
-- transfers, its state file, the bytes of its SRAM or of its flash.
abbrev pub IsMade : OutKind → Machine → List ℕ → Type 0
IsMade Frames m bytes = bytes ≡ m.board.made.frames
IsMade Samples m bytes = bytes ≡ m.board.made.samples
IsMade Words m bytes = bytes ≡ flat_map words_line m.board.ended.words
IsMade State m bytes = bytes ≡ state_file m
IsMade Save m bytes = bytes ≡ backup_bytes m.board.core.memory.backup

-- This file is that of an output that the job asks for, with what the console of its player has made.
pub record IsAskedFile (out : List ℕ) (job : WholeJob) (cut : Cut Machine) (output : Output) : Type 0 where
  pub place : Place
  pub asked : is_asked job place ≡ true
  pub named : output.name ≡ file_at out place
  pub console : Machine
  pub of_player : slice_get cut.consoles place.player ≡ Some console
  pub made : IsMade place.kind console output.bytes

-- One of these files is that of this output, with what the console of its player has made.
pub record HasFile (out : List ℕ) (cut : Cut Machine) (outputs : List Output) (place : Place) : Type 0 where
  pub bytes : List ℕ
  pub written : Contains outputs (record { name = file_at out place; bytes = bytes })
  pub console : Machine
  pub of_player : slice_get cut.consoles place.player ≡ Some console
  pub made : IsMade place.kind console bytes

-- A run of a job under OUT, with the consoles as this cut has them at its end. Every output that the job asks for is
-- one of its files. Each of its files is one of these or the log, and there are as many as outputs asked for, and the
-- log. A summary has a line for each console, in the order of the players, and then the log's.
pub record KeepsAsked (out : List ℕ) (job : WholeJob) (cut : Cut Machine) (run : Run) : Type 0 where
  pub log : List ℕ
  pub asked : (place : Place) → is_asked job place ≡ true → HasFile out cut run.outputs place
  pub only : All (λ output. IsAskedFile out job cut output ⊎ (output ≡ record { name = log_file out; bytes = log }))
      run.outputs
  pub log_there : Contains run.outputs (record { name = log_file out; bytes = log })
  pub many : length run.outputs ≡ asked_count job + 1
  pub players : length cut.consoles ≡ length job.consoles
  pub summary : IfOk run.end (λ summary. summary ≡ flat_map summary_line cut.consoles ++ log_line log)
