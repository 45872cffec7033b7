use Rattle.std.specs.Prelude.{◌≡◌, ℕ, ◌≤◌, ◌+◌, ◌++◌, false, List, length, map}
use Rattle.gba_command.specs.LeftFiles.{HasOwnFiles, NamesDiffer, is_among, standard_output}
use Rattle.gba_command.specs.Writing.{Output}
use Rattle.gba_console.specs.Alone.{console_kind}
use Rattle.gba_console.specs.Machine.{Machine, forgotten}
use Rattle.gba_image.specs.declared.images.ConsoleImages.{ConsoleImages}
use Rattle.gba_joblog.specs.Job.{WholeJob}
use Rattle.gba_joblog.specs.Log.{log_text}
use Rattle.gba_joblog.specs.Soundness.{IsJob}
use Rattle.gba_joblog.specs.declared.outputs.PerKind.{PerKind}
use Rattle.gba_run_files.specs.Frozen.{freeze_names, frozen_run}
use Rattle.gba_run_files.specs.Names.{names_from, run_names}
use Rattle.gba_run_files.specs.Resumed.{resumed_run}
use Rattle.gba_run_files.specs.Written.{log_of, run_of, written}
use Rattle.gba_session.specs.Held.{CanRun}
use Rattle.gba_session.specs.Session.{prepared, resumed}
use Rattle.link_core.specs.Kept.{AllLive}
use Rattle.link_order.specs.Cut.{Cut}

-- how much longer a log may be once the digests of twenty outputs are stated: 72 bytes each
abbrev pub digests_room : ℕ
digests_room = 1440

-- With the digests of its outputs stated a log has at most so many bytes more.
abbrev pub LogsHaveRoom : Type 0
LogsHaveRoom =
    (job : WholeJob) (files : List (PerKind (List ℕ))) → IsJob job
    → length (log_of job files) ≤ length (log_text job) + digests_room

-- an output as it is written under OUT: its name begins with it
abbrev pub under : List ℕ → Output → Output
under out output = record output { name = out ++ output.name }

-- The files of a run of at most four consoles have different names, and none is standard output.
abbrev pub OutputsDiffer : Type 0
OutputsDiffer =
    (out : List ℕ) (count : ℕ) (job : WholeJob) (files : List (PerKind (List ℕ))) (lines : List ℕ)
    (pieces : List Output) → count ≤ 4 → NamesDiffer (written (run_names out count) job files lines pieces).outputs
    × (is_among standard_output (written (run_names out count) job files lines pieces).outputs ≡ false)

-- Of the run of a job with these images each piece is one of a file, the pieces of a file, one after another, are its
-- bytes, and standard output is none of its files.
abbrev pub RunsHaveOwnFiles : Type 0
RunsHaveOwnFiles =
    (out : List ℕ) (job : WholeJob) (images : List ConsoleImages) → IsJob job → length images ≡ length job.consoles
    → HasOwnFiles (run_of (run_names out (length job.consoles)) job (prepared job images))

-- The same of the run of a job that is frozen at its end.
abbrev pub FrozenRunsHaveOwnFiles : Type 0
FrozenRunsHaveOwnFiles =
    (out digest : List ℕ) (job : WholeJob) (images : List ConsoleImages) → IsJob job
    → length images ≡ length job.consoles
    → HasOwnFiles (frozen_run (freeze_names out (length job.consoles)) job digest (prepared job images))

-- The same of one that goes on from a sound cut of a job's consoles, whose lists are empty, and of whose signals each
-- can still be taken.
abbrev pub ResumedRunsHaveOwnFiles : Type 0
ResumedRunsHaveOwnFiles =
    (out : List ℕ) (job : WholeJob) (start : Cut Machine) → IsJob job → length start.consoles ≡ length job.consoles
    → CanRun start → AllLive console_kind start → map forgotten start.consoles ≡ start.consoles
    → HasOwnFiles (resumed_run (names_from out 0 (length job.consoles)) job (resumed job start))
