-- What a run writes that is frozen at a clock: what its consoles made of frames, samples and words up to there, and
-- then their frozen file.
use Rattle.std.specs.Prelude.{ℕ, List, [], ◌∷◌, ◌++◌, map, codes, Option, Some, None, Ok}
use Rattle.sha2.specs.Sha256.{sha256}
use Rattle.gba_command.specs.Writing.{Run}
use Rattle.gba_joblog.specs.Job.{ConsoleJob, WholeJob}
use Rattle.gba_joblog.specs.Log.{log_text}
use Rattle.gba_joblog.specs.declared.job.OutLine.{OutLine}
use Rattle.gba_joblog.specs.declared.outputs.PerKind.{PerKind}
use Rattle.gba_run_files.specs.Names.{RunNames, names_from}
use Rattle.gba_run_files.specs.Outputs.{outputs_of}
use Rattle.gba_run_files.specs.Pieces.{run_pieces}
use Rattle.gba_run_files.specs.Written.{files_at, log_output, summary_lines}
use Rattle.gba_session.specs.Session.{Consoles, whole_cut}
use Rattle.gba_snapshot.specs.File.{frozen_file}

-- an output is asked for with no digest stated, if it is asked for
abbrev pub unstated : Option OutLine → Option OutLine
unstated None = None
unstated (Some asked) = Some (record { digest = None })

abbrev pub outs_unstated : PerKind (Option OutLine) → PerKind (Option OutLine)
outs_unstated outs = record {
  frames = unstated outs.frames;
  samples = unstated outs.samples;
  words = unstated outs.words;
  state = unstated outs.state;
  save = unstated outs.save;
}

abbrev pub console_unstated : ConsoleJob → ConsoleJob
console_unstated console = record console { outs = outs_unstated console.outs }

-- a job of which no output's digest is stated
abbrev pub job_unstated : WholeJob → WholeJob
job_unstated job = record job { consoles = map console_unstated job.consoles }

-- By this digest a frozen file tells of which job it is: whatever the job states of its outputs, it is the same.
abbrev pub job_digest : WholeJob → List ℕ
job_digest job = sha256 (log_text (job_unstated job))

-- A job up to a clock: its consoles are asked for no state and no save, which there are only at the job's own end.
abbrev pub outs_so_far : PerKind (Option OutLine) → PerKind (Option OutLine)
outs_so_far outs = record outs { state = None; save = None }

abbrev pub console_so_far : ConsoleJob → ConsoleJob
console_so_far console = record console { outs = outs_so_far console.outs }

abbrev pub job_until : ℕ → WholeJob → WholeJob
job_until clock job = record job { cycles = clock; consoles = map console_so_far job.consoles }

-- the name of the frozen file under OUT
abbrev pub frozen_name : List ℕ → List ℕ
frozen_name out = out ++ codes ".frozen"

abbrev pub freeze_names : List ℕ → ℕ → RunNames
freeze_names out count = record { consoles = names_from out 0 count; log = frozen_name out }

-- What the run of a job's consoles writes that is frozen at its end, for the job of a digest. The frozen file stands
-- where the log stands else; the summary has the lines of the consoles alone.
abbrev pub frozen_run : RunNames → WholeJob → List ℕ → Consoles → Run
frozen_run names job digest s = record {
  outputs = outputs_of names.consoles job.consoles (files_at job (whole_cut s))
      ++ log_output names (frozen_file digest (whole_cut s)) ∷ [];
  pieces = run_pieces names.consoles s ++ log_output names (frozen_file digest (whole_cut s)) ∷ [];
  end = Ok (summary_lines (whole_cut s).consoles);
}
