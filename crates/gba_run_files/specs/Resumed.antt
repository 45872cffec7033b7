-- What a run writes that goes on from a frozen file: what its consoles make from there on of frames, samples and words,
-- and their state and save. It has no log, and no stated digest of an output is compared, since these are of the whole
-- run; the summary has the lines of the consoles alone.
use Rattle.std.specs.Prelude.{ℕ, List, Ok}
use Rattle.gba_command.specs.Writing.{Run}
use Rattle.gba_joblog.specs.Job.{WholeJob}
use Rattle.gba_joblog.specs.declared.outputs.PerKind.{PerKind}
use Rattle.gba_run_files.specs.Outputs.{outputs_of}
use Rattle.gba_run_files.specs.Pieces.{run_pieces}
use Rattle.gba_run_files.specs.Written.{files_at, summary_lines}
use Rattle.gba_session.specs.Session.{Consoles, whole_cut}

abbrev pub resumed_run : List (PerKind (List ℕ)) → WholeJob → Consoles → Run
resumed_run names job s = record {
  outputs = outputs_of names job.consoles (files_at job (whole_cut s));
  pieces = run_pieces names s;
  end = Ok (summary_lines (whole_cut s).consoles);
}
