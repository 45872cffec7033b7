use Rattle.std.specs.Prelude.{ℕ, List, [], ◌∷◌, ◌++◌, map, codes, Option, Some, None, Result, Ok, Err}
use Rattle.std.specs.List.{flat_map}
use Rattle.hex.specs.Hex.{encode_lower}
use Rattle.sha2.specs.Sha256.{sha256}
use Rattle.gba_command.specs.Cause.{Cause}
use Rattle.gba_command.specs.Writing.{Output, Run}
use Rattle.gba_console.specs.Machine.{Machine}
use Rattle.gba_inputs.specs.Filled.{with_outputs}
use Rattle.gba_joblog.specs.Job.{WholeJob}
use Rattle.gba_joblog.specs.Log.{log_text}
use Rattle.gba_joblog.specs.declared.outputs.PerKind.{PerKind}
use Rattle.gba_run_files.specs.Names.{RunNames}
use Rattle.gba_output.specs.StateFile.{summary_line}
use Rattle.gba_run_files.specs.Outputs.{all_outs, difference_of, outputs_of}
use Rattle.gba_run_files.specs.Pieces.{run_pieces}
use Rattle.gba_session.specs.Files.{all_files, asks_of}
use Rattle.gba_session.specs.Session.{Consoles, whole_cut}
use Rattle.link_order.specs.Cut.{Cut}

-- What a run writes: its outputs, and its log, which is the job with the digests of the inputs and of the outputs
-- stated and its key changes written in. Then comes the summary, of which the last line has the log's digest; or the
-- refusal, where a digest that is stated of an output isn't its digest.

-- the job with the digests of its outputs stated; those of its inputs are stated already
abbrev pub logged : WholeJob → List (PerKind (List ℕ)) → WholeJob
logged job files = record job { consoles = with_outputs job.consoles (all_outs job.consoles files) }

abbrev pub log_of : WholeJob → List (PerKind (List ℕ)) → List ℕ
log_of job files = log_text (logged job files)

-- the last line of the summary
abbrev pub log_line : List ℕ → List ℕ
log_line log = codes "log " ++ (encode_lower (sha256 log) ++ codes "\n")

abbrev pub conclusion : Option Cause → List ℕ → Result (List ℕ) Cause
conclusion None summary = Ok summary
conclusion (Some cause) summary = Err cause

abbrev pub log_output : RunNames → List ℕ → Output
log_output names log = record { name = names.log; bytes = log }

abbrev pub written_with : RunNames → WholeJob → List (PerKind (List ℕ)) → List ℕ → List ℕ → List Output → Run
written_with names job files log lines pieces = record {
  outputs = outputs_of names.consoles job.consoles files ++ log_output names log ∷ [];
  pieces = pieces ++ log_output names log ∷ [];
  end = conclusion (difference_of names.consoles job.consoles files) (lines ++ log_line log);
}

-- `lines` are the summary's lines of the consoles, and `pieces` those of their outputs
abbrev pub written : RunNames → WholeJob → List (PerKind (List ℕ)) → List ℕ → List Output → Run
written names job files lines pieces = written_with names job files (log_of job files) lines pieces

-- the files of consoles, and their lines of the summary
abbrev pub files_at : WholeJob → Cut Machine → List (PerKind (List ℕ))
files_at job cut = all_files (map asks_of job.consoles) cut.consoles

abbrev pub summary_lines : List Machine → List ℕ
summary_lines machines = flat_map summary_line machines

-- what the run of a job's consoles writes
abbrev pub run_of : RunNames → WholeJob → Consoles → Run
run_of names job s =
    written names job (files_at job (whole_cut s)) (summary_lines (whole_cut s).consoles) (run_pieces names.consoles s)

-- a run that writes these files too, before its own
abbrev pub after_files : List Output → Run → Run
after_files files run = record run { outputs = files ++ run.outputs; pieces = files ++ run.pieces }
