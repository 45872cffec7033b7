-- A run of the log writes the same bytes.
use Rattle.std.proofs.Common.{◌≡◌, ◌≤◌, ℕ, ◌∙◌, false, List, [], ◌∷◌, ◌++◌, length, map, nat_lt, Option, Some, None, Result, Ok, Err, refl, sym, ap, subst, arith}
use Rattle.std.specs.List.{AllZip}
use Rattle.std.specs.Prelude.{IfOk}
use Rattle.std.proofs.lemmas.Bool.Decides.{nat_tests}
use Rattle.std.proofs.lemmas.List.{length-append, length-map}
use Rattle.std.proofs.lemmas.List.Elements.{length_all_zip}
use Rattle.gba_command.proofs.Comes.{file-ok, file-reads, outcome-done, outcome-parts, outcome-then}
use Rattle.gba_command.specs.Cause.{Cause}
use Rattle.gba_command.specs.Plan.{Done, file, outcome}
use Rattle.gba_command.specs.Words.{RunWords}
use Rattle.gba_command.specs.Writing.{Output, Run}
use Rattle.gba_console.specs.Machine.{Machine}
use Rattle.gba_inputs.proofs.Replay.{judged-ok, ok-judged, replayed}
use Rattle.gba_inputs.proofs.SoundInputs.{filled-sound, filled_consoles-sound, inputs-sound, zip-long}
use Rattle.gba_inputs.specs.Filled.{filled, log_job}
use Rattle.gba_inputs.specs.Inputs.{ConsoleInputs}
use Rattle.gba_inputs.specs.InputsPlan.{inputs_plan}
use Rattle.gba_inputs.specs.Law.{AreInputs, IsReplayed, asked_of}
use Rattle.gba_joblog.specs.Kinds.{JobError}
use Rattle.gba_text.proofs.Steps.{ok-is}
use Rattle.gba_text.specs.Languages.{error_at}
use Rattle.gba_joblog.proofs.LogLength.{log-short}
use Rattle.gba_joblog.proofs.Sound.{sound}
use Rattle.gba_joblog.specs.Clash.{clash_of, log_file}
use Rattle.gba_joblog.specs.Job.{WholeJob}
use Rattle.gba_joblog.specs.Language.{job_of, longest_job}
use Rattle.gba_joblog.specs.Log.{log_text}
use Rattle.gba_joblog.specs.Soundness.{IsJob}
use Rattle.gba_joblog.specs.declared.job.OutLine.{OutLine}
use Rattle.gba_joblog.specs.declared.outputs.PerKind.{PerKind}
use Rattle.gba_joblog.specs.declared.kinds.JobKind.TheVariants.{Long}
use Rattle.gba_link.specs.AgainLaw.{HasLog, RunsAgain, SaysJob, bytes_of}
use Rattle.gba_link.specs.RunPlan.{after_inputs, after_job, clash_for, end_with, images_in, job_or_refusal, job_plan, job_refusal, result_of_run, run_plan, unless_clash, whole_run_plan, without_clash_for}
use Rattle.gba_session.proofs.SameRun.{RunsAlike, asks-alike, end-many, prepared-alike}
use Rattle.gba_session.specs.Files.{all_files}
use Rattle.gba_session.specs.Session.{Consoles, prepared}
use Rattle.gba_store.specs.Files.{Files}
use Rattle.gba_run_files.proofs.LogRoom.{all-stated, logged-sound}
use Rattle.gba_run_files.proofs.RunAgain.{AreStatedBy, asked-filled, filled-alike, outs-again, written-end, written-outputs, written-under}
use Rattle.gba_run_files.specs.Law.{under}
use Rattle.gba_run_files.proofs.PiecesAgain.{written-pieces}
use Rattle.gba_run_files.specs.Names.{names_from, run_names}
use Rattle.gba_run_files.specs.Outputs.{all_outs, difference_of, outputs_of}
use Rattle.gba_run_files.specs.Pieces.{run_pieces}
use Rattle.gba_run_files.specs.Written.{conclusion, files_at, log_line, log_of, log_output, logged, run_of, summary_lines, written}
use Rattle.link_order.specs.Cut.{Cut}

-- ---- what a words read

unclashed : (words : RunWords) (job found : WholeJob) (clash : Option ℕ) → unless_clash words found clash ≡ Ok job
    → found ≡ job
unclashed words job found None h = ok-is found job h
unclashed words job found (Some line) h = absurd cc

pub said : (frozen more : Option (List ℕ)) (words : RunWords) (job : WholeJob) (r : Result WholeJob JobError)
    → without_clash_for frozen more words r ≡ Ok job → r ≡ Ok job
said frozen more words job (Ok found) h =
    ap (λ j. Ok j) (unclashed words job found (clash_for frozen more words found) h)
said frozen more words job (Err error) h = absurd cc

pub file-there : (files : Files) (name : List ℕ) (most : ℕ) (long : Cause) (bytes : List ℕ)
    → outcome files (file name most long) ≡ Ok bytes → files name ≡ Some bytes
unfolding outcome
file-there files name most long bytes h =
    let f = file-ok name most long (λ bytes. outcome files (Done bytes)) (files name) bytes h in
    f.1.there ∙ ap (λ b. Some b) (ok-is f.0 bytes f.2)

pub file-gives : (files : Files) (name : List ℕ) (most : ℕ) (long : Cause) (bytes : List ℕ) → files name ≡ Some bytes
    → length bytes ≤ most → outcome files (file name most long) ≡ Ok bytes
unfolding outcome
file-gives files name most long bytes there short =
    let fits : nat_lt most (length bytes) ≡ false = grind (arith, nat_tests) in
    file-reads name most long (λ bytes. outcome files (Done bytes)) (files name) bytes
    (record { there = there; short = fits })

pub record IsDone (files : Files) (words : RunWords) (run : Run) : Type 0 where
  pub job : WholeJob
  pub says : SaysJob files words.job job
  pub inputs : List ConsoleInputs
  pub passes : outcome files (inputs_plan job.consoles) ≡ Ok inputs
  pub is : result_of_run words.out job inputs ≡ run

pub done : (files : Files) (words : RunWords) (run : Run) → outcome files (whole_run_plan words) ≡ Ok run
    → IsDone files words run
done files words run h =
    let parts = outcome-parts files (job_plan words) (run_plan words) run h in
    let long = job_refusal words (error_at 0 Long) in
    let read = outcome-parts files (file words.job longest_job long) (after_job words) parts.0 parts.1 in
    let ran = outcome-parts files (inputs_plan parts.0.consoles) (after_inputs words parts.0) run parts.2 in
    record {
      job = parts.0;
      says = record {
        bytes = read.0;
        there = file-there files words.job longest_job long read.0 read.1;
        says =
            said None None words parts.0 (job_of read.0) (judged-ok files (job_or_refusal words read.0) parts.0 read.2);
      };
      inputs = ran.0;
      passes = ran.1;
      is = ok-is (result_of_run words.out parts.0 ran.0) run
          (sym (outcome-done files (result_of_run words.out parts.0 ran.0)) ∙ ran.2);
    }

-- what it comes to
pub comes-to : (files : Files) (words : RunWords) (job : WholeJob) (inputs : List ConsoleInputs) (bytes : List ℕ)
    → files words.job ≡ Some bytes → length bytes ≤ longest_job → job_of bytes ≡ Ok job
    → clash_of job words.job words.out ≡ None → outcome files (inputs_plan job.consoles) ≡ Ok inputs
    → outcome files (whole_run_plan words) ≡ Ok (result_of_run words.out job inputs)
comes-to files words job inputs bytes there short says apart passes =
    let long = job_refusal words (error_at 0 Long) in
    let judged : job_or_refusal words bytes ≡ Ok job = rw (says, apart) refl in
    let read = outcome-then files (file words.job longest_job long) (after_job words) bytes (Ok job)
    (file-gives files words.job longest_job long bytes there short)
    (ok-judged files (job_or_refusal words bytes) job judged) in
    let run = result_of_run words.out job inputs in
    let ran = outcome-then files (inputs_plan job.consoles) (after_inputs words job) inputs (Ok run) passes
    (outcome-done files run) in
    outcome-then files (job_plan words) (run_plan words) job (Ok run) read ran

-- ---- the log

last-is : (xs ys : List Output) (x y : Output) → xs ++ x ∷ [] ≡ ys ++ y ∷ [] → x ≡ y
last-is [] [] x y h = cc
last-is [] (b ∷ ys) x y h = let many = ap length h in absurd (omega (arith, many, length-append ys (y ∷ [])))
last-is (a ∷ xs) [] x y h = let many = ap length h in absurd (omega (arith, many, length-append xs (x ∷ [])))
last-is (a ∷ xs) (b ∷ ys) x y h = let rest : xs ++ x ∷ [] ≡ ys ++ y ∷ [] = cc in last-is xs ys x y rest

map-under : (out : List ℕ) (files : List Output) → map bytes_of (map (under out) files) ≡ map bytes_of files
map-under out [] = refl
map-under out (output ∷ files) = ap (λ bytes. output.bytes ∷ bytes) (map-under out files)

same-end : (cause : Option Cause) (summary : List ℕ) → IfOk (conclusion cause summary) (λ end. end ≡ summary)
same-end None summary = refl
same-end (Some cause) summary = tt

-- ---- the jobs of a run and of its log

module _ (job : WholeJob) (inputs : List ConsoleInputs) (is : IsJob job)
    (read : AllZip AreInputs job.consoles inputs) where
  abbrev whole : WholeJob
  whole = filled job inputs

  abbrev cut : Cut Machine
  cut = end_with job inputs

  abbrev made : List (PerKind (List ℕ))
  made = files_at whole cut

  abbrev outs : List (PerKind (Option OutLine))
  outs = all_outs whole.consoles made

  abbrev lines : List ℕ
  lines = summary_lines cut.consoles

  abbrev ready : Consoles
  ready = prepared whole (map images_in inputs)

  abbrev pieces_under : List ℕ → List Output
  pieces_under out = run_pieces (names_from out 0 (length whole.consoles)) ready

  inputs-many : length inputs ≡ length job.consoles
  inputs-many = sym (zip-long job.consoles inputs read)

  whole-many : length whole.consoles ≡ length job.consoles
  whole-many = (filled_consoles-sound job.consoles inputs is.each read).long

  pub made-many : length made ≡ length whole.consoles
  made-many = end-many whole (map images_in inputs) (length-map inputs images_in ∙ inputs-many ∙ sym whole-many)

  log-fits : length (log_of whole made) ≤ longest_job
  log-fits = log-short (logged whole made) (logged-sound whole made (filled-sound job inputs is read) made-many)

  pub run-outputs : (out : List ℕ)
      → (result_of_run out job inputs).outputs ≡ map (under out) (result_of_run [] job inputs).outputs
  run-outputs out =
      written-under out (length whole.consoles) whole made lines (pieces_under out) (pieces_under [])

  pub run-pieces-under : (out : List ℕ)
      → (result_of_run out job inputs).pieces ≡ map (under out) (result_of_run [] job inputs).pieces
  run-pieces-under out = written-pieces out (length whole.consoles) whole made lines ready

  run-log : (out name log : List ℕ) (others : List Output)
      → (result_of_run out job inputs).outputs ≡ others ++ record { name = name; bytes = log } ∷ []
      → log ≡ log_of whole made
  run-log out name log others h =
      let names = run_names out (length whole.consoles) in
      ap bytes_of (sym (last-is (outputs_of names.consoles whole.consoles made) others
      (record { name = names.log; bytes = log_of whole made }) (record { name = name; bytes = log }) h))

  pub run-end : (out : List ℕ)
      → IfOk (result_of_run out job inputs).end (λ end. end ≡ lines ++ log_line (log_of whole made))
  run-end out =
      let names = run_names out (length whole.consoles) in
      same-end (difference_of names.consoles whole.consoles made) (lines ++ log_line (log_of whole made))

  module _ (new : Files) (replay : IsReplayed new job inputs outs) where
    abbrev later : WholeJob
    later = filled replay.again inputs

    again-many : length inputs ≡ length replay.again.consoles
    again-many =
        let asked = length-map replay.again.consoles asked_of in
        let stated = all-stated whole.consoles made made-many in
        omega (arith, asked, ap length replay.asked, stated.long, inputs-many, whole-many)

    stated-by : AreStatedBy whole.consoles made later.consoles
    stated-by = asked-filled replay.again.consoles inputs again-many ∙ replay.asked

    alike : RunsAlike whole later
    alike =
        let each =
        filled-alike job.consoles replay.again.consoles inputs made inputs-many (made-many ∙ whole-many) replay.offs
        replay.asked in
        record {
          cycles = replay.cycles;
          delays = replay.delays;
          many = sym (length_all_zip _ whole.consoles later.consoles each);
          each = each;
        }

    same-log : log_of later made ≡ log_of whole made
    same-log =
        ap (λ asked. log_text (log_job replay.again inputs asked))
        (outs-again whole.consoles later.consoles made stated-by)
        ∙ replay.own

    rerun-is : (out : List ℕ) → result_of_run out replay.again inputs
        ≡ written (run_names out (length whole.consoles)) later made lines (pieces_under out)
    rerun-is out =
        let images = map images_in inputs in
        let names = run_names out (length whole.consoles) in
        ap (λ count. run_of (run_names out count) later (prepared later images)) alike.many
        ∙ ap (λ (s : Consoles). run_of names later s) (prepared-alike whole later images alike)
        ∙ ap (λ asked. written names later (all_files asked cut.consoles) lines (pieces_under out))
        (asks-alike whole.consoles later.consoles alike.each)

    rerun-outputs : (out : List ℕ) → (result_of_run out replay.again inputs).outputs
        ≡ map (under out) (result_of_run [] job inputs).outputs
    rerun-outputs out =
        let count = length whole.consoles in
        ap (λ (run : Run). run.outputs) (rerun-is out)
        ∙ written-outputs out count whole later made lines (pieces_under out) stated-by same-log
        ∙ written-under out count whole made lines (pieces_under out) (pieces_under [])

    rerun-pieces : (out : List ℕ) → (result_of_run out replay.again inputs).pieces
        ≡ map (under out) (result_of_run [] job inputs).pieces
    rerun-pieces out =
        let names = run_names out (length whole.consoles) in
        ap (λ (run : Run). run.pieces) (rerun-is out)
        ∙ ap (λ log. pieces_under out ++ log_output names log ∷ []) same-log
        ∙ run-pieces-under out

    rerun-end : (out : List ℕ)
        → (result_of_run out replay.again inputs).end ≡ Ok (lines ++ log_line (log_of whole made))
    rerun-end out =
        ap (λ (run : Run). run.end) (rerun-is out)
        ∙ written-end out (length whole.consoles) whole later made lines (pieces_under out) stated-by same-log

pub run-again : (old new : Files) (first again : RunWords) (run : Run) → outcome old (whole_run_plan first) ≡ Ok run
    → HasLog old new first again run → RunsAgain new first again run
run-again old new first again run comes has =
    let d = done old first run comes in
    let job = d.job in
    let inputs = d.inputs in
    let is : IsJob job = sound d.says.bytes job d.says.says in
    let read = inputs-sound old job.consoles inputs is.each d.passes in
    let whole = filled job inputs in
    let made = files_at whole (end_with job inputs) in
    let many = made-many job inputs is read in
    let stated = all-stated whole.consoles made many in
    let replay = replayed old new job inputs (all_outs whole.consoles made) is
    (stated.long ∙ whole-many job inputs is read) stated.each d.passes (has.images job d.says) in
    let log : has.log ≡ log_of whole made =
    run-log job inputs is read first.out (log_file first.out) has.log has.is_log.others
    (ap (λ (r : Run). r.outputs) d.is ∙ has.is_log.last) in
    let says : job_of has.log ≡ Ok replay.again = ap job_of log ∙ replay.read in
    let short : length has.log ≤ longest_job = omega (arith, ap length log, log-fits job inputs is read) in
    let plain = (result_of_run [] job inputs).outputs in
    let summary = summary_lines (end_with job inputs).consoles ++ log_line (log_of whole made) in
    let was : run.outputs ≡ map (under first.out) plain =
    ap (λ (r : Run). r.outputs) (sym d.is) ∙ run-outputs job inputs is read first.out in
    let now : (result_of_run again.out replay.again inputs).outputs ≡ map (under again.out) plain =
    rerun-outputs job inputs is read new replay again.out in
    record {
      rerun = result_of_run again.out replay.again inputs;
      comes =
          comes-to new again replay.again inputs has.log has.there short says (has.apart replay.again says)
          replay.passes;
      bytes =
          ap (map bytes_of) now ∙ map-under again.out plain ∙ sym (ap (map bytes_of) was ∙ map-under first.out plain);
      files = plain;
      first_names = was;
      names = now;
      pieces = (result_of_run [] job inputs).pieces;
      first_pieces = ap (λ (r : Run). r.pieces) (sym d.is) ∙ run-pieces-under job inputs is read first.out;
      again_pieces = rerun-pieces job inputs is read new replay again.out;
      summary = summary;
      end = rerun-end job inputs is read new replay again.out;
      same = subst (λ (r : Run). IfOk r.end (λ end. end ≡ summary)) d.is (run-end job inputs is read first.out);
    }
