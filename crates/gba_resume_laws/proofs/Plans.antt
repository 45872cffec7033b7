-- What a freeze came to, and what a resume comes to.
use Rattle.std.proofs.Common.{◌≡◌, ◌≤◌, ℕ, ◌∙◌, Bool, true, false, nat_le, nat_lt, List, length, Some, None, Result, Ok, Err, refl, sym, ap, subst, arith, if◌then◌else◌}
use Rattle.std.proofs.lemmas.Bool.Decides.{nat_tests}
use Rattle.gba_command.proofs.Comes.{file-ok, outcome-done, outcome-parts, outcome-then}
use Rattle.gba_command.specs.Cause.{Cause}
use Rattle.gba_command.specs.Plan.{Done, file, judgement, outcome}
use Rattle.gba_command.specs.Words.{FreezeWords, ResumeWords}
use Rattle.gba_command.specs.Writing.{Run}
use Rattle.gba_console.specs.Machine.{Machine}
use Rattle.gba_frozen.specs.Reading.{longest_file}
use Rattle.gba_frozen.specs.declared.kinds.ThawKind.TheVariants.{Spelling}
use Rattle.gba_inputs.proofs.Replay.{judged-ok, ok-judged}
use Rattle.gba_inputs.specs.Filled.{filled}
use Rattle.gba_inputs.specs.Inputs.{ConsoleInputs}
use Rattle.gba_inputs.specs.InputsPlan.{inputs_plan}
use Rattle.gba_joblog.specs.Job.{WholeJob}
use Rattle.gba_joblog.specs.Kinds.{JobError}
use Rattle.gba_joblog.specs.Language.{job_of, longest_job}
use Rattle.gba_joblog.specs.declared.kinds.JobKind.TheVariants.{Long, Number}
use Rattle.gba_link.proofs.RunsAgain.{file-gives, file-there, said}
use Rattle.gba_link.proofs.SparesInputs.{said-once}
use Rattle.gba_link.specs.AgainLaw.{SaysJob}
use Rattle.gba_link.specs.FreezePlan.{after_clock, after_inputs_frozen, clock_or_refusal, freeze_plan, frozen_plan, result_of_freeze}
use Rattle.gba_link.specs.ResumePlan.{after_frozen, after_inputs_resumed, frozen_refusal, resume_plan, resumed_plan, resumed_under, run_or_refusal, thawed_cut}
use Rattle.gba_link.specs.RunPlan.{after_job_for, clash_for, job_or_refusal_for, job_plan_for, job_plan_with, job_refusal}
use Rattle.gba_run_files.specs.Frozen.{frozen_name, job_unstated}
use Rattle.gba_store.specs.Files.{Files}
use Rattle.gba_text.proofs.Steps.{ok-is}
use Rattle.gba_text.specs.Languages.{error_at}
use Rattle.link_order.specs.Cut.{Cut}

file-short : (files : Files) (name : List ℕ) (most : ℕ) (long : Cause) (bytes : List ℕ)
    → outcome files (file name most long) ≡ Ok bytes → length bytes ≤ most
unfolding outcome
file-short files name most long bytes h =
    let f = file-ok name most long (λ read. outcome files (Done read)) (files name) bytes h in
    let fits : nat_lt most (length f.0) ≡ false = f.1.short in
    subst (λ (b : List ℕ). length b ≤ most) (ok-is f.0 bytes f.2) (grind (arith, nat_tests, fits))

-- ---- freeze

-- CLOCK isn't above the job's cycles, JOB isn't too long, and this was written
pub record IsFrozen (old : Files) (words : FreezeWords) (job : WholeJob) (inputs : List ConsoleInputs)
    (first : Run) : Type 0
  where
    pub bytes : List ℕ
    pub there : old words.run.job ≡ Some bytes
    pub short : length bytes ≤ longest_job
    pub says : job_of bytes ≡ Ok job
    pub early : words.clock ≤ job.cycles
    pub is : result_of_freeze words job inputs ≡ first

record IsEarly (words : FreezeWords) (job found : WholeJob) : Type 0 where
  same : found ≡ job
  early : words.clock ≤ job.cycles

abbrev ok_job : WholeJob → Result WholeJob Cause
ok_job job = Ok job

clock-early : (words : FreezeWords) (job found : WholeJob) → clock_or_refusal words job ≡ Ok found
    → IsEarly words job found
clock-early words job found h = by (nat_le words.clock job.cycles) refl h where
  by : (test : Bool) → nat_le words.clock job.cycles ≡ test
      → (if test then Ok job else Err (job_refusal words.run (error_at 0 Number))) ≡ Ok found → IsEarly words job found
  by true early same =
      let is : ok_job job ≡ ok_job found = same in
      record { same = sym (ok-is job found is); early = grind (arith, nat_tests, early) }
  by false late same = absurd cc

pub was-frozen : (old : Files) (words : FreezeWords) (job : WholeJob) (inputs : List ConsoleInputs) (first : Run)
    → outcome old (freeze_plan words) ≡ Ok first → SaysJob old words.run.job job
    → outcome old (inputs_plan job.consoles) ≡ Ok inputs → IsFrozen old words job inputs first
was-frozen old words job inputs first h says passes =
    let more = Some (frozen_name words.run.out) in
    let long = job_refusal words.run (error_at 0 Long) in
    let parts = outcome-parts old (job_plan_with more words.run) (frozen_plan words) first h in
    let read =
    outcome-parts old (file words.run.job longest_job long) (after_job_for None more words.run) parts.0 parts.1 in
    let there = file-there old words.run.job longest_job long read.0 read.1 in
    let said_job =
    said None more words.run parts.0 (job_of read.0)
    (judged-ok old (job_or_refusal_for None more words.run read.0) parts.0 read.2) in
    let one : parts.0 ≡ job =
    said-once old words.run.job parts.0 job (record { bytes = read.0; there = there; says = said_job }) says in
    let clocked = outcome-parts old (judgement (clock_or_refusal words parts.0)) (after_clock words) first parts.2 in
    let early =
    clock-early words parts.0 clocked.0 (judged-ok old (clock_or_refusal words parts.0) clocked.0 clocked.1) in
    let same : clocked.0 ≡ job = early.same ∙ one in
    let ran =
    outcome-parts old (inputs_plan clocked.0.consoles) (after_inputs_frozen words clocked.0) first clocked.2 in
    let given : ran.0 ≡ inputs =
    ok-is ran.0 inputs
    (sym ran.1 ∙ ap (λ (j : WholeJob). outcome old (inputs_plan j.consoles)) same ∙ passes) in
    let made : result_of_freeze words clocked.0 ran.0 ≡ first =
    ok-is (result_of_freeze words clocked.0 ran.0) first
    (sym (outcome-done old (result_of_freeze words clocked.0 ran.0)) ∙ ran.2) in
    record {
      bytes = read.0;
      there = there;
      short = file-short old words.run.job longest_job long read.0 read.1;
      says = said_job ∙ ap ok_said one;
      early = subst (λ (j : WholeJob). words.clock ≤ j.cycles) one early.early;
      is =
          ap (λ (j : WholeJob). result_of_freeze words j inputs) (sym same)
          ∙ ap (λ (i : List ConsoleInputs). result_of_freeze words clocked.0 i) (sym given) ∙ made;
    }
  where
    ok_said : WholeJob → Result WholeJob JobError
    ok_said j = Ok j

-- ---- resume

pub will-resume : (new : Files) (words : ResumeWords) (job : WholeJob) (inputs : List ConsoleInputs)
    (bytes frozen : List ℕ) (made : Cut Machine) → new words.run.job ≡ Some bytes → length bytes ≤ longest_job
    → job_of bytes ≡ Ok job → clash_for (Some words.frozen) None words.run job ≡ None
    → outcome new (inputs_plan job.consoles) ≡ Ok inputs → new words.frozen ≡ Some frozen → length frozen ≤ longest_file
    → thawed_cut job inputs frozen ≡ Ok made
    → outcome new (resume_plan words) ≡ Ok (resumed_under words.run.out (job_unstated (filled job inputs)) made)
will-resume new words job inputs bytes frozen made there short says apart passes frozen_there frozen_short thawed =
    let long = job_refusal words.run (error_at 0 Long) in
    let run = resumed_under words.run.out (job_unstated (filled job inputs)) made in
    let judged : job_or_refusal_for (Some words.frozen) None words.run bytes ≡ Ok job = rw (says, apart) refl in
    let read =
    outcome-then new (file words.run.job longest_job long) (after_job_for (Some words.frozen) None words.run) bytes
    (Ok job) (file-gives new words.run.job longest_job long bytes there short)
    (ok-judged new (job_or_refusal_for (Some words.frozen) None words.run bytes) job judged) in
    let ends : run_or_refusal words job inputs frozen ≡ Ok run = rw thawed refl in
    let thaws =
    outcome-then new (file words.frozen longest_file (frozen_refusal words (error_at 0 Spelling)))
    (after_frozen words job inputs) frozen (Ok run)
    (file-gives new words.frozen longest_file (frozen_refusal words (error_at 0 Spelling)) frozen frozen_there
    frozen_short)
    (ok-judged new (run_or_refusal words job inputs frozen) run ends) in
    let ran =
    outcome-then new (inputs_plan job.consoles) (after_inputs_resumed words job) inputs (Ok run) passes thaws in
    outcome-then new (job_plan_for (Some words.frozen) None words.run) (resumed_plan words) job (Ok run) read ran
