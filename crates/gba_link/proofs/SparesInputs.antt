-- No file of a run is one that it read.
use Rattle.std.proofs.Common.{◌≡◌, ℕ, ◌+◌, Bool, true, false, List, [], ◌∷◌, length, map, Option, Some, None, Ok, refl, sym, ap, ◌∙◌, subst, nat_le}
use Rattle.std.specs.Prelude.{IfSome, if◌then◌else◌}
use Rattle.std.specs.List.{All}
use Rattle.std.proofs.lemmas.List.Elements.{All-cons, All-nil}
use Rattle.std.specs.Str.{bytes_eq}
use Rattle.gba_command.proofs.Comes.{outcome-parts}
use Rattle.gba_command.proofs.Parts.{neither}
use Rattle.gba_command.specs.Cause.{Cause}
use Rattle.gba_command.specs.Plan.{file, outcome}
use Rattle.gba_command.specs.Words.{RunWords}
use Rattle.gba_command.specs.Writing.{Run}
use Rattle.gba_inputs.proofs.Replay.{judged-ok}
use Rattle.gba_inputs.specs.Filled.{filled, filled_console, filled_consoles}
use Rattle.gba_inputs.specs.Inputs.{ConsoleInputs}
use Rattle.gba_joblog.specs.Clash.{any_line_of, clash_of, clash_with, console_clash, console_writes, inputs_clash, is_output, least, line_of, log_file, writes}
use Rattle.gba_joblog.specs.Job.{ConsoleJob, NamedFile, WholeJob}
use Rattle.gba_joblog.specs.Language.{job_of, longest_job}
use Rattle.gba_joblog.specs.declared.kinds.JobKind.TheVariants.{Long}
use Rattle.gba_link.proofs.RunsAgain.{done, file-there}
use Rattle.gba_link.specs.AgainLaw.{SaysJob}
use Rattle.gba_link.specs.InputsLaw.{Spares, SparesConsole, SparesFile}
use Rattle.gba_link.specs.RunPlan.{after_job, images_in, job_or_refusal, job_plan, job_refusal, result_of_run, run_plan, unless_clash, whole_run_plan, without_clash}
use Rattle.gba_run_files.proofs.OutputsApart.{written-apart}
use Rattle.gba_run_files.specs.Written.{files_at}
use Rattle.gba_session.specs.Session.{prepared, whole_cut}
use Rattle.gba_store.specs.Files.{Files}
use Rattle.gba_text.proofs.Steps.{ok-is, some-is}
use Rattle.gba_text.specs.Languages.{error_at}

-- ---- the job that is run

-- a file says one job
pub said-once : (files : Files) (name : List ℕ) (one other : WholeJob) → SaysJob files name one
    → SaysJob files name other → one ≡ other
said-once files name one other is also =
    let bytes : is.bytes ≡ also.bytes = some-is is.bytes also.bytes (sym is.there ∙ also.there) in
    ok-is one other (sym is.says ∙ ap job_of bytes ∙ also.says)

unclashed : (words : RunWords) (job found : WholeJob) (clash : Option ℕ) → unless_clash words found clash ≡ Ok job
    → clash ≡ None
unclashed words job found None h = refl
unclashed words job found (Some line) h = absurd cc

-- it has no clash
apart-said : (files : Files) (words : RunWords) (job : WholeJob) (run : Run)
    → outcome files (whole_run_plan words) ≡ Ok run → SaysJob files words.job job
    → clash_of job words.job words.out ≡ None
apart-said files words job run comes says =
    let parts = outcome-parts files (job_plan words) (run_plan words) run comes in
    let long : Cause = job_refusal words (error_at 0 Long) in
    let read = outcome-parts files (file words.job longest_job long) (after_job words) parts.0 parts.1 in
    let there = file-there files words.job longest_job long read.0 read.1 in
    let bytes : read.0 ≡ says.bytes = some-is read.0 says.bytes (sym there ∙ says.there) in
    let judged : without_clash words (Ok job) ≡ Ok parts.0
    = ap (without_clash words) (sym (ap job_of bytes ∙ says.says))
    ∙ judged-ok files (job_or_refusal words read.0) parts.0 read.2 in
    unclashed words parts.0 job (clash_of job words.job words.out) judged

-- ---- what is no output of the job is none of the run

filled-writes : (out name : List ℕ) (player : ℕ) (consoles : List ConsoleJob) (inputs : List ConsoleInputs)
    → writes out player consoles name ≡ false → writes out player (filled_consoles consoles inputs) name ≡ false
unfolding writes filled_consoles console_writes
filled-writes out name player [] inputs apart = refl
filled-writes out name player (c ∷ consoles) [] apart = refl
filled-writes out name player (c ∷ consoles) (i ∷ inputs) apart =
    let n = neither (console_writes out player c name) (writes out (player + 1) consoles name) apart in
    let here : console_writes out player (filled_console c i) name ≡ false = n.0 in
    rw here (filled-writes out name (player + 1) consoles inputs n.1)

filled-apart : (out name : List ℕ) (consoles : List ConsoleJob) (inputs : List ConsoleInputs)
    → is_output out consoles name ≡ false → is_output out (filled_consoles consoles inputs) name ≡ false
unfolding is_output
filled-apart out name consoles inputs apart =
    let n = neither (bytes_eq name (log_file out)) (writes out 0 consoles name) apart in
    rw n.0 (filled-writes out name 0 consoles inputs n.1)

run-apart : (out name : List ℕ) (job : WholeJob) (inputs : List ConsoleInputs) → is_output out job.consoles name ≡ false
    → Spares (result_of_run out job inputs) name
run-apart out name job inputs apart =
    let whole : WholeJob = filled job inputs in
    written-apart out name (length whole.consoles) whole
    (files_at whole (whole_cut (prepared whole (map images_in inputs))))
    [] [] (filled-apart out name job.consoles inputs apart)

-- ---- the inputs of a job without a clash

both-none : (a b : Option ℕ) → least a b ≡ None → (a ≡ None) × (b ≡ None)
both-none None b h = (refl, h)
both-none (Some m) None h = absurd cc
both-none (Some m) (Some n) h = absurd (by (nat_le m n) h) where
  by : (t : Bool) → (if t then Some m else Some n) ≡ None → ⊥
  by true h = cc
  by false h = cc

module _ (is_written : List ℕ → Bool) (run : Run)
    (free : (name : List ℕ) → is_written name ≡ false → Spares run name) where
  file-spared : (named : NamedFile) → line_of is_written named ≡ None → SparesFile run named
  file-spared named apart = by (is_written named.name) refl apart where
    by : (t : Bool) → is_written named.name ≡ t → (if t then Some named.line else None) ≡ None → SparesFile run named
    by true is h = absurd cc
    by false is h = free named.name is

  any-spared : (named : Option NamedFile) → any_line_of is_written named ≡ None → IfSome named (SparesFile run)
  any-spared None apart = tt
  any-spared (Some named) apart = file-spared named apart

  console-spared : (console : ConsoleJob) → console_clash is_written console ≡ None → SparesConsole run console
  unfolding console_clash
  console-spared console apart =
      let keys : Option ℕ = any_line_of is_written console.keys in
      let save : Option ℕ = any_line_of is_written console.save in
      let cart : Option ℕ = any_line_of is_written console.cart in
      let b = both-none (line_of is_written console.bios) (least cart (least save keys)) apart in
      let c = both-none cart (least save keys) b.1 in
      let s = both-none save keys c.1 in
      record {
        bios = file-spared console.bios b.0;
        cart = any-spared console.cart c.0;
        save = any-spared console.save s.0;
        keys = any-spared console.keys s.1;
      }

  consoles-spared : (consoles : List ConsoleJob) → inputs_clash is_written consoles ≡ None
      → All (SparesConsole run) consoles
  unfolding inputs_clash
  consoles-spared [] apart = All-nil (SparesConsole run)
  consoles-spared (c ∷ consoles) apart =
      let b = both-none (console_clash is_written c) (inputs_clash is_written consoles) apart in
      All-cons (SparesConsole run) c consoles (console-spared c b.0) (consoles-spared consoles b.1)

  job-spared : (job : WholeJob) (name : List ℕ)
      → (if is_written name then Some 0 else inputs_clash is_written job.consoles) ≡ None
      → Spares run name × All (SparesConsole run) job.consoles
  job-spared job name apart = by (is_written name) refl apart where
    by : (t : Bool) → is_written name ≡ t → (if t then Some 0 else inputs_clash is_written job.consoles) ≡ None
        → Spares run name × All (SparesConsole run) job.consoles
    by true is h = absurd cc
    by false is h = (free name is, consoles-spared job.consoles h)

pub spared : (files : Files) (words : RunWords) (job : WholeJob) (run : Run)
    → outcome files (whole_run_plan words) ≡ Ok run → SaysJob files words.job job
    → Spares run words.job × All (SparesConsole run) job.consoles
unfolding clash_with
spared files words job run comes says =
    let d = done files words run comes in
    let same : d.job ≡ job = said-once files words.job d.job job d.says says in
    let free : (name : List ℕ) → is_output words.out job.consoles name ≡ false → Spares run name
    = λ name apart. subst (λ (r : Run). Spares r name) d.is (run-apart words.out name d.job d.inputs
    (ap (λ (j : WholeJob). is_output words.out j.consoles name) same ∙ apart)) in
    job-spared (is_output words.out job.consoles) run free job words.job (apart-said files words job run comes says)
