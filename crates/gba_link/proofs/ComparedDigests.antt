-- Every digest that a job states of an output is compared with that of its bytes.
use Rattle.std.proofs.Common.{◌≡◌, ℕ, zero, suc, List, [], ◌∷◌, length, map, Result, Ok, Err, refl, sym, ◌∙◌, subst, arith}
use Rattle.std.specs.List.{AllZip}
use Rattle.std.specs.Prelude.{option_and_then, slice_get}
use Rattle.gba_command.specs.Cause.{Cause, NoCommand, Job, Image, Digest, Source, Frozen}
use Rattle.gba_command.specs.Plan.{outcome}
use Rattle.gba_command.specs.Words.{RunWords}
use Rattle.gba_command.specs.Writing.{Run}
use Rattle.gba_inputs.proofs.SoundInputs.{inputs-sound, zip-long}
use Rattle.gba_inputs.specs.Filled.{filled, filled_consoles}
use Rattle.gba_inputs.specs.Inputs.{ConsoleInputs}
use Rattle.gba_inputs.specs.Law.{AreInputs}
use Rattle.gba_joblog.proofs.Sound.{sound}
use Rattle.gba_joblog.specs.Job.{ConsoleJob, WholeJob}
use Rattle.gba_joblog.specs.Soundness.{IsJob}
use Rattle.gba_joblog.specs.declared.outputs.OutKind.{OutKind}
use Rattle.gba_link.proofs.RunsAgain.{done, made-many}
use Rattle.gba_link.proofs.SparesInputs.{said-once}
use Rattle.gba_link.specs.AgainLaw.{SaysJob}
use Rattle.gba_link.specs.RunPlan.{end_with, images_in, result_of_run, whole_run_plan}
use Rattle.gba_run_files.proofs.Compared.{written-compared}
use Rattle.gba_run_files.specs.DigestsLaw.{Compares, Place, stated_at, stated_in}
use Rattle.gba_run_files.specs.Names.{names_from}
use Rattle.gba_run_files.specs.Pieces.{run_pieces}
use Rattle.gba_run_files.specs.Written.{files_at, summary_lines}
use Rattle.gba_session.specs.Session.{prepared}
use Rattle.gba_store.specs.Files.{Files}

-- what a job states of its outputs is no input
filled-stated : (kind : OutKind) (consoles : List ConsoleJob) (inputs : List ConsoleInputs) (k : ℕ)
    → length consoles ≡ length inputs → option_and_then (stated_in kind) (slice_get (filled_consoles consoles inputs) k)
    ≡ option_and_then (stated_in kind) (slice_get consoles k)
unfolding filled_consoles
filled-stated kind [] inputs k many = refl
filled-stated kind (c ∷ consoles) [] k many = absurd (omega (arith, many))
filled-stated kind (c ∷ consoles) (i ∷ inputs) zero many = refl
filled-stated kind (c ∷ consoles) (i ∷ inputs) (suc k) many = filled-stated kind consoles inputs k (omega (arith, many))

-- a job that states the same of its outputs
module _ (out : List ℕ) (job other : WholeJob) (run : Run)
    (same : (place : Place) → stated_at other place ≡ stated_at job place) where
  restated : (end : Result (List ℕ) Cause) → Compares out other run end → Compares out job run end
  restated (Ok summary) h = λ place digest says. h place digest (same place ∙ says)
  restated (Err (Digest name stated got)) h = record {
    place = h.place;
    named = h.named;
    says = sym (same h.place) ∙ h.says;
    has = h.has;
    differs = h.differs;
    earlier = λ before digest order says. h.earlier before digest order (same before ∙ says);
  }
  restated (Err NoCommand) h = h
  restated (Err (Job name error)) h = h
  restated (Err (Image name error)) h = h
  restated (Err (Source name error)) h = h
  restated (Err (Frozen name error)) h = h

pub run-compared : (out : List ℕ) (job : WholeJob) (inputs : List ConsoleInputs) → IsJob job
    → AllZip AreInputs job.consoles inputs
    → Compares out job (result_of_run out job inputs) (result_of_run out job inputs).end
run-compared out job inputs is read =
    let whole : WholeJob = filled job inputs in
    let many = made-many job inputs is read in
    let lines : List ℕ = summary_lines (end_with job inputs).consoles in
    let count : ℕ = length whole.consoles in
    let pieces = run_pieces (names_from out 0 count) (prepared whole (map images_in inputs)) in
    let run : Run = result_of_run out job inputs in
    restated out job whole run
    (λ place. filled-stated place.kind job.consoles inputs place.player (zip-long job.consoles inputs read)) run.end
    (written-compared out count whole (files_at whole (end_with job inputs)) lines pieces refl many)

pub compared : (files : Files) (words : RunWords) (job : WholeJob) (run : Run)
    → outcome files (whole_run_plan words) ≡ Ok run → SaysJob files words.job job → Compares words.out job run run.end
compared files words job run comes says =
    let d = done files words run comes in
    let same : d.job ≡ job = said-once files words.job d.job job d.says says in
    let is : IsJob d.job = sound d.says.bytes d.job d.says.says in
    subst (λ (j : WholeJob). Compares words.out j run run.end) same
    (subst (λ (r : Run). Compares words.out d.job r r.end) d.is
    (run-compared words.out d.job d.inputs is (inputs-sound files d.job.consoles d.inputs is.each d.passes)))
