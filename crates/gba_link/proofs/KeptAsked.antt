-- A run writes what its job asks for.
use Rattle.std.proofs.Common.{◌≡◌, ◌⊎◌, ℕ, zero, suc, ◌+◌, List, [], ◌∷◌, length, map, Ok, refl, sym, ap, ◌∙◌, subst, inl, inr, arith}
use Rattle.std.specs.List.{AllZip, sum_by}
use Rattle.std.specs.Prelude.{is_some, option_and_then, slice_get}
use Rattle.std.proofs.lemmas.List.{length-map}
use Rattle.std.proofs.lemmas.List.Elements.{All-weaker}
use Rattle.std.proofs.lemmas.List.Sums.{sum_by-cons}
use Rattle.gba_command.specs.Plan.{outcome}
use Rattle.gba_command.specs.Words.{RunWords}
use Rattle.gba_command.specs.Writing.{Output, Run}
use Rattle.gba_console.specs.Machine.{Machine}
use Rattle.gba_inputs.proofs.SoundInputs.{inputs-sound, zip-long}
use Rattle.gba_inputs.specs.Filled.{filled, filled_console, filled_consoles}
use Rattle.gba_inputs.specs.Inputs.{ConsoleInputs}
use Rattle.gba_inputs.specs.InputsPlan.{inputs_plan}
use Rattle.gba_inputs.specs.Law.{AreInputs}
use Rattle.gba_joblog.proofs.Sound.{sound}
use Rattle.gba_joblog.specs.Clash.{log_file}
use Rattle.gba_joblog.specs.Job.{ConsoleJob, WholeJob}
use Rattle.gba_joblog.specs.Soundness.{IsJob}
use Rattle.gba_joblog.specs.declared.outputs.OutKind.{OutKind}
use Rattle.gba_link.proofs.RunsAgain.{done, made-many}
use Rattle.gba_link.proofs.SparesInputs.{said-once}
use Rattle.gba_link.specs.AgainLaw.{SaysJob}
use Rattle.gba_link.specs.RunPlan.{end_with, images_in, result_of_run, whole_run_plan}
use Rattle.gba_run_files.proofs.Asked.{keeps-asked}
use Rattle.gba_run_files.specs.AskedLaw.{IsAskedFile, KeepsAsked, asked_count, console_count, is_asked, line_in}
use Rattle.gba_run_files.specs.DigestsLaw.{Place}
use Rattle.gba_run_files.specs.Names.{names_from}
use Rattle.gba_run_files.specs.Pieces.{run_pieces}
use Rattle.gba_session.proofs.Advancing.{until-many}
use Rattle.gba_session.proofs.Consoles.{consoles-length}
use Rattle.gba_session.specs.Start.{start_of}
use Rattle.gba_session.specs.Session.{prepared}
use Rattle.gba_store.specs.Files.{Files}
use Rattle.gba_text.proofs.Steps.{ok-is}
use Rattle.link_order.specs.Cut.{Cut}

-- ---- what a job asks for is no input

pub filled-asks : (kind : OutKind) (consoles : List ConsoleJob) (inputs : List ConsoleInputs) (k : ℕ)
    → length consoles ≡ length inputs
    → is_some (option_and_then (line_in kind) (slice_get (filled_consoles consoles inputs) k))
    ≡ is_some (option_and_then (line_in kind) (slice_get consoles k))
unfolding filled_consoles
filled-asks kind [] inputs k many = refl
filled-asks kind (c ∷ consoles) [] k many = absurd (omega (arith, many))
filled-asks kind (c ∷ consoles) (i ∷ inputs) zero many = refl
filled-asks kind (c ∷ consoles) (i ∷ inputs) (suc k) many = filled-asks kind consoles inputs k (omega (arith, many))

filled-count : (consoles : List ConsoleJob) (inputs : List ConsoleInputs) → length consoles ≡ length inputs
    → sum_by console_count (filled_consoles consoles inputs) ≡ sum_by console_count consoles
unfolding filled_consoles
filled-count [] inputs many = refl
filled-count (c ∷ consoles) [] many = absurd (omega (arith, many))
filled-count (c ∷ consoles) (i ∷ inputs) many =
    sum_by-cons console_count (filled_console c i) (filled_consoles consoles inputs)
    ∙ ap (λ (n : ℕ). console_count c + n) (filled-count consoles inputs (omega (arith, many)))
    ∙ sym (sum_by-cons console_count c consoles)

pub filled-long : (consoles : List ConsoleJob) (inputs : List ConsoleInputs) → length consoles ≡ length inputs
    → length (filled_consoles consoles inputs) ≡ length consoles
unfolding filled_consoles
filled-long [] inputs many = refl
filled-long (c ∷ consoles) [] many = absurd (omega (arith, many))
filled-long (c ∷ consoles) (i ∷ inputs) many =
    let rest = filled-long consoles inputs (omega (arith, many)) in omega (arith, rest)

-- a job that asks for the same
module _ (out : List ℕ) (job other : WholeJob) (cut : Cut Machine) (run : Run)
    (same : (place : Place) → is_asked other place ≡ is_asked job place) (count : asked_count other ≡ asked_count job)
    (long : length other.consoles ≡ length job.consoles) where
  file-asked : (output : Output) → IsAskedFile out other cut output → IsAskedFile out job cut output
  file-asked output f = record {
    place = f.place;
    asked = sym (same f.place) ∙ f.asked;
    named = f.named;
    console = f.console;
    of_player = f.of_player;
    made = f.made;
  }

  ours : (log output : Output) → IsAskedFile out other cut output ⊎ (output ≡ log)
      → IsAskedFile out job cut output ⊎ (output ≡ log)
  ours log output (inl f) = inl (file-asked output f)
  ours log output (inr is) = inr is

  asks-same : KeepsAsked out other cut run → KeepsAsked out job cut run
  asks-same keeps =
      let log : Output = record { name = log_file out; bytes = keeps.log } in
      record {
        log = keeps.log;
        asked = λ place asked. keeps.asked place (same place ∙ asked);
        only = All-weaker (λ output. IsAskedFile out other cut output ⊎ (output ≡ log))
            (λ output. IsAskedFile out job cut output ⊎ (output ≡ log)) (ours log) run.outputs keeps.only;
        log_there = keeps.log_there;
        many = keeps.many ∙ ap (λ (n : ℕ). n + 1) count;
        players = keeps.players ∙ long;
        summary = keeps.summary;
      }

-- ---- the run

run-keeps : (out : List ℕ) (job : WholeJob) (inputs : List ConsoleInputs) → IsJob job
    → AllZip AreInputs job.consoles inputs → KeepsAsked out job (end_with job inputs) (result_of_run out job inputs)
run-keeps out job inputs is read =
    let whole : WholeJob = filled job inputs in
    let cut : Cut Machine = end_with job inputs in
    let count : ℕ = length whole.consoles in
    let read_all = zip-long job.consoles inputs read in
    let long = filled-long job.consoles inputs read_all in
    let images = map images_in inputs in
    let many = until-many whole.cycles (start_of whole images)
    ∙ consoles-length whole 0 whole.consoles images (length-map inputs images_in ∙ sym read_all ∙ sym long) in
    let pieces = run_pieces (names_from out 0 count) (prepared whole (map images_in inputs)) in
    asks-same out job whole cut (result_of_run out job inputs)
    (λ place. filled-asks place.kind job.consoles inputs place.player read_all)
    (filled-count job.consoles inputs read_all) long
    (keeps-asked out whole cut pieces count refl many (made-many job inputs is read))

pub kept : (files : Files) (words : RunWords) (job : WholeJob) (inputs : List ConsoleInputs) (run : Run)
    → outcome files (whole_run_plan words) ≡ Ok run → SaysJob files words.job job
    → outcome files (inputs_plan job.consoles) ≡ Ok inputs → KeepsAsked words.out job (end_with job inputs) run
kept files words job inputs run comes says passes =
    let d = done files words run comes in
    let same : d.job ≡ job = said-once files words.job d.job job d.says says in
    let read : d.inputs ≡ inputs = ok-is d.inputs inputs
    (sym d.passes ∙ ap (λ (j : WholeJob). outcome files (inputs_plan j.consoles)) same ∙ passes) in
    let is : IsJob job = sound says.bytes job says.says in
    let there : result_of_run words.out job inputs ≡ run
    = ap (λ (j : WholeJob). result_of_run words.out j inputs) (sym same)
    ∙ ap (λ (i : List ConsoleInputs). result_of_run words.out d.job i) (sym read) ∙ d.is in
    subst (λ (r : Run). KeepsAsked words.out job (end_with job inputs) r) there
    (run-keeps words.out job inputs is (inputs-sound files job.consoles inputs is.each passes))
