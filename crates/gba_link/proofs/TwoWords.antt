-- The answer 2 comes of wrong words alone.
use Rattle.std.proofs.Common.{◌≡◌, ℕ, List, Option, Some, None, Result, Ok, Err, refl, ap, ◌∙◌, length, map}
use Rattle.std.specs.Prelude.{codes}
use Rattle.gba_store.specs.declared.outside.ReadError.{ReadError}
use Rattle.gba_command.proofs.Comes.{ComesTo, comes-bind, comes-done, goes-comes}
use Rattle.gba_command.specs.Answer.{Answers, Closes, Concludes}
use Rattle.gba_command.specs.Cause.{Cause, NoCommand, Job, Image, Digest, Source, Frozen, Stop, Refused, Absent, StoreFails, LacksMemory, status_of, stop_status}
use Rattle.gba_command.specs.Reading.{GoesTo}
use Rattle.gba_command.specs.Words.{Command, FileWords, RunJob, Assemble, ListArm, ListThumb, Generate, Trace, Freeze, Resume, ResumeWords}
use Rattle.gba_command.specs.Writing.{Run, SinkFails, SinkLacks, SinkState, WriteEnd, Wrote}
use Rattle.gba_console.specs.Machine.{Machine}
use Rattle.gba_dis.specs.declared.units.Set.{Set}
use Rattle.gba_dis.specs.declared.units.Set.TheVariants.{Arm, Thumb}
use Rattle.gba_frozen.specs.Reading.{longest_file}
use Rattle.gba_frozen.specs.declared.kinds.ThawKind.{ThawKind}
use Rattle.gba_frozen.specs.declared.kinds.ThawKind.TheVariants.{Spelling}
use Rattle.gba_generator.specs.Job.{job}
use Rattle.gba_inputs.specs.Filled.{filled}
use Rattle.gba_inputs.specs.Inputs.{ConsoleInputs}
use Rattle.gba_inputs.specs.InputsPlan.{inputs_plan}
use Rattle.gba_joblog.specs.Job.{WholeJob}
use Rattle.gba_link.proofs.WrongWords.{refused-words}
use Rattle.gba_link.specs.CommandPlan.{command_plan, plan_of_command}
use Rattle.gba_command.specs.Plan.{file, judgement}
use Rattle.gba_link.specs.FreezePlan.{after_clock, after_inputs_frozen, clock_or_refusal, frozen_plan, result_of_freeze}
use Rattle.gba_link.specs.ResumePlan.{after_frozen, after_inputs_resumed, frozen_refusal, resumed_plan, resumed_under, thawed_cut, thawed_run}
use Rattle.gba_run_files.specs.Frozen.{frozen_name, job_unstated}
use Rattle.gba_link.specs.GeneratedRun.{generated_run, made_inputs}
use Rattle.gba_link.specs.RunPlan.{after_inputs, end_with, images_in, job_plan, job_plan_for, job_plan_with, result_of_run, run_plan}
use Rattle.gba_link.specs.TracePlan.{after_inputs_traced, result_of_trace, trace_file, traced_plan}
use Rattle.gba_run_files.proofs.Compared.{written-cause}
use Rattle.gba_run_files.specs.Names.{run_names}
use Rattle.gba_run_files.specs.Pieces.{run_pieces}
use Rattle.gba_run_files.specs.Written.{files_at, summary_lines}
use Rattle.gba_session.specs.Session.{prepared}
use Rattle.gba_text.specs.Languages.{error_at}
use Rattle.gba_text.specs.declared.kinds.LineError.{LineError}
use Rattle.link_order.specs.Cut.{Cut}
use Rattle.gba_translate.specs.Translation.{after_assembly, after_image, image_plan, listed, listing_plan, one_file, source_plan}

abbrev refused_run : Cause → Result Run Cause
refused_run cause = Err cause

-- ---- a run that is written isn't refused for the words

result-fine : (out : List ℕ) (said : WholeJob) (inputs : List ConsoleInputs)
    → (result_of_run out said inputs).end ≡ Err NoCommand → ⊥
result-fine out said inputs h =
    let whole : WholeJob = filled said inputs in
    let names = run_names out (length whole.consoles) in
    let c =
    written-cause names whole (files_at whole (end_with said inputs)) (summary_lines (end_with said inputs).consoles)
    (run_pieces names.consoles (prepared whole (map images_in inputs))) NoCommand h in
    let is = c.3 in absurd cc

file-fine : (name word bytes : List ℕ) (run : Run) → one_file name word bytes ≡ run → run.end ≡ Err NoCommand → ⊥
file-fine name word bytes run is h = let both = ap (λ (r : Run). r.end) is ∙ h in absurd cc

-- a refusal comes to nothing
no-come : (cause : Cause) (run : Run) → ComesTo (judgement (refused_run cause)) run → ⊥
unfolding ComesTo
no-come cause run h = h

listing-fine : (set : Set) (words : FileWords) (run : Run) → ComesTo (listing_plan set words) run
    → run.end ≡ Err NoCommand → ⊥
listing-fine set words run h =
    let b = comes-bind (image_plan words.from) (after_image set words) run h in
    let is : listed words.to set b.0 ≡ run = comes-done (listed words.to set b.0) run b.2 in
    λ e. let both = ap (λ (r : Run). r.end) is ∙ e in absurd cc

resumed-fine : (words : ResumeWords) (job : WholeJob) (said : Result (Cut Machine) (LineError ThawKind)) (run : Run)
    → ComesTo (judgement (thawed_run words job said)) run → run.end ≡ Err NoCommand → ⊥
resumed-fine words job (Ok cut) run h e =
    let is = comes-done (resumed_under words.run.out job cut) run h in
    let both = ap (λ (r : Run). r.end) is ∙ e in absurd cc
resumed-fine words job (Err error) run h e = absurd (no-come (frozen_refusal words error) run h)

run-fine : (command : Command) (run : Run) → ComesTo (plan_of_command command) run → run.end ≡ Err NoCommand → ⊥
run-fine (RunJob words) run h e =
    let b = comes-bind (job_plan words) (run_plan words) run h in
    let i = comes-bind (inputs_plan b.0.consoles) (after_inputs words b.0) run b.2 in
    let is = comes-done (result_of_run words.out b.0 i.0) run i.2 in
    result-fine words.out b.0 i.0 (ap (λ (r : Run). r.end) is ∙ e)
run-fine (Assemble words) run h e =
    let b = comes-bind (source_plan words.from) (after_assembly words) run h in
    file-fine words.to (codes "asm") b.0 run (comes-done (one_file words.to (codes "asm") b.0) run b.2) e
run-fine (ListArm words) run h e = listing-fine Arm words run h e
run-fine (ListThumb words) run h e = listing-fine Thumb words run h e
run-fine (Generate words) run h e =
    let is = comes-done (generated_run words) run h in
    result-fine words.out (job words.cycles words.out) (made_inputs words.number) (ap (λ (r : Run). r.end) is ∙ e)
run-fine (Trace words) run h e =
    let b = comes-bind (job_plan_with (Some (trace_file words.run.out)) words.run) (traced_plan words) run h in
    let i = comes-bind (inputs_plan b.0.consoles) (after_inputs_traced words b.0) run b.2 in
    let is = comes-done (result_of_trace words b.0 i.0) run i.2 in
    let both = ap (λ (r : Run). r.end) is ∙ e in absurd cc
run-fine (Freeze words) run h e =
    let b = comes-bind (job_plan_with (Some (frozen_name words.run.out)) words.run) (frozen_plan words) run h in
    let k = comes-bind (judgement (clock_or_refusal words b.0)) (after_clock words) run b.2 in
    let i = comes-bind (inputs_plan k.0.consoles) (after_inputs_frozen words k.0) run k.2 in
    let is = comes-done (result_of_freeze words k.0 i.0) run i.2 in
    let both = ap (λ (r : Run). r.end) is ∙ e in absurd cc
run-fine (Resume words) run h e =
    let b = comes-bind (job_plan_for (Some words.frozen) None words.run) (resumed_plan words) run h in
    let i = comes-bind (inputs_plan b.0.consoles) (after_inputs_resumed words b.0) run b.2 in
    let f =
    comes-bind (file words.frozen longest_file (frozen_refusal words (error_at 0 Spelling)))
    (after_frozen words b.0 i.0) run i.2 in
    resumed-fine words (job_unstated (filled b.0 i.0)) (thawed_cut b.0 i.0 f.0) run f.2 e

-- ---- who answers 2

cause-two : (cause : Cause) → 2 ≡ status_of cause → cause ≡ NoCommand
cause-two NoCommand h = refl
cause-two (Job name error) h = absurd cc
cause-two (Image name error) h = absurd cc
cause-two (Digest name stated got) h = absurd cc
cause-two (Source name error) h = absurd cc
cause-two (Frozen name error) h = absurd cc

stop-two : (stop : Stop) → 2 ≡ stop_status stop → stop ≡ Refused NoCommand
stop-two (Refused cause) h = ap (λ (c : Cause). Refused c) (cause-two cause h)
stop-two (Absent name) h = absurd cc
stop-two (StoreFails name) h = absurd cc
stop-two LacksMemory h = absurd cc

module _ (Tells : Type 0) where
  concluded-two : (end : Result (List ℕ) Cause) (old new : SinkState) → Concludes Tells 2 end old new
      → end ≡ Err NoCommand
  concluded-two (Ok summary) old new h = absurd (let is : 2 ≡ 0 = h.0 in cc)
  concluded-two (Err cause) old new h = ap (λ (c : Cause). Err c) (cause-two cause h.0)

  closed-two : (end : Result (List ℕ) Cause) (calls : WriteEnd) (old new : SinkState) → Closes Tells 2 end calls old new
      → end ≡ Err NoCommand
  closed-two end Wrote old new h = concluded-two end old new h
  closed-two end (SinkFails name) old new h = absurd (let is : 2 ≡ 9 = h.0 in cc)
  closed-two end SinkLacks old new h = absurd (let is : 2 ≡ 10 = h.0 in cc)

  module _ {Store : Type 0} (gives : List ℕ → ℕ → Result (List ℕ) ReadError → Store → Store → Type 0) where
    pub two-words : (command : Option Command) (old new : Store) (end : Result Run Stop) (before after : SinkState)
        → GoesTo gives (command_plan command) old new end → Answers Tells 2 end before after → command ≡ None
    two-words None old new end before after goes answers = refl
    two-words (Some command) old new (Ok run) before after goes answers =
        absurd (run-fine command run (goes-comes gives (plan_of_command command) old new run goes)
        (closed-two run.end answers.1 answers.0 after answers.3))
    two-words (Some command) old new (Err stop) before after goes answers =
        refused-words gives (Some command) old new (Err stop) goes (ap (λ (s : Stop). Err s) (stop-two stop answers.0))
