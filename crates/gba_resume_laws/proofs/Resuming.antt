-- A job that is frozen and resumed writes what its run writes.
use Rattle.std.proofs.Common.{◌≡◌, ◌≤◌, ◌∙◌, ℕ, true, List, [], ◌∷◌, ◌++◌, length, map, Some, Ok, refl, sym, ap, subst}
use Rattle.std.specs.List.{AllZip, flat_map}
use Rattle.std.specs.Prelude.{Contains, slice_get}
use Rattle.std.proofs.lemmas.List.{length-map}
use Rattle.std.proofs.lemmas.List.Elements.{Contains-append_left}
use Rattle.gba_command.specs.Plan.{outcome}
use Rattle.gba_command.specs.Words.{FreezeWords, ResumeWords, RunWords}
use Rattle.gba_command.specs.Writing.{Output, Run}
use Rattle.gba_console.specs.Machine.{Machine}
use Rattle.gba_freeze_laws.specs.Length.{FrozenFilesAreShort}
use Rattle.gba_freeze_laws.specs.Parts.{FrozenRunsGoOn, GoesOn, HasParts, end_from}
use Rattle.gba_freeze_laws.specs.Reached.{RunsCanBeFrozen, reached}
use Rattle.gba_frozen.specs.Reading.{longest_file}
use Rattle.gba_image.specs.declared.images.ConsoleImages.{ConsoleImages}
use Rattle.gba_inputs.proofs.SoundInputs.{filled-sound, inputs-sound, zip-long}
use Rattle.gba_inputs.specs.Filled.{filled}
use Rattle.gba_inputs.specs.Inputs.{ConsoleInputs}
use Rattle.gba_inputs.specs.InputsPlan.{inputs_plan}
use Rattle.gba_inputs.specs.Law.{AreInputs}
use Rattle.gba_joblog.proofs.Digests.{IsDigest-sha256}
use Rattle.gba_joblog.proofs.Sound.{sound}
use Rattle.gba_joblog.specs.Job.{WholeJob}
use Rattle.gba_joblog.specs.Log.{log_text}
use Rattle.gba_joblog.specs.Soundness.{IsJob}
use Rattle.gba_link.proofs.KeptAsked.{filled-asks, kept}
use Rattle.gba_link.proofs.Runs.{inputs-fit}
use Rattle.gba_link.specs.AgainLaw.{SaysJob}
use Rattle.gba_link.specs.FreezePlan.{freeze_plan}
use Rattle.gba_link.specs.ResumePlan.{resume_plan, resumed_under, thawed_cut}
use Rattle.gba_link.specs.RunPlan.{end_with, images_in, whole_run_plan}
use Rattle.gba_output.specs.StateFile.{summary_line}
use Rattle.gba_run_files.specs.AskedLaw.{KeepsAsked, is_asked}
use Rattle.gba_run_files.specs.DigestsLaw.{Place, file_at}
use Rattle.gba_run_files.specs.Frozen.{console_so_far, console_unstated, freeze_names, frozen_name, job_digest, job_unstated, job_until}
use Rattle.gba_run_files.specs.Outputs.{outputs_of}
use Rattle.gba_run_files.specs.Written.{files_at, log_line, log_output}
use Rattle.gba_session.proofs.Advancing.{until-many}
use Rattle.gba_session.proofs.Consoles.{consoles-length, fit-long}
use Rattle.gba_session.specs.Files.{grows, output_bytes}
use Rattle.gba_session.specs.Start.{FitJob, run_until, start_of}
use Rattle.gba_snapshot.specs.File.{frozen_file}
use Rattle.gba_store.specs.Files.{Files}
use Rattle.gba_thaw.specs.Cut.{thaw_of}
use Rattle.gba_thaw_laws.proofs.Bytes.{below-bytes}
use Rattle.link_order.specs.Cut.{Cut}
use Rattle.gba_resume_laws.specs.Resuming.{CanBeResumed, FrozenJobsGoOnAsRun, GoesOnAsRun, HaveSavedBytes, IsInParts, Writes}
use Rattle.gba_resume_laws.proofs.Jobs.{asked-unstated, asked-until, start-unstated, start-until}
use Rattle.gba_resume_laws.proofs.Outputs.{has-output, if-ok, is-made, last-same, same-text}
use Rattle.gba_resume_laws.proofs.Plans.{IsFrozen, was-frozen, will-resume}

some-same : (x y : Machine) → Some x ≡ Some y → x ≡ y
some-same x y same = cc

bytes_in : Output → List ℕ
bytes_in output = output.bytes

module _ (freezes : RunsCanBeFrozen) (small : FrozenFilesAreShort) (goes : FrozenRunsGoOn) (old new : Files)
    (freeze : FreezeWords) (resume : ResumeWords) (words : RunWords) (job : WholeJob)
    (inputs : List ConsoleInputs) (first run : Run) (froze : outcome old (freeze_plan freeze) ≡ Ok first)
    (ran : outcome old (whole_run_plan words) ≡ Ok run) (says : SaysJob old freeze.run.job job)
    (says_whole : SaysJob old words.job job) (passes : outcome old (inputs_plan job.consoles) ≡ Ok inputs)
    (saved : HaveSavedBytes inputs) (can : CanBeResumed old new freeze resume job first) where
  abbrev whole : WholeJob
  whole = filled job inputs

  abbrev images : List ConsoleImages
  images = map images_in inputs

  abbrev digest : List ℕ
  digest = job_digest whole

  -- the job that is frozen, and the one that is resumed
  abbrev frozen_job : WholeJob
  frozen_job = job_until freeze.clock (job_unstated whole)

  abbrev plain_job : WholeJob
  plain_job = job_unstated whole

  is : IsJob job
  is = sound says.bytes job says.says

  read : AllZip AreInputs job.consoles inputs
  read = inputs-sound old job.consoles inputs is.each passes

  fine : IsJob whole
  fine = filled-sound job inputs is read

  fits : FitJob whole images
  fits = inputs-fit job.consoles inputs read

  was : IsFrozen old freeze job inputs first
  was = was-frozen old freeze job inputs first froze says passes

  -- ---- the consoles

  start-frozen : start_of frozen_job images ≡ start_of whole images
  start-frozen = start-until freeze.clock (job_unstated whole) images ∙ start-unstated whole images

  frozen-cut : run_until freeze.clock (start_of frozen_job images) ≡ reached whole images freeze.clock
  frozen-cut = ap (run_until freeze.clock) start-frozen

  reached-many : length (reached whole images freeze.clock).consoles ≡ length whole.consoles
  reached-many =
      until-many freeze.clock (start_of whole images)
      ∙ consoles-length whole 0 whole.consoles images (fit-long whole.consoles images fits)

  -- ---- the frozen file

  abbrev text : List ℕ
  text = frozen_file digest (reached whole images freeze.clock)

  frozen-bytes : can.frozen.bytes ≡ text
  frozen-bytes =
      let names = freeze_names freeze.run.out (length frozen_job.consoles) in
      let cut = run_until freeze.clock (start_of frozen_job images) in
      let outputs = outputs_of names.consoles frozen_job.consoles (files_at frozen_job cut) in
      let both : outputs ++ log_output names (frozen_file digest cut) ∷ []
      ≡ can.frozen.others ++ record { name = frozen_name freeze.run.out; bytes = can.frozen.bytes } ∷ [] =
      ap (λ (r : Run). r.outputs) was.is ∙ can.frozen.last in
      let last = last-same outputs can.frozen.others (log_output names (frozen_file digest cut))
      (record { name = frozen_name freeze.run.out; bytes = can.frozen.bytes }) both in
      sym (ap (λ (o : Output). o.bytes) last) ∙ ap (frozen_file digest) frozen-cut

  going : GoesOn digest whole images freeze.clock
  going =
      let one = IsDigest-sha256 (log_text (job_unstated whole)) in
      goes digest whole images freeze.clock one.sized (below-bytes digest (λ place within. one.bytes place)) fine fits
      saved was.early

  thawed : thawed_cut job inputs can.frozen.bytes ≡ Ok going.made
  thawed =
      ap (λ (start : Cut Machine). thaw_of digest job.cycles start can.frozen.bytes) (start-unstated whole images)
      ∙ ap (thaw_of digest job.cycles (start_of whole images)) frozen-bytes ∙ going.thawed

  short : length can.frozen.bytes ≤ longest_file
  short =
      let one = IsDigest-sha256 (log_text (job_unstated whole)) in
      subst (λ (bytes : List ℕ). length bytes ≤ longest_file) (sym frozen-bytes)
      (small digest whole.cycles (start_of whole images) (reached whole images freeze.clock) one.sized
      (freezes whole images freeze.clock fine fits saved was.early))

  -- ---- the resumed run

  abbrev last : Cut Machine
  last = end_from whole going.made

  abbrev second : Run
  second = resumed_under resume.run.out plain_job going.made

  comes : outcome new (resume_plan resume) ≡ Ok second
  comes =
      will-resume new resume job inputs was.bytes can.frozen.bytes going.made (can.same_job ∙ was.there) was.short
      was.says can.apart (can.same_inputs ∙ passes) can.frozen.there short thawed

  last-many : length last.consoles ≡ length plain_job.consoles
  last-many =
      sym (length-map last.consoles summary_line) ∙ ap (λ (lines : List (List ℕ)). length lines) (sym going.lines)
      ∙ length-map (end_with job inputs).consoles summary_line
      ∙ until-many whole.cycles (start_of whole images)
      ∙ consoles-length whole 0 whole.consoles images (fit-long whole.consoles images fits)
      ∙ sym (length-map whole.consoles console_unstated)

  -- ---- the files

  asked-whole : (place : Place) → is_asked job place ≡ true → is_asked whole place ≡ true
  asked-whole place asked =
      filled-asks place.kind job.consoles inputs place.player (zip-long job.consoles inputs read) ∙ asked

  keeps : KeepsAsked words.out job (end_with job inputs) run
  keeps = kept old words job inputs run ran says_whole passes

  -- what the frozen run wrote of a player
  frozen-writes : (place : Place) (before : Machine) → is_asked job place ≡ true → grows place.kind ≡ true
      → slice_get (reached whole images freeze.clock).consoles place.player ≡ Some before
      → Writes first (file_at freeze.run.out place) (output_bytes place.kind before)
  frozen-writes place before asked grown there =
      let names = freeze_names freeze.run.out (length frozen_job.consoles) in
      let many =
      reached-many ∙ sym (length-map whole.consoles console_unstated)
      ∙ sym (length-map plain_job.consoles console_so_far) in
      let one =
      has-output freeze.run.out frozen_job (reached whole images freeze.clock) place many
      (asked-until freeze.clock plain_job place grown ∙ asked-unstated whole place ∙ asked-whole place asked) in
      let same = some-same one.console before (sym one.of_player ∙ there) in
      let file : Output = record { name = file_at freeze.run.out place; bytes = output_bytes place.kind before } in
      let cut = run_until freeze.clock (start_of frozen_job images) in
      let outputs = outputs_of names.consoles frozen_job.consoles (files_at frozen_job cut) in
      let written : Contains outputs file =
      subst (λ (c : Cut Machine). Contains (outputs_of names.consoles frozen_job.consoles (files_at frozen_job c)) file)
      (sym frozen-cut)
      (subst
      (λ (m : Machine).
      Contains (outputs_of names.consoles frozen_job.consoles (files_at frozen_job (reached whole images freeze.clock)))
      (record { name = file_at freeze.run.out place; bytes = output_bytes place.kind m }))
      same one.written) in
      subst (λ (r : Run). Contains r.outputs file) was.is
      (Contains-append_left outputs (log_output names (frozen_file digest cut) ∷ []) file written)

  -- and the resumed one
  resumed-writes : (place : Place) (after : Machine) → is_asked job place ≡ true
      → slice_get last.consoles place.player ≡ Some after
      → Writes second (file_at resume.run.out place) (output_bytes place.kind after)
  resumed-writes place after asked there =
      let one =
      has-output resume.run.out plain_job last place last-many (asked-unstated whole place ∙ asked-whole place asked) in
      let same = some-same one.console after (sym one.of_player ∙ there) in
      subst
      (λ (m : Machine).
      Contains second.outputs (record { name = file_at resume.run.out place; bytes = output_bytes place.kind m }))
      same one.written

  in-parts : (place : Place) → is_asked job place ≡ true → IsInParts freeze resume words first second run place
  in-parts place asked =
      let file = keeps.asked place asked in
      let has : HasParts (reached whole images freeze.clock) last place.player file.console =
      going.consoles place.player file.console file.of_player in
      let same = is-made place.kind file.console file.bytes file.made ∙ has.parts.bytes place.kind in
      record {
        before = output_bytes place.kind has.before;
        after = output_bytes place.kind has.after;
        frozen = λ grown. frozen-writes place has.before asked grown has.is_before;
        resumed = resumed-writes place has.after asked has.is_after;
        ran =
            subst (λ (bytes : List ℕ). Writes run (file_at words.out place) bytes) same file.written;
      }

  pub goes-on-as : GoesOnAsRun new freeze resume words job first run
  goes-on-as = record {
    second = second;
    comes = comes;
    parts = in-parts;
    lines = flat_map summary_line last.consoles;
    end = refl;
    run_end =
        if-ok run.end
        (λ summary is. (
          keeps.log,
          is ∙ ap (λ (lines : List ℕ). lines ++ log_line keeps.log)
              (same-text (end_with job inputs).consoles last.consoles going.lines),
        ))
        keeps.summary;
  }

pub go-on : RunsCanBeFrozen → FrozenFilesAreShort → FrozenRunsGoOn → FrozenJobsGoOnAsRun
go-on freezes small goes old new freeze resume words job inputs first run froze ran says says_whole passes saved can =
    goes-on-as freezes small goes old new freeze resume words job inputs first run froze ran says says_whole passes
    saved can
