-- The files of the runs of commands.
use Rattle.std.proofs.Common.{◌≡◌, ℕ, suc, ◌+◌, ◌<◌, ◌∙◌, Bool, true, false, nat_le, List, [], ◌∷◌, ◌++◌, length, map, Option, Some, None, Result, Ok, Err, refl, sym, ap, subst, inl, arith, if◌then◌else◌}
use Rattle.std.specs.Prelude.{codes}
use Rattle.std.specs.List.{All, AllZip}
use Rattle.std.specs.Str.{bytes_eq}
use Rattle.std.proofs.lemmas.Fmt.{decimal_digit}
use Rattle.std.proofs.lemmas.List.{append-nil, length-append, length-map, map-append}
use Rattle.std.proofs.lemmas.List.Elements.{All-cons, All-nil}
use Rattle.gba_command.proofs.Comes.{outcome-done, outcome-parts}
use Rattle.gba_command.proofs.LeftFiles.{has-own-files, names-apart}
use Rattle.gba_command.proofs.Parts.{ArePart, all_differ, all_long, has_name, part-append, part-differ}
use Rattle.gba_command.specs.LeftFiles.{NamesDiffer, is_among, standard_output}
use Rattle.gba_command.specs.Cause.{Cause}
use Rattle.gba_command.specs.Plan.{file, judgement, outcome}
use Rattle.gba_command.specs.Words.{AreFreezeWords, Command, FreezeWords, GenerateWords, ResumeWords, RunWords, RunJob, Assemble, ListArm, ListThumb, Generate, Trace, Freeze, Resume, IsCommand, IsOut}
use Rattle.gba_command.specs.Writing.{Output, Run}
use Rattle.gba_console.specs.Machine.{Machine, forgotten, without_limit}
use Rattle.gba_dis.specs.declared.units.Set.TheVariants.{Arm, Thumb}
use Rattle.gba_frozen.specs.Reading.{longest_file}
use Rattle.gba_frozen.specs.declared.kinds.ThawKind.{ThawKind}
use Rattle.gba_frozen.specs.declared.kinds.ThawKind.TheVariants.{Spelling}
use Rattle.gba_generator.proofs.MadeJob.{job-sound}
use Rattle.gba_generator.specs.Job.{bios_file, job, job_file, job_text}
use Rattle.gba_generator.specs.Source.{bios}
use Rattle.gba_inputs.proofs.Replay.{judged-ok}
use Rattle.gba_inputs.proofs.SoundInputs.{filled-sound, filled_consoles-sound, inputs-sound, zip-long}
use Rattle.gba_inputs.specs.Filled.{filled}
use Rattle.gba_inputs.specs.Inputs.{ConsoleInputs}
use Rattle.gba_inputs.specs.InputsPlan.{inputs_plan}
use Rattle.gba_inputs.specs.Law.{AreInputs}
use Rattle.gba_joblog.proofs.Sound.{sound}
use Rattle.gba_joblog.specs.Job.{WholeJob}
use Rattle.gba_joblog.specs.Language.{job_of, longest_job}
use Rattle.gba_joblog.specs.declared.kinds.JobKind.TheVariants.{Long, Number}
use Rattle.gba_joblog.specs.Names.{is_name}
use Rattle.gba_joblog.specs.Soundness.{IsJob}
use Rattle.gba_link.proofs.Generated.{made-sound}
use Rattle.gba_link.proofs.RunsAgain.{done, said}
use Rattle.gba_link.specs.CommandPlan.{plan_of_command}
use Rattle.gba_link.specs.FilesLaw.{HasFilesUnder, IsUnder, out_of}
use Rattle.gba_link.specs.FreezePlan.{after_clock, after_inputs_frozen, clock_or_refusal, frozen_plan, result_of_freeze}
use Rattle.gba_link.specs.GeneratedRun.{generated_run, made_files, made_inputs}
use Rattle.gba_link.specs.ResumePlan.{after_frozen, after_inputs_resumed, frozen_refusal, resumed_plan, resumed_under, thawed_cut, thawed_run}
use Rattle.gba_link.specs.RunPlan.{after_job_for, images_in, job_or_refusal_for, job_plan_for, job_plan_with, job_refusal, result_of_run}
use Rattle.gba_link.specs.TracePlan.{after_inputs_traced, result_of_trace, trace_file, traced, traced_plan}
use Rattle.gba_run_files.proofs.Shortening.{job-unstated-sound, job-until-sound}
use Rattle.gba_run_files.proofs.OutputNames.{apart-under, differ-under, frozen-differ, frozen-under, outputs-differ, player_names, run_file_names, written-differ, written-part}
use Rattle.gba_run_files.proofs.OwnFiles.{own-after}
use Rattle.gba_run_files.proofs.RunAgain.{outputs-under, written-under}
use Rattle.gba_run_files.specs.Frozen.{console_so_far, console_unstated, frozen_name, job_digest, job_unstated, job_until}
use Rattle.gba_run_files.specs.Law.{FrozenRunsHaveOwnFiles, ResumedRunsHaveOwnFiles, RunsHaveOwnFiles, under}
use Rattle.gba_run_files.specs.Names.{names_from}
use Rattle.gba_run_files.specs.Pieces.{run_pieces}
use Rattle.gba_run_files.specs.Written.{files_at, summary_lines}
use Rattle.gba_session.proofs.Preparing.{start-can, start-long}
use Rattle.gba_session.specs.Held.{CanRun}
use Rattle.gba_session.specs.Session.{prepared, resumed, whole_cut}
use Rattle.gba_session.specs.Start.{start_of}
use Rattle.gba_snapshot.specs.File.{frozen_file}
use Rattle.gba_store.specs.Files.{Files}
use Rattle.gba_text.specs.Languages.{error_at}
use Rattle.gba_text.proofs.Steps.{ok-is}
use Rattle.gba_text.specs.declared.kinds.LineError.{LineError}
use Rattle.gba_thaw.specs.Law.{GoesOnFrom, ThawsSoundly}
use Rattle.link_node.specs.Delays.{hop_of}
use Rattle.link_node.specs.declared.delays.Delays.{Delays}
use Rattle.link_order.specs.Cut.{Cut, plain_cut}
use Rattle.gba_translate.specs.Translation.{after_assembly, after_image, image_plan, listed, one_file, source_plan}

all-under : (out : List ℕ) (files : List Output) → All (IsUnder out) (map (under out) files)
all-under out [] = All-nil (IsUnder out)
all-under out (file ∷ files) =
    All-cons (IsUnder out) (under out file) (map (under out) files) (record { rest = file.name; named = refl })
    (all-under out files)

-- ---- one file

name-apart : (name : List ℕ) → is_name name ≡ true → bytes_eq name standard_output ≡ false
unfolding is_name
name-apart name is =
    names-apart name standard_output (λ same.
    let dash : is_name standard_output ≡ true = subst (λ (n : List ℕ). is_name n ≡ true) same is in absurd cc)

file-under : (name word bytes : List ℕ) → IsOut name → HasFilesUnder name (one_file name word bytes)
unfolding NamesDiffer is_among
file-under name word bytes is =
    let file : Output = record { name = name; bytes = bytes } in
    let differ : NamesDiffer (file ∷ []) = (refl, tt) in
    let apart : is_among standard_output (file ∷ []) ≡ false = rw (name-apart name is.0) refl in
    record {
      differ = differ;
      own = has-own-files (file ∷ []) (one_file name word bytes).end differ apart;
      under =
          All-cons (IsUnder name) file [] (record { rest = []; named = sym (append-nil name) })
          (All-nil (IsUnder name));
    }

-- the trace
trace-apart : (out : List ℕ) → bytes_eq (trace_file out) standard_output ≡ false
trace-apart out =
    names-apart (trace_file out) standard_output (λ same.
    let long : length (trace_file out) ≡ 1 = ap (λ (name : List ℕ). length name) same in
    absurd (omega (arith, long, length-append out (codes ".trace"))))

trace-under : (out text : List ℕ) (lines : ℕ) → HasFilesUnder out (traced out text lines)
unfolding NamesDiffer is_among
trace-under out text lines =
    let file : Output = record { name = trace_file out; bytes = text } in
    let differ : NamesDiffer (file ∷ []) = (refl, tt) in
    let apart : is_among standard_output (file ∷ []) ≡ false = rw (trace-apart out) refl in
    record {
      differ = differ;
      own = has-own-files (file ∷ []) (traced out text lines).end differ apart;
      under = All-cons (IsUnder out) file [] (record { rest = codes ".trace"; named = refl }) (All-nil (IsUnder out));
    }

-- ---- a job

abbrev ok_job : WholeJob → Result WholeJob Cause
ok_job job = Ok job

module _ (law : RunsHaveOwnFiles) (frozen_law : FrozenRunsHaveOwnFiles) (resumed_law : ResumedRunsHaveOwnFiles)
    (thaws : ThawsSoundly)
  where
    job-under : (out : List ℕ) (said : WholeJob) (inputs : List ConsoleInputs) → IsJob said
        → AllZip AreInputs said.consoles inputs → HasFilesUnder out (result_of_run out said inputs)
    job-under out said inputs is read =
        let whole : WholeJob = filled said inputs in
        let images = map images_in inputs in
        let s = prepared whole images in
        let count = length whole.consoles in
        let fine : IsJob whole = filled-sound said inputs is read in
        let many : length images ≡ count =
        length-map inputs images_in ∙ sym (zip-long said.consoles inputs read)
        ∙ sym (filled_consoles-sound said.consoles inputs is.each read).long in
        let files = files_at whole (whole_cut s) in
        let lines = summary_lines (whole_cut s).consoles in
        let pieces = run_pieces (names_from out 0 count) s in
        record {
          differ = (written-differ out count whole files lines pieces fine.few_consoles).0;
          own = law out whole images fine many;
          under = subst (All (IsUnder out)) (sym (written-under out count whole files lines pieces pieces))
              (all-under out _);
        }

    -- ---- a job that is frozen

    -- what a command's job says is a sound one
    job-read : (files : Files) (frozen more : Option (List ℕ)) (words : RunWords) (job : WholeJob)
        → outcome files (job_plan_for frozen more words) ≡ Ok job → IsJob job
    job-read files frozen more words job h =
        let long = job_refusal words (error_at 0 Long) in
        let read = outcome-parts files (file words.job longest_job long) (after_job_for frozen more words) job h in
        sound read.0 job
        (said frozen more words job (job_of read.0)
        (judged-ok files (job_or_refusal_for frozen more words read.0) job read.2))

    clock-same : (files : Files) (words : FreezeWords) (asked found : WholeJob)
        → outcome files (judgement (clock_or_refusal words asked)) ≡ Ok found → found ≡ asked
    clock-same files words asked found h =
        by (nat_le words.clock asked.cycles) (judged-ok files (clock_or_refusal words asked) found h) where
          by : (early : Bool) → (if early then Ok asked else Err (job_refusal words.run (error_at 0 Number))) ≡ Ok found
              → found ≡ asked
          by true same = let is : ok_job asked ≡ ok_job found = same in sym (ok-is asked found is)
          by false same = absurd cc

    frozen-under-out : (words : FreezeWords) (said : WholeJob) (inputs : List ConsoleInputs) → AreFreezeWords words
        → IsJob said → AllZip AreInputs said.consoles inputs
        → HasFilesUnder words.run.out (result_of_freeze words said inputs)
    frozen-under-out words said inputs named is read =
        let out = words.run.out in
        let whole : WholeJob = job_until words.clock (job_unstated (filled said inputs)) in
        let images = map images_in inputs in
        let s = prepared whole images in
        let count = length whole.consoles in
        let unstated : IsJob (job_unstated (filled said inputs)) =
        job-unstated-sound (filled said inputs) (filled-sound said inputs is read) in
        let fine : IsJob whole =
        job-until-sound words.clock (job_unstated (filled said inputs)) named.some_cycles named.few_cycles unstated in
        let kept : count ≡ length (filled said inputs).consoles =
        length-map (job_unstated (filled said inputs)).consoles console_so_far
        ∙ length-map (filled said inputs).consoles console_unstated in
        let many : length images ≡ count =
        length-map inputs images_in ∙ sym (zip-long said.consoles inputs read)
        ∙ sym (filled_consoles-sound said.consoles inputs is.each read).long ∙ sym kept in
        let files = files_at whole (whole_cut s) in
        let text = frozen_file (job_digest (filled said inputs)) (whole_cut s) in
        record {
          differ = (frozen-differ out count whole.consoles files text fine.few_consoles).0;
          own = frozen_law out (job_digest (filled said inputs)) whole images fine many;
          under = subst (All (IsUnder out)) (sym (frozen-under out count whole.consoles files text)) (all-under out _);
        }

    -- ---- a job that goes on from where it was frozen

    can-go-on : (start cut : Cut Machine) → CanRun start → GoesOnFrom start cut → CanRun (plain_cut without_limit cut)
    can-go-on start cut can goes =
        let long = length-map cut.consoles without_limit in
        record {
          some_console = omega (arith, can.some_console, long, goes.many);
          delays = λ i j a b apart.
              subst (λ (d : Delays). 0 < hop_of d i j) (sym goes.delays)
              (can.delays i j (omega (arith, a, long, goes.many)) (omega (arith, b, long, goes.many)) apart);
          sound = goes.whole.sound;
        }

    each-empty : (ms : List Machine) → All (λ (m : Machine). without_limit m ≡ forgotten (without_limit m)) ms
        → map forgotten (map without_limit ms) ≡ map without_limit ms
    each-empty [] empty = refl
    each-empty (m ∷ ms) empty =
        ap (λ (one : Machine). one ∷ map forgotten (map without_limit ms)) (sym (empty 0 m (omega arith)))
        ∙ ap (λ (rest : List Machine). without_limit m ∷ rest)
        (each-empty ms (λ k d within. empty (suc k) d (omega (arith, within))))

    resumed-under-out : (out : List ℕ) (said : WholeJob) (inputs : List ConsoleInputs) (bytes : List ℕ)
        (cut : Cut Machine) → IsJob said → AllZip AreInputs said.consoles inputs → thawed_cut said inputs bytes ≡ Ok cut
        → HasFilesUnder out (resumed_under out (job_unstated (filled said inputs)) cut)
    resumed-under-out out said inputs bytes cut is read thawed =
        let job : WholeJob = job_unstated (filled said inputs) in
        let images = map images_in inputs in
        let count = length job.consoles in
        let fine : IsJob job = job-unstated-sound (filled said inputs) (filled-sound said inputs is read) in
        let kept : count ≡ length (filled said inputs).consoles =
        length-map (filled said inputs).consoles console_unstated in
        let many : length images ≡ count =
        length-map inputs images_in ∙ sym (zip-long said.consoles inputs read)
        ∙ sym (filled_consoles-sound said.consoles inputs is.each read).long ∙ sym kept in
        let start = start_of job images in
        let goes = thaws (job_digest (filled said inputs)) said.cycles start cut bytes thawed in
        let plain : Cut Machine = plain_cut without_limit cut in
        let s = resumed job plain in
        let files = files_at job (whole_cut s) in
        let long : length plain.consoles ≡ count =
        length-map cut.consoles without_limit ∙ goes.many ∙ start-long job images fine many in
        record {
          differ = (outputs-differ out count job.consoles files fine.few_consoles).0;
          own =
              resumed_law out job plain fine long (can-go-on start cut (start-can job images fine many) goes)
              goes.whole.live (each-empty cut.consoles goes.empty);
          under = subst (All (IsUnder out)) (sym (outputs-under out 0 count job.consoles files)) (all-under out _);
        }

    resumed-files : (words : ResumeWords) (said : WholeJob) (inputs : List ConsoleInputs) (bytes : List ℕ) (run : Run)
        → IsJob said → AllZip AreInputs said.consoles inputs → (thawed : Result (Cut Machine) (LineError ThawKind))
        → thawed_cut said inputs bytes ≡ thawed → thawed_run words (job_unstated (filled said inputs)) thawed ≡ Ok run
        → HasFilesUnder words.run.out run
    resumed-files words said inputs bytes run is read (Ok cut) same made =
        subst (HasFilesUnder words.run.out)
        (ok-is (resumed_under words.run.out (job_unstated (filled said inputs)) cut) run made)
        (resumed-under-out words.run.out said inputs bytes cut is read same)
    resumed-files words said inputs bytes run is read (Err error) same made = absurd cc

    -- ---- what `gen` makes

    plain_made : GenerateWords → List Output
    plain_made words =
        record { name = bios_file [] 0; bytes = bios words.number 0 } ∷ record {
          name = bios_file [] 1;
          bytes = bios words.number 1;
        }
        ∷ record { name = bios_file [] 2; bytes = bios words.number 2 } ∷ record {
          name = bios_file [] 3;
          bytes = bios words.number 3;
        }
        ∷ record { name = job_file []; bytes = job_text words.cycles words.out } ∷ []

    made-is : (words : GenerateWords) → made_files words ≡ map (under words.out) (plain_made words)
    unfolding plain_made
    made-is words = refl

    digit_bios : ℕ → List ℕ
    digit_bios player = codes "." ++ ((48 + player) ∷ codes ".bios")

    made_names : List (List ℕ)
    made_names = digit_bios 0 ∷ digit_bios 1 ∷ digit_bios 2 ∷ digit_bios 3 ∷ job_file [] ∷ []

    bios-digit : (player : ℕ) → player < 10 → bios_file [] player ≡ digit_bios player
    unfolding digit_bios
    bios-digit player few =
        ap (λ (digits : List ℕ). codes "." ++ (digits ++ codes ".bios")) (decimal_digit player (omega (arith, few)))

    made-part : (words : GenerateWords) → ArePart (plain_made words) made_names
    unfolding ArePart plain_made made_names
    made-part words =
        inl (
          bios-digit 0 (omega arith),
          inl (
            bios-digit 1 (omega arith),
            inl (
              bios-digit 2 (omega arith),
              inl (bios-digit 3 (omega arith), inl (refl, tt)),
            ),
          ),
        )

    four-differ : (all_differ (made_names ++ run_file_names 4) ≡ true)
        × (all_long (made_names ++ run_file_names 4) ≡ true)
    unfolding all_differ has_name all_long made_names digit_bios player_names
    four-differ = (refl, refl)

    all-differ : (count : ℕ) → count ≡ 4
        → (all_differ (made_names ++ run_file_names count) ≡ true)
        × (all_long (made_names ++ run_file_names count) ≡ true)
    all-differ count is =
        subst (λ (n : ℕ). (all_differ (made_names ++ run_file_names n) ≡ true)
        × (all_long (made_names ++ run_file_names n) ≡ true))
        (sym is) four-differ

    made-under : (words : GenerateWords) → IsCommand (Generate words) → HasFilesUnder words.out (generated_run words)
    made-under words fine =
        let out = words.out in
        let said : WholeJob = job words.cycles out in
        let inputs = made_inputs words.number in
        let is : IsJob said = job-sound words.cycles out fine.some_cycles fine.few_cycles fine.out in
        let read = made-sound words.number words.cycles out in
        let whole : WholeJob = filled said inputs in
        let s = prepared whole (map images_in inputs) in
        let count = length whole.consoles in
        let four : count ≡ 4 = (filled_consoles-sound said.consoles inputs is.each read).long in
        let files = files_at whole (whole_cut s) in
        let lines = summary_lines (whole_cut s).consoles in
        let pieces = run_pieces (names_from out 0 count) s in
        let plain : List Output = (result_of_run [] said inputs).outputs in
        let run = result_of_run out said inputs in
        let own : HasFilesUnder out run = job-under out said inputs is read in
        let outputs : made_files words ++ run.outputs ≡ map (under out) (plain_made words ++ plain) =
        ap (λ (files : List Output). files ++ run.outputs) (made-is words)
        ∙ ap (λ (files : List Output). map (under out) (plain_made words) ++ files)
        (written-under out count whole files lines pieces (run_pieces (names_from [] 0 count) s))
        ∙ sym (map-append (under out) (plain_made words) plain) in
        let part : ArePart (plain_made words ++ plain) (made_names ++ run_file_names count) =
        part-append (plain_made words) plain made_names (run_file_names count) (made-part words)
        (written-part count whole files lines (run_pieces (names_from [] 0 count) s) (omega (arith, four))) in
        let names = all-differ count four in
        let differ : NamesDiffer (made_files words ++ run.outputs) =
        subst NamesDiffer (sym outputs) (differ-under out (plain_made words ++ plain)
        (part-differ (plain_made words ++ plain) (made_names ++ run_file_names count) part names.0)) in
        let apart : is_among standard_output (made_files words ++ run.outputs) ≡ false =
        subst (λ (files : List Output). is_among standard_output files ≡ false) (sym outputs)
        (apart-under out (plain_made words ++ plain) (made_names ++ run_file_names count) part names.1) in
        record {
          differ = differ;
          own = own-after (made_files words) run differ apart own.own;
          under = subst (All (IsUnder out)) (sym outputs) (all-under out (plain_made words ++ plain));
        }

    -- ---- every command

    pub commands-under : (files : Files) (command : Command) (run : Run) → IsCommand command
        → outcome files (plan_of_command command) ≡ Ok run → HasFilesUnder (out_of command) run
    commands-under files (RunJob words) run fine h =
        let d = done files words run h in
        let is : IsJob d.job = sound d.says.bytes d.job d.says.says in
        subst (HasFilesUnder words.out) d.is
        (job-under words.out d.job d.inputs is (inputs-sound files d.job.consoles d.inputs is.each d.passes))
    commands-under files (Assemble words) run fine h =
        let parts = outcome-parts files (source_plan words.from) (after_assembly words) run h in
        let file = one_file words.to (codes "asm") parts.0 in
        subst (HasFilesUnder words.to) (ok-is file run (sym (outcome-done files file) ∙ parts.2))
        (file-under words.to (codes "asm") parts.0 fine.to)
    commands-under files (ListArm words) run fine h =
        let parts = outcome-parts files (image_plan words.from) (after_image Arm words) run h in
        let file = listed words.to Arm parts.0 in
        subst (HasFilesUnder words.to) (ok-is file run (sym (outcome-done files file) ∙ parts.2))
        (file-under words.to (codes "dis") _ fine.to)
    commands-under files (ListThumb words) run fine h =
        let parts = outcome-parts files (image_plan words.from) (after_image Thumb words) run h in
        let file = listed words.to Thumb parts.0 in
        subst (HasFilesUnder words.to) (ok-is file run (sym (outcome-done files file) ∙ parts.2))
        (file-under words.to (codes "dis") _ fine.to)
    commands-under files (Generate words) run fine h =
        subst (HasFilesUnder words.out)
        (ok-is (generated_run words) run (sym (outcome-done files (generated_run words)) ∙ h)) (made-under words fine)
    commands-under files (Trace words) run fine h =
        let parts =
        outcome-parts files (job_plan_with (Some (trace_file words.run.out)) words.run) (traced_plan words) run h in
        let job = parts.0 in
        let read = outcome-parts files (inputs_plan job.consoles) (after_inputs_traced words job) run parts.2 in
        let made = result_of_trace words job read.0 in
        subst (HasFilesUnder words.run.out) (ok-is made run (sym (outcome-done files made) ∙ read.2))
        (trace-under words.run.out _ _)
    commands-under files (Freeze words) run fine h =
        let parts =
        outcome-parts files (job_plan_with (Some (frozen_name words.run.out)) words.run) (frozen_plan words) run h in
        let asked = parts.0 in
        let read = job-read files None (Some (frozen_name words.run.out)) words.run asked parts.1 in
        let timed = outcome-parts files (judgement (clock_or_refusal words asked)) (after_clock words) run parts.2 in
        let same : timed.0 ≡ asked = clock-same files words asked timed.0 timed.1 in
        let inputs =
        outcome-parts files (inputs_plan timed.0.consoles) (after_inputs_frozen words timed.0) run timed.2 in
        let made = result_of_freeze words timed.0 inputs.0 in
        let is : IsJob timed.0 = subst IsJob (sym same) read in
        subst (HasFilesUnder words.run.out) (ok-is made run (sym (outcome-done files made) ∙ inputs.2))
        (frozen-under-out words timed.0 inputs.0 fine is
        (inputs-sound files timed.0.consoles inputs.0 is.each inputs.1))
    commands-under files (Resume words) run fine h =
        let parts = outcome-parts files (job_plan_for (Some words.frozen) None words.run) (resumed_plan words) run h in
        let job = parts.0 in
        let is = job-read files (Some words.frozen) None words.run job parts.1 in
        let read = outcome-parts files (inputs_plan job.consoles) (after_inputs_resumed words job) run parts.2 in
        let inputs = read.0 in
        let passes = inputs-sound files job.consoles inputs is.each read.1 in
        let long = frozen_refusal words (error_at 0 Spelling) in
        let found =
        outcome-parts files (file words.frozen longest_file long) (after_frozen words job inputs) run read.2 in
        resumed-files words job inputs found.0 run is passes (thawed_cut job inputs found.0) refl
        (judged-ok files (thawed_run words (job_unstated (filled job inputs)) (thawed_cut job inputs found.0)) run
        found.2)
