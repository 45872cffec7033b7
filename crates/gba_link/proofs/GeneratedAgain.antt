-- What `gen` makes can be run.
use Rattle.std.proofs.Common.{◌≡◌, ◌≢◌, ◌≤◌, ℕ, zero, suc, ◌+◌, Bool, false, List, [], ◌∷◌, ◌++◌, ◌∙◌, length, map, Option, Some, None, Result, Ok, Err, refl, sym, ap, arith, append_assoc, length-append, lit<}
use Rattle.std.specs.Prelude.{IfOk, codes, decimal, option_map, ◌&&◌}
use Rattle.std.specs.List.{AllZip}
use Rattle.std.specs.Str.{bytes_eq}
use Rattle.std.proofs.Math.Bool.{and-false}
use Rattle.gba_command.proofs.Comes.{outcome-done, outcome-then}
use Rattle.gba_command.proofs.LeftFiles.{names-apart}
use Rattle.gba_command.specs.Cause.{Cause, NoCommand, Job, Image, Digest, Source, Frozen}
use Rattle.gba_command.specs.Plan.{file, outcome}
use Rattle.gba_command.specs.Words.{AreGenerateWords, GenerateWords}
use Rattle.gba_command.specs.Writing.{Output, Run}
use Rattle.gba_generator.proofs.Assembled.{bios-fine, is-code}
use Rattle.gba_generator.proofs.MadeJob.{job-read, job-sound, text-short}
use Rattle.gba_generator.specs.Job.{bios_file, console, job, job_file, job_text}
use Rattle.gba_generator.specs.Law.{IsReadAs}
use Rattle.gba_generator.specs.Source.{bios}
use Rattle.gba_image.specs.declared.backup.Backup.{Backup}
use Rattle.gba_image.specs.declared.backup.Backup.TheVariants.{Sram}
use Rattle.gba_image.specs.declared.error.ImageError.TheVariants.{BiosLength}
use Rattle.gba_inputs.proofs.Replay.{Has, gives-each, image-unlined, ok-judged}
use Rattle.gba_inputs.specs.Inputs.{ConsoleInputs, digested}
use Rattle.gba_inputs.specs.InputsPlan.{accepted, after_bios, after_cart, after_keys, after_save, any_cart_plan, any_keys_plan, any_save_plan, bios_form, bios_plan, inputs_of, inputs_plan, judged_image}
use Rattle.gba_inputs.specs.Law.{AreInputs}
use Rattle.gba_joblog.specs.Clash.{clash_of, clash_with, console_clash, console_writes, inputs_clash, is_output, log_file, output_file, writes, writes_as}
use Rattle.gba_joblog.specs.Job.{ConsoleJob, NamedFile, WholeJob}
use Rattle.gba_joblog.specs.Language.{longest_job}
use Rattle.gba_joblog.specs.LogLaw.{unlined_console, unlined_file}
use Rattle.gba_joblog.specs.Soundness.{IsJob}
use Rattle.gba_joblog.specs.Statements.{asks_for}
use Rattle.gba_joblog.specs.declared.job.KeyChange.{KeyChange}
use Rattle.gba_joblog.specs.declared.outputs.OutKind.{OutKind}
use Rattle.gba_joblog.specs.declared.outputs.OutKind.TheVariants.{Frames, Samples, Words, State, Save}
use Rattle.gba_link.proofs.ComparedDigests.{run-compared}
use Rattle.gba_link.proofs.Generated.{made-sound}
use Rattle.gba_link.proofs.RunUnlined.{same-run}
use Rattle.gba_link.proofs.RunsAgain.{comes-to, file-gives, run-end, run-outputs, run-pieces-under}
use Rattle.gba_link.specs.GeneratedLaw.{HasMade, RunsAsMade, made_run}
use Rattle.gba_link.specs.GeneratedRun.{bare_inputs, job_output, made_files, made_inputs}
use Rattle.gba_link.specs.RunPlan.{end_with, result_of_run}
use Rattle.gba_inputs.specs.Filled.{filled}
use Rattle.gba_run_files.specs.DigestsLaw.{Compares, Place, stated_at, stated_in}
use Rattle.gba_run_files.specs.Written.{files_at, log_line, log_of, summary_lines}
use Rattle.gba_store.specs.Files.{Files}

-- ---- names by their last two bytes

record EndsIn (name : List ℕ) (x y : ℕ) : Type 0 where
  front : List ℕ
  is : name ≡ front ++ x ∷ y ∷ []

same-ends : (one other : List ℕ) (x y u v : ℕ) → one ++ x ∷ y ∷ [] ≡ other ++ u ∷ v ∷ [] → (x ≡ u) × (y ≡ v)
same-ends [] [] x y u v h = (cc, cc)
same-ends [] (b ∷ other) x y u v h =
    let many = ap length h in absurd (omega (arith, many, length-append other (u ∷ v ∷ [])))
same-ends (a ∷ one) [] x y u v h =
    let many = ap length h in absurd (omega (arith, many, length-append one (x ∷ y ∷ [])))
same-ends (a ∷ one) (b ∷ other) x y u v h =
    let rest : one ++ x ∷ y ∷ [] ≡ other ++ u ∷ v ∷ [] = cc in same-ends one other x y u v rest

ends-apart : (one other : List ℕ) (x y u v : ℕ) → EndsIn one x y → EndsIn other u v → ((x ≡ u) × (y ≡ v) → ⊥)
    → bytes_eq one other ≡ false
ends-apart one other x y u v first second apart =
    names-apart one other
    (λ same. apart (same-ends first.front second.front x y u v (sym first.is ∙ same ∙ second.is)))

player-ends : (out : List ℕ) (player : ℕ) (text : List ℕ) (x y : ℕ)
    → EndsIn (out ++ (codes "." ++ (decimal player ++ (text ++ x ∷ y ∷ [])))) x y
player-ends out player text x y = record {
  front = out ++ (codes "." ++ (decimal player ++ text));
  is = simp append_assoc;
}

name-ends : (out text : List ℕ) (x y : ℕ) → EndsIn (out ++ (text ++ x ∷ y ∷ [])) x y
name-ends out text x y = record { front = out ++ text; is = simp append_assoc }

-- a name that ends as those of images and jobs is that of no output
module _ (out name : List ℕ) (y : ℕ) (ends : EndsIn name 111 y) where
  file-apart : (player : ℕ) (kind : OutKind) → bytes_eq name (output_file out player kind) ≡ false
  file-apart player Frames =
      ends-apart name (output_file out player Frames) 111 y 101 115 ends
      (player-ends out player (codes ".fram") 101 115) (λ same. let first = same.0 in omega (arith, first))
  file-apart player Samples =
      ends-apart name (output_file out player Samples) 111 y 101 115 ends
      (player-ends out player (codes ".sampl") 101 115) (λ same. let first = same.0 in omega (arith, first))
  file-apart player Words =
      ends-apart name (output_file out player Words) 111 y 100 115 ends (player-ends out player (codes ".wor") 100 115)
      (λ same. let first = same.0 in omega (arith, first))
  file-apart player State =
      ends-apart name (output_file out player State) 111 y 116 101 ends (player-ends out player (codes ".sta") 116 101)
      (λ same. let first = same.0 in omega (arith, first))
  file-apart player Save =
      ends-apart name (output_file out player Save) 111 y 118 101 ends (player-ends out player (codes ".sa") 118 101)
      (λ same. let first = same.0 in omega (arith, first))

  kind-apart : (player : ℕ) (console : ConsoleJob) (kind : OutKind) → writes_as out player console name kind ≡ false
  kind-apart player console kind =
      ap (λ (t : Bool). asks_for console kind && t) (file-apart player kind) ∙ and-false (asks_for console kind)

  console-apart : (player : ℕ) (console : ConsoleJob) → console_writes out player console name ≡ false
  unfolding console_writes
  console-apart player console =
      let frames = kind-apart player console Frames in
      let samples = kind-apart player console Samples in
      let words = kind-apart player console Words in
      let state = kind-apart player console State in
      let save = kind-apart player console Save in
      rw (frames, samples, words, state, save) refl

  consoles-apart : (player : ℕ) (consoles : List ConsoleJob) → writes out player consoles name ≡ false
  unfolding writes
  consoles-apart player [] = refl
  consoles-apart player (c ∷ consoles) =
      let here = console-apart player c in rw here (consoles-apart (player + 1) consoles)

  output-apart : (consoles : List ConsoleJob) → y ≢ 103 → is_output out consoles name ≡ false
  unfolding is_output
  output-apart consoles apart =
      let log : bytes_eq name (log_file out) ≡ false
      = ends-apart name (log_file out) 111 y 111 103 ends (name-ends out (codes ".l") 111 103) (λ same. apart same.1) in
      rw log (consoles-apart 0 consoles)

-- ---- the job as it is read

abbrev IsLike : ConsoleJob → ConsoleJob → Type 0
IsLike later one = unlined_console later ≡ unlined_console one

zip-like : (later consoles : List ConsoleJob) → map unlined_console later ≡ map unlined_console consoles
    → AllZip IsLike later consoles
zip-like [] [] same = tt
zip-like [] (c ∷ consoles) same = absurd cc
zip-like (l ∷ later) [] same = absurd cc
zip-like (l ∷ later) (c ∷ consoles) same =
    let first : unlined_console l ≡ unlined_console c = cc in
    let rest : map unlined_console later ≡ map unlined_console consoles = cc in (first, zip-like later consoles rest)

none-named : (named : Option NamedFile) → option_map unlined_file named ≡ None → named ≡ None
none-named None same = refl
none-named (Some named) same = absurd cc

module _ (made : List ℕ) (player : ℕ) (later : ConsoleJob) (like : IsLike later (console made player)) where
  no-cart : later.cart ≡ None
  no-cart = none-named later.cart (ap (λ (c : ConsoleJob). c.cart) like)

  no-save : later.save ≡ None
  no-save = none-named later.save (ap (λ (c : ConsoleJob). c.save) like)

  no-keys : later.keys ≡ None
  no-keys = none-named later.keys (ap (λ (c : ConsoleJob). c.keys) like)

  in-sram : later.backup ≡ Sram
  in-sram = ap (λ (c : ConsoleJob). c.backup) like

  no-changes : later.changes ≡ []
  no-changes = ap (λ (c : ConsoleJob). c.changes) like

  bios-name : later.bios.name ≡ bios_file made player
  bios-name = ap (λ (c : ConsoleJob). c.bios.name) like

  -- no file of it is an output
  unclashed : (is_written : List ℕ → Bool) → is_written (bios_file made player) ≡ false
      → console_clash is_written later ≡ None
  unfolding console_clash
  unclashed is_written free =
      let bios : is_written later.bios.name ≡ false = ap is_written bios-name ∙ free in
      let cart = no-cart in
      let save = no-save in
      let keys = no-keys in
      rw (bios, cart, save, keys) refl

  -- it has its image alone
  given : (files : Files) (number : ℕ) → files (bios_file made player) ≡ Some (bios number player)
      → Has files later (bare_inputs (bios number player))
  given files number there =
      let image : List ℕ = bios number player in
      let named : NamedFile = (console made player).bios in
      let fine = bios-fine number player in
      let is : accepted bios_form named image ≡ Ok (digested image) = rw fine refl in
      let short : length image ≤ 16384 = omega (arith, (is-code number player).whole) in
      let read =
      outcome-then files (file named.name 16384 (Image named.name BiosLength)) (judged_image bios_form named) image
      (Ok (digested image)) (file-gives files named.name 16384 (Image named.name BiosLength) image there short)
      (ok-judged files (accepted bios_form named image) (digested image) is) in
      let first : outcome files (bios_plan later.bios) ≡ Ok (digested image)
      = image-unlined files bios_form later.bios named (ap (λ (c : ConsoleJob). c.bios) like) ∙ read in
      let cart : outcome files (any_cart_plan later.cart) ≡ Ok None
      = ap (λ (n : Option NamedFile). outcome files (any_cart_plan n)) no-cart ∙ outcome-done files None in
      let save : outcome files (any_save_plan later.backup later.save) ≡ Ok None
      = ap (λ (n : Option NamedFile). outcome files (any_save_plan later.backup n)) no-save ∙ outcome-done files None in
      let keys : outcome files (any_keys_plan later.changes later.keys) ≡ Ok []
      = ap (λ (n : Option NamedFile). outcome files (any_keys_plan later.changes n)) no-keys
      ∙ outcome-done files later.changes ∙ ap (λ (c : List KeyChange). Ok c) no-changes in
      let inputs : ConsoleInputs = bare_inputs image in
      outcome-then files (bios_plan later.bios) (after_bios later) (digested image) (Ok inputs) first
      (outcome-then files (any_cart_plan later.cart) (after_cart later (digested image)) None (Ok inputs) cart
      (outcome-then files (any_save_plan later.backup later.save) (after_save later (digested image) None) None
      (Ok inputs) save
      (outcome-then files (any_keys_plan later.changes later.keys) (after_keys later.backup (digested image) None None)
      [] (Ok inputs) keys
      (outcome-done files (inputs_of later.backup (digested image) None None [])
      ∙ ap (λ (kind : Backup). Ok (inputs_of kind (digested image) None None [])) in-sram))))

-- the same of all consoles
abbrev Reads : Files → ConsoleJob → ConsoleInputs → Type 0
Reads files one inputs = (later : ConsoleJob) → IsLike later one → Has files later inputs

all-given : (files : Files) (later consoles : List ConsoleJob) (inputs : List ConsoleInputs)
    → AllZip IsLike later consoles → AllZip (Reads files) consoles inputs → AllZip (Has files) later inputs
all-given files [] [] [] like reads = tt
all-given files [] [] (i ∷ inputs) like reads = absurd reads
all-given files [] (c ∷ consoles) inputs like reads = absurd like
all-given files (l ∷ later) [] inputs like reads = absurd like
all-given files (l ∷ later) (c ∷ consoles) [] like reads = absurd reads
all-given files (l ∷ later) (c ∷ consoles) (i ∷ inputs) like reads =
    (reads.0 l like.0, all-given files later consoles inputs like.1 reads.1)

abbrev IsFree : (List ℕ → Bool) → ConsoleJob → ConsoleJob → Type 0
IsFree is_written one same = (later : ConsoleJob) → IsLike later one → console_clash is_written later ≡ None

all-free : (is_written : List ℕ → Bool) (later consoles : List ConsoleJob) → AllZip IsLike later consoles
    → AllZip (IsFree is_written) consoles consoles → inputs_clash is_written later ≡ None
unfolding inputs_clash
all-free is_written [] consoles like free = refl
all-free is_written (l ∷ later) [] like free = absurd like
all-free is_written (l ∷ later) (c ∷ consoles) like free =
    let here = free.0 l like.0 in rw here (all-free is_written later consoles like.1 free.1)

no-clash : (cycles : ℕ) (made out : List ℕ) (again : WholeJob) → AllZip IsLike again.consoles (job cycles made).consoles
    → clash_of again (job_file made) out ≡ None
unfolding clash_with
no-clash cycles made out again like =
    let is_written : List ℕ → Bool = is_output out again.consoles in
    let whole : is_written (job_file made) ≡ false
    = output-apart out (job_file made) 98 (name-ends made (codes ".j") 111 98) again.consoles
    (λ same. omega (arith, same)) in
    let image : (player : ℕ) → is_written (bios_file made player) ≡ false
    = λ player. output-apart out (bios_file made player) 115 (player-ends made player (codes ".bi") 111 115)
    again.consoles (λ same. omega (arith, same)) in
    let free : (player : ℕ) → IsFree is_written (console made player) (console made player)
    = λ player later same. unclashed made player later same is_written (image player) in
    rw whole (all-free is_written again.consoles (job cycles made).consoles like (
      free 0,
      (free 1, (free 2, (free 3, tt))),
    ))

-- ---- no digest is stated of an output

silent : (made : List ℕ) (player : ℕ) (kind : OutKind) → stated_in kind (console made player) ≡ None
silent made player Frames = refl
silent made player Samples = refl
silent made player Words = refl
silent made player State = refl
silent made player Save = refl

all-silent : (cycles : ℕ) (made : List ℕ) (player : ℕ) (kind : OutKind)
    → stated_at (job cycles made) (record { player = player; kind = kind }) ≡ None
all-silent cycles made zero kind = silent made 0 kind
all-silent cycles made (suc zero) kind = silent made 1 kind
all-silent cycles made (suc (suc zero)) kind = silent made 2 kind
all-silent cycles made (suc (suc (suc zero))) kind = silent made 3 kind
all-silent cycles made (suc (suc (suc (suc n)))) kind = refl

-- so a run ends with its summary
ends-well : (out : List ℕ) (one : WholeJob) (run : Run) (end : Result (List ℕ) Cause) (summary : List ℕ)
    → ((place : Place) → stated_at one place ≡ None) → Compares out one run end → IfOk end (λ some. some ≡ summary)
    → end ≡ Ok summary
ends-well out one run (Ok some) summary none compares is = ap (λ (s : List ℕ). Ok s) is
ends-well out one run (Err (Digest name stated got)) summary none compares is =
    let says = sym (none compares.place) ∙ compares.says in absurd cc
ends-well out one run (Err NoCommand) summary none compares is = absurd compares
ends-well out one run (Err (Job name error)) summary none compares is = absurd compares
ends-well out one run (Err (Image name error)) summary none compares is = absurd compares
ends-well out one run (Err (Source name error)) summary none compares is = absurd compares
ends-well out one run (Err (Frozen name error)) summary none compares is = absurd compares

pub made-again : (files : Files) (words : GenerateWords) (out : List ℕ) → AreGenerateWords words → HasMade files words
    → RunsAsMade files words out
made-again files words out are has =
    let made : WholeJob = job words.cycles words.out in
    let inputs : List ConsoleInputs = made_inputs words.number in
    let is : IsJob made = job-sound words.cycles words.out are.some_cycles are.few_cycles are.out in
    let read : AllZip AreInputs made.consoles inputs = made-sound words.number words.cycles words.out in
    let again : IsReadAs words.cycles words.out =
    job-read words.cycles words.out are.some_cycles are.few_cycles are.out in
    let like : AllZip IsLike again.again.consoles made.consoles
    = zip-like again.again.consoles made.consoles (ap (λ (j : WholeJob). j.consoles) again.same) in
    let one : Output = job_output words in
    let reads : (player : ℕ) → files (bios_file words.out player) ≡ Some (bios words.number player)
    → Reads files (console words.out player) (bare_inputs (bios words.number player))
    = λ player there later same. given words.out player later same files words.number there in
    let all : AllZip (Reads files) made.consoles inputs
    = (
      reads 0 (has 0 one (lit< tt)),
      (reads 1 (has 1 one (lit< tt)), (reads 2 (has 2 one (lit< tt)), (reads 3 (has 3 one (lit< tt)), tt))),
    ) in
    let passes : outcome files (inputs_plan again.again.consoles) ≡ Ok inputs
    = gives-each files again.again.consoles [] inputs
    (all-given files again.again.consoles made.consoles inputs like all) in
    let text : List ℕ = job_text words.cycles words.out in
    let short : length text ≤ longest_job
    = text-short words.cycles words.out are.few_cycles are.out in
    let comes = comes-to files (made_run words out) again.again inputs text (has 4 one (lit< tt)) short again.read
    (no-clash words.cycles words.out out again.again like) passes in
    let plain : Run = result_of_run [] made inputs in
    let whole : WholeJob = filled made inputs in
    let end = end_with made inputs in
    let summary : List ℕ = summary_lines end.consoles ++ log_line (log_of whole (files_at whole end)) in
    let ends : (under : List ℕ) → (result_of_run under made inputs).end ≡ Ok summary
    = λ under. ends-well under made (result_of_run under made inputs) (result_of_run under made inputs).end summary
    (λ place. all-silent words.cycles words.out place.player place.kind) (run-compared under made inputs is read)
    (run-end made inputs is read under) in
    record {
      rerun = result_of_run out made inputs;
      comes = comes ∙ ap (λ (r : Run). Ok r) (same-run out again.again made inputs again.same);
      outputs = plain.outputs;
      made_outputs = ap (λ (l : List Output). made_files words ++ l) (run-outputs made inputs is read words.out);
      outputs_again = run-outputs made inputs is read out;
      pieces = plain.pieces;
      made_pieces = ap (λ (l : List Output). made_files words ++ l) (run-pieces-under made inputs is read words.out);
      pieces_again = run-pieces-under made inputs is read out;
      summary = summary;
      made_end = ends words.out;
      end_again = ends out;
    }
