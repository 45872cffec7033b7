-- Words are refused just where they say no command.
use Rattle.std.proofs.Common.{◌≡◌, ◌⊎◌, ℕ, Bool, true, false, List, [], ◌∷◌, ◌++◌, Option, Some, None, Result, Ok, Err, refl, ap, subst, inl, inr, nat_le, if◌then◌else◌}
use Rattle.std.specs.Str.{bytes_eq}
use Rattle.sha2.specs.Sha256.{sha256}
use Rattle.gba_store.specs.declared.outside.ReadError.{ReadError}
use Rattle.gba_command.specs.Cause.{Cause, NoCommand, Digest, Stop, Refused, LacksMemory}
use Rattle.gba_command.specs.Plan.{Plan, Done, Refuse, Read, bind, each, judgement}
use Rattle.gba_command.specs.Reading.{GoesTo}
use Rattle.gba_command.specs.Words.{Command, FileWords, FreezeWords, ResumeWords, RunWords, TraceWords, RunJob, Assemble, ListArm, ListThumb, Generate, Trace, Freeze, Resume}
use Rattle.gba_command.specs.Writing.{Run}
use Rattle.gba_command.proofs.Plans.{Names, refused-named, refuses-alone}
use Rattle.gba_console.specs.Machine.{Machine}
use Rattle.gba_frozen.specs.declared.kinds.ThawKind.{ThawKind}
use Rattle.gba_image.specs.declared.backup.Backup.{Backup}
use Rattle.gba_image.specs.declared.error.ImageError.{ImageError}
use Rattle.gba_inputs.specs.Filled.{filled}
use Rattle.gba_inputs.specs.Inputs.{ConsoleInputs, DigestedImage, digested}
use Rattle.gba_inputs.specs.InputsPlan.{ImageForm, accepted, after_bios, after_cart, after_digest, after_keys, after_save, any_cart_plan, any_keys_plan, any_save_plan, bios_form, bios_plan, cart_form, cart_plan, compared_with, console_plan, found, image_plan, key_file_plan, keys_or_fault, keys_or_refusal, save_form, save_plan, unless_fault}
use Rattle.gba_joblog.specs.Kinds.{JobError}
use Rattle.gba_joblog.specs.Job.{ConsoleJob, NamedFile, WholeJob}
use Rattle.gba_joblog.specs.KeyFile.{keys_of}
use Rattle.gba_joblog.specs.declared.job.KeyChange.{KeyChange}
use Rattle.gba_joblog.specs.Language.{job_of}
use Rattle.gba_asm.specs.Assembly.{assembly_of}
use Rattle.gba_asm_words.specs.Kinds.{AsmError}
use Rattle.gba_dis.specs.declared.units.Set.{Set}
use Rattle.gba_dis.specs.declared.units.Set.TheVariants.{Arm, Thumb}
use Rattle.gba_link.specs.CommandPlan.{command_plan, plan_of_command}
use Rattle.gba_link.specs.FreezePlan.{after_clock, after_inputs_frozen, clock_or_refusal, frozen_plan}
use Rattle.gba_link.specs.ResumePlan.{after_inputs_resumed, resumed_plan, thawed_cut, thawed_run}
use Rattle.gba_link.specs.RunPlan.{after_inputs, clash_for, job_or_refusal_for, job_plan_for, job_refusal, run_plan, unless_clash, without_clash_for}
use Rattle.gba_link.specs.TracePlan.{after_inputs_traced, trace_file, traced_plan}
use Rattle.gba_joblog.specs.declared.kinds.JobKind.TheVariants.{Number}
use Rattle.gba_run_files.specs.Frozen.{frozen_name, job_unstated}
use Rattle.gba_text.specs.Languages.{error_at}
use Rattle.gba_text.specs.declared.kinds.LineError.{LineError}
use Rattle.link_order.specs.Cut.{Cut}
use Rattle.gba_translate.specs.Translation.{assembled, assembly_plan, listing_plan, after_assembly, unless_refused}

abbrev refused_as : (X : Type 0) → Cause → Result X Cause
refused_as X cause = Err cause

-- a judgement isn't that the words are wrong, and nor is what follows
judgement-apart : {X Y : Type 0} (result : Result X Cause) (following : X → Plan Y) → (result ≡ Err NoCommand → ⊥)
    → ((x : X) → Names NoCommand (following x) → ⊥) → Names NoCommand (bind (judgement result) following) → ⊥
unfolding Names
judgement-apart (Ok x) following apart rest h = rest x h
judgement-apart {X} (Err cause) following apart rest h = apart (ap (λ (c : Cause). refused_as X c) h)

-- plans one after another, however they are put together
names-together : {X Y Z : Type 0} (plan : Plan X) (next : X → Plan Y) (last : Y → Plan Z)
    → Names NoCommand (bind (bind plan next) last) → Names NoCommand (bind plan (λ x. bind (next x) last))
unfolding Names
names-together (Done x) next last h = h
names-together (Refuse cause) next last h = h
names-together (Read name most long more) next last (inl h) = inl h
names-together (Read name most long more) next last (inr h) = inr (h.0, names-together (more h.0) next last h.1)

-- neither a digest nor an image nor a key file says that the words are wrong
by-digest : {X : Type 0} (test : Bool) (x : X) (name stated got : List ℕ)
    → after_digest x (if test then Ok got else Err (Digest name stated got)) ≡ Err NoCommand → ⊥
by-digest true x name stated got h = cc
by-digest false x name stated got h = cc

digest-apart : {X : Type 0} (x : X) (file : NamedFile) (stated : Option (List ℕ)) (got : List ℕ)
    → after_digest x (compared_with file stated got) ≡ Err NoCommand → ⊥
digest-apart x file None got h = cc
digest-apart x file (Some stated) got h = by-digest (bytes_eq stated got) x file.name stated got h

fault-apart : (file : NamedFile) (bytes : List ℕ) (fault : Option ImageError)
    → unless_fault file bytes fault ≡ Err NoCommand → ⊥
fault-apart file bytes (Some error) h = cc
fault-apart file bytes None h = digest-apart (digested bytes) file file.digest (sha256 bytes) h

image-apart : {Y : Type 0} (form : ImageForm) (file : NamedFile) (following : DigestedImage → Plan Y)
    → ((x : DigestedImage) → Names NoCommand (following x) → ⊥)
    → Names NoCommand (bind (image_plan form file) following) → ⊥
unfolding Names
image-apart form file following rest (inl h) = cc
image-apart form file following rest (inr h) =
    judgement-apart (accepted form file h.0) following (fault-apart file h.0 (form.fault h.0)) rest h.1

any-cart-apart : {Y : Type 0} (file : Option NamedFile) (following : Option DigestedImage → Plan Y)
    → ((x : Option DigestedImage) → Names NoCommand (following x) → ⊥)
    → Names NoCommand (bind (any_cart_plan file) following) → ⊥
any-cart-apart None following rest h = rest None h
any-cart-apart (Some file) following rest h =
    image-apart cart_form file (λ x. following (Some x)) (λ x k. rest (Some x) k)
    (names-together (cart_plan file) found following h)

any-save-apart : {Y : Type 0} (backup : Backup) (file : Option NamedFile) (following : Option DigestedImage → Plan Y)
    → ((x : Option DigestedImage) → Names NoCommand (following x) → ⊥)
    → Names NoCommand (bind (any_save_plan backup file) following) → ⊥
any-save-apart backup None following rest h = rest None h
any-save-apart backup (Some file) following rest h =
    image-apart (save_form backup) file (λ x. following (Some x)) (λ x k. rest (Some x) k)
    (names-together (save_plan backup file) found following h)

keys-not-words : (file : NamedFile) (bytes : List ℕ) (said : Result (List KeyChange) JobError)
    → keys_or_fault file bytes said ≡ Err NoCommand → ⊥
keys-not-words file bytes (Ok changes) h = digest-apart changes file file.digest (sha256 bytes) h
keys-not-words file bytes (Err error) h = cc

key-file-apart : {Y : Type 0} (file : NamedFile) (following : List KeyChange → Plan Y)
    → ((x : List KeyChange) → Names NoCommand (following x) → ⊥) → Names NoCommand (bind (key_file_plan file) following)
    → ⊥
unfolding Names
key-file-apart file following rest (inl h) = cc
key-file-apart file following rest (inr h) =
    judgement-apart (keys_or_refusal file h.0) following (keys-not-words file h.0 (keys_of h.0)) rest h.1

any-keys-apart : {Y : Type 0} (changes : List KeyChange) (file : Option NamedFile) (following : List KeyChange → Plan Y)
    → ((x : List KeyChange) → Names NoCommand (following x) → ⊥)
    → Names NoCommand (bind (any_keys_plan changes file) following) → ⊥
any-keys-apart changes None following rest h = rest changes h
any-keys-apart changes (Some file) following rest h = key-file-apart file following rest h

console-apart : {Y : Type 0} (console : ConsoleJob) (following : ConsoleInputs → Plan Y)
    → ((x : ConsoleInputs) → Names NoCommand (following x) → ⊥)
    → Names NoCommand (bind (console_plan console) following) → ⊥
console-apart console following rest h =
    let at-end : (bios : DigestedImage) (cart save : Option DigestedImage)
    → Names NoCommand (bind (after_save console bios cart save) following) → ⊥ = λ bios cart save k.
    any-keys-apart console.changes console.keys
    (λ changes. bind (after_keys console.backup bios cart save changes) following) (λ changes j. rest _ j)
    (names-together (any_keys_plan console.changes console.keys) (after_keys console.backup bios cart save)
    following k) in
    let at-save : (bios : DigestedImage) (cart : Option DigestedImage)
    → Names NoCommand (bind (after_cart console bios cart) following) → ⊥ = λ bios cart k.
    any-save-apart console.backup console.save (λ save. bind (after_save console bios cart save) following)
    (at-end bios cart)
    (names-together (any_save_plan console.backup console.save) (after_save console bios cart) following k) in
    let at-cart : (bios : DigestedImage) → Names NoCommand (bind (after_bios console bios) following) → ⊥ = λ bios k.
    any-cart-apart console.cart (λ cart. bind (after_cart console bios cart) following) (at-save bios)
    (names-together (any_cart_plan console.cart) (after_cart console bios) following k) in
    image-apart bios_form console.bios (λ bios. bind (after_bios console bios) following) at-cart
    (names-together (bios_plan console.bios) (after_bios console) following h)

consoles-apart : {Y : Type 0} (done : List ConsoleInputs) (consoles : List ConsoleJob)
    (following : List ConsoleInputs → Plan Y) → ((x : List ConsoleInputs) → Names NoCommand (following x) → ⊥)
    → Names NoCommand (bind (each console_plan done consoles) following) → ⊥
unfolding each
consoles-apart done [] following rest h = rest done h
consoles-apart done (console ∷ consoles) following rest h =
    console-apart console (λ y. bind (each console_plan (done ++ (y ∷ [])) consoles) following)
    (λ y k. consoles-apart (done ++ (y ∷ [])) consoles following rest k)
    (names-together (console_plan console) (λ y. each console_plan (done ++ (y ∷ [])) consoles) following h)

run-named : (words : RunWords) (job : WholeJob) → Names NoCommand (run_plan words job) → ⊥
unfolding Names
run-named words job h = consoles-apart [] job.consoles (after_inputs words job) (λ inputs none. none) h

traced-named : (words : TraceWords) (job : WholeJob) → Names NoCommand (traced_plan words job) → ⊥
unfolding Names
traced-named words job h = consoles-apart [] job.consoles (after_inputs_traced words job) (λ inputs none. none) h

clock-apart : (words : FreezeWords) (job : WholeJob) (early : Bool)
    → (if early then Ok job else Err (job_refusal words.run (error_at 0 Number))) ≡ Err NoCommand → ⊥
clock-apart words job true h = cc
clock-apart words job false h = cc

frozen-named : (words : FreezeWords) (job : WholeJob) → Names NoCommand (frozen_plan words job) → ⊥
unfolding Names
frozen-named words job h =
    judgement-apart (clock_or_refusal words job) (after_clock words)
    (clock-apart words job (nat_le words.clock job.cycles))
    (λ found k. consoles-apart [] found.consoles (after_inputs_frozen words found) (λ inputs none. none) k) h

unclashing : (words : RunWords) (job : WholeJob) (clash : Option ℕ) → unless_clash words job clash ≡ Err NoCommand → ⊥
unclashing words job None h = cc
unclashing words job (Some line) h = cc

not-words : (frozen more : Option (List ℕ)) (words : RunWords) (said : Result WholeJob JobError)
    → without_clash_for frozen more words said ≡ Err NoCommand → ⊥
not-words frozen more words (Ok job) h = unclashing words job (clash_for frozen more words job) h
not-words frozen more words (Err error) h = cc

job-named : (frozen more : Option (List ℕ)) (words : RunWords) (following : WholeJob → Plan Run)
    → ((job : WholeJob) → Names NoCommand (following job) → ⊥)
    → Names NoCommand (bind (job_plan_for frozen more words) following) → ⊥
unfolding Names
job-named frozen more words following rest (inl h) = cc
job-named frozen more words following rest (inr h) =
    judgement-apart (job_or_refusal_for frozen more words h.0) following (not-words frozen more words (job_of h.0))
    rest h.1

-- a frozen file that is refused isn't refused for the words
thawed-apart : (words : ResumeWords) (job : WholeJob) (said : Result (Cut Machine) (LineError ThawKind))
    → Names NoCommand (judgement (thawed_run words job said)) → ⊥
unfolding Names
thawed-apart words job (Ok cut) h = h
thawed-apart words job (Err error) h = cc

frozen-apart : (words : ResumeWords) (job : WholeJob) (inputs : List ConsoleInputs)
    → Names NoCommand (after_inputs_resumed words job inputs) → ⊥
unfolding Names
frozen-apart words job inputs (inl h) = cc
frozen-apart words job inputs (inr h) =
    thawed-apart words (job_unstated (filled job inputs)) (thawed_cut job inputs h.0) h.1

resumed-named : (words : ResumeWords) (job : WholeJob) → Names NoCommand (resumed_plan words job) → ⊥
resumed-named words job h = consoles-apart [] job.consoles (after_inputs_resumed words job) (frozen-apart words job) h

-- nor does a source or an image
source-apart : (name : List ℕ) (made : Result (List ℕ) AsmError) → unless_refused name made ≡ Err NoCommand → ⊥
source-apart name (Ok image) h = cc
source-apart name (Err error) h = cc

assembly-named : (words : FileWords) → Names NoCommand (assembly_plan words) → ⊥
unfolding Names
assembly-named words (inl h) = cc
assembly-named words (inr h) =
    judgement-apart (assembled words.from h.0) (after_assembly words) (source-apart words.from (assembly_of h.0))
    (λ image none. none) h.1

listing-named : (set : Set) (words : FileWords) → Names NoCommand (listing_plan set words) → ⊥
unfolding Names
listing-named set words (inl h) = cc
listing-named set words (inr h) = h.1

read-named : (command : Command) → Names NoCommand (plan_of_command command) → ⊥
unfolding Names
read-named (RunJob words) h = job-named None None words (run_plan words) (run-named words) h
read-named (Assemble words) h = assembly-named words h
read-named (ListArm words) h = listing-named Arm words h
read-named (ListThumb words) h = listing-named Thumb words h
read-named (Generate words) h = h
read-named (Trace words) h =
    job-named None (Some (trace_file words.run.out)) words.run (traced_plan words) (traced-named words) h
read-named (Freeze words) h =
    job-named None (Some (frozen_name words.run.out)) words.run (frozen_plan words) (frozen-named words) h
read-named (Resume words) h =
    job-named (Some words.frozen) None words.run (resumed_plan words) (resumed-named words) h

module _ {Store : Type 0} (gives : List ℕ → ℕ → Result (List ℕ) ReadError → Store → Store → Type 0) where
  pub refused-words : (command : Option Command) (old new : Store) (end : Result Run Stop)
      → GoesTo gives (command_plan command) old new end → (end ≡ Err (Refused NoCommand)) → command ≡ None
  refused-words None old new end goes is = refl
  refused-words (Some command) old new end goes is =
      let named = refused-named gives (command_plan (Some command)) old new NoCommand
      (subst (λ (e : Result Run Stop). GoesTo gives (command_plan (Some command)) old new e) is goes) in
      absurd (read-named command named)

  pub wrong-words : (command : Option Command) (old new : Store) (end : Result Run Stop)
      → GoesTo gives (command_plan command) old new end → command ≡ None
      → (new ≡ old) × ((end ≡ Err LacksMemory) ⊎ (end ≡ Err (Refused NoCommand)))
  wrong-words None old new end goes is = refuses-alone gives NoCommand old new end goes
  wrong-words (Some command) old new end goes is = absurd cc
