-- The log of a run says a job with the same inputs, whose log it is.
use Rattle.std.proofs.Common.{◌≡◌, ℕ, ◌+◌, true, List, [], ◌∷◌, ◌++◌, length, map, Option, Some, None, Result, Ok, Err, refl, ap, sym, subst, ◌∙◌, arith}
use Rattle.std.specs.List.{All, AllZip}
use Rattle.std.specs.Prelude.{IfSome, option_map}
use Rattle.std.specs.Str.{bytes_eq}
use Rattle.std.proofs.lemmas.List.{append-nil, append_assoc, length-map}
use Rattle.std.proofs.lemmas.List.Elements.{All-cons, All-head, All-nil, All-tail}
use Rattle.std.proofs.lemmas.Slice.Eq.{bytes_eq-Decides}
use Rattle.sha2.specs.Sha256.{sha256}
use Rattle.gba_store.specs.Files.{Files}
use Rattle.gba_command.specs.Cause.{Cause}
use Rattle.gba_command.specs.Plan.{each, judgement, outcome}
use Rattle.gba_command.proofs.Comes.{file-ok, file-reads, outcome-done, outcome-parts, outcome-then}
use Rattle.gba_image.specs.declared.backup.Backup.{Backup}
use Rattle.gba_text.proofs.Steps.{ok-is, some-is}
use Rattle.gba_joblog.specs.Cable.{players_for}
use Rattle.gba_joblog.specs.Job.{ConsoleJob, NamedFile, WholeJob}
use Rattle.gba_joblog.specs.Log.{any_file_text, console_text, consoles_text, log_text}
use Rattle.gba_joblog.specs.LogLaw.{unlined_console, unlined_file, without_key_file}
use Rattle.gba_joblog.specs.Soundness.{AreJobDelays, IsConsole, IsJob}
use Rattle.gba_joblog.specs.declared.job.KeyChange.{KeyChange}
use Rattle.gba_joblog.specs.declared.job.OutLine.{OutLine}
use Rattle.gba_joblog.specs.declared.outputs.PerKind.{PerKind}
use Rattle.gba_joblog.proofs.LogAgain.{job-again}
use Rattle.gba_inputs.specs.Filled.{any_with_digest, filled_console, filled_consoles, log_job, with_digest, with_outputs}
use Rattle.gba_inputs.specs.Inputs.{ConsoleInputs, DigestedImage, digested}
use Rattle.gba_inputs.specs.InputsPlan.{ImageForm, accepted, after_bios, after_cart, after_keys, after_save, any_cart_plan, any_image_plan, any_keys_plan, any_save_plan, bios_form, bios_plan, cart_form, console_plan, digest_of, found, image_plan, inputs_of, inputs_plan, judged_image, save_form}
use Rattle.gba_inputs.specs.Law.{AreInputs, AreOutputs, IsKept, IsReplayed, KeepsImages, asked_of, backup_of, off_of}
use Rattle.gba_inputs.proofs.SoundInputs.{accepted-is, filled_consoles-sound, inputs-sound, zip-long}

-- ---- images

pub judged-ok : {X : Type 0} (files : Files) (due : Result X Cause) (x : X) → outcome files (judgement due) ≡ Ok x
    → due ≡ Ok x
unfolding outcome
judged-ok files (Ok y) x h = ap (λ v. Ok v) (ok-is y x h)
judged-ok files (Err cause) x h = absurd cc

pub ok-judged : {X : Type 0} (files : Files) (due : Result X Cause) (x : X) → due ≡ Ok x
    → outcome files (judgement due) ≡ Ok x
unfolding outcome
ok-judged files due x h = rw h refl

pub bytes_eq-same : (bytes : List ℕ) → bytes_eq bytes bytes ≡ true
bytes_eq-same bytes = (bytes_eq-Decides bytes bytes).1 refl

accepted-again : (form : ImageForm) (named : NamedFile) (bytes : List ℕ) (image : DigestedImage)
    → accepted form named bytes ≡ Ok image
    → accepted form (record named { digest = Some image.digest }) bytes ≡ Ok image
accepted-again form named bytes image h =
    let a = accepted-is form named bytes image h in
    let same = bytes_eq-same (sha256 bytes) in
    let P : DigestedImage → Type 0 = λ i. accepted form (record named { digest = Some i.digest }) bytes ≡ Ok i in
    let right : P (digested bytes) = rw (a.passes, same) refl in
    subst P (sym a.is) right

image-again : (old new : Files) (form : ImageForm) (named : NamedFile) (image : DigestedImage) → IsKept old new named
    → outcome old (image_plan form named) ≡ Ok image
    → outcome new (image_plan form (record named { digest = Some image.digest })) ≡ Ok image
unfolding outcome
image-again old new form named image kept h =
    let f =
    file-ok named.name form.most _ (λ bytes. outcome old (judged_image form named bytes)) (old named.name) image h in
    let was = judged-ok old (accepted form named f.0) image f.2 in
    let is = accepted-again form named f.0 image was in
    file-reads named.name form.most _
    (λ bytes. outcome new (judged_image form (record named { digest = Some image.digest }) bytes))
    (new named.name) f.0 (record { there = kept ∙ f.1.there; short = f.1.short })
    ∙ ok-judged new (accepted form (record named { digest = Some image.digest }) f.0) image is

-- what is read for a line goes by its name and its digest
pub image-unlined : (files : Files) (form : ImageForm) (one other : NamedFile) → unlined_file one ≡ unlined_file other
    → outcome files (image_plan form one) ≡ outcome files (image_plan form other)
image-unlined files form one other same = ap (λ (named : NamedFile). outcome files (image_plan form named)) same

any-again : (old new : Files) (form : ImageForm) (named later : Option NamedFile) (image : Option DigestedImage)
    → IfSome named (IsKept old new) → outcome old (any_image_plan form named) ≡ Ok image
    → option_map unlined_file later ≡ option_map unlined_file (any_with_digest named (option_map digest_of image))
    → outcome new (any_image_plan form later) ≡ Ok image
any-again old new form None None image kept h same =
    outcome-done new None ∙ ap (λ i. Ok i) (ok-is None image (sym (outcome-done old None) ∙ h))
any-again old new form None (Some later) image kept h same = absurd cc
any-again old new form (Some named) None image kept h same = absurd cc
any-again old new form (Some named) (Some later) image kept h same =
    let parts = outcome-parts old (image_plan form named) found image h in
    let is : Some parts.0 ≡ image = ok-is (Some parts.0) image (sym (outcome-done old (Some parts.0)) ∙ parts.2) in
    let line : unlined_file later ≡ unlined_file (record named { digest = option_map digest_of image }) =
    some-is _ _ same in
    let stated : unlined_file later ≡ unlined_file (record named { digest = Some parts.0.digest }) =
    line
    ∙ ap (λ (i : Option DigestedImage). unlined_file (record named { digest = option_map digest_of i })) (sym is) in
    let again = image-unlined new form later (record named { digest = Some parts.0.digest }) stated
    ∙ image-again old new form named parts.0 kept parts.1 in
    outcome-then new (image_plan form later) found parts.0 (Ok image) again
    (outcome-done new (Some parts.0) ∙ ap (λ i. Ok i) is)

bios-again : (old new : Files) (named later : NamedFile) (image : DigestedImage)
    → IsKept old new named → outcome old (bios_plan named) ≡ Ok image
    → unlined_file later ≡ unlined_file (with_digest named (Some image.digest))
    → outcome new (bios_plan later) ≡ Ok image
bios-again old new named later image kept h same =
    image-unlined new bios_form later (record named { digest = Some image.digest }) same
    ∙ image-again old new bios_form named image kept h

keys-again : (files : Files) (changes : List KeyChange) (keys : Option NamedFile) → option_map unlined_file keys ≡ None
    → outcome files (any_keys_plan changes keys) ≡ Ok changes
keys-again files changes None none = outcome-done files changes
keys-again files changes (Some named) none = absurd cc

-- ---- a console

-- a console that a log says of this one, with these outputs
abbrev IsSaid : ConsoleJob → ConsoleInputs → PerKind (Option OutLine) → ConsoleJob → Type 0
IsSaid console inputs outs later =
    unlined_console later ≡ unlined_console (without_key_file (record (filled_console console inputs) { outs = outs }))

-- with these files the console has these inputs
abbrev pub Has : Files → ConsoleJob → ConsoleInputs → Type 0
Has files console inputs = outcome files (console_plan console) ≡ Ok inputs

console-again : (old new : Files) (console later : ConsoleJob) (inputs : ConsoleInputs)
    (outs : PerKind (Option OutLine)) → IsConsole console → KeepsImages old new console → Has old console inputs
    → IsSaid console inputs outs later → Has new later inputs
console-again old new console later inputs outs sound kept h said =
    let b = outcome-parts old (bios_plan console.bios) (after_bios console) inputs h in
    let c = outcome-parts old (any_cart_plan console.cart) (after_cart console b.0) inputs b.2 in
    let s = outcome-parts old (any_save_plan console.backup console.save) (after_save console b.0 c.0) inputs c.2 in
    let k =
    outcome-parts old (any_keys_plan console.changes console.keys) (after_keys console.backup b.0 c.0 s.0) inputs s.2 in
    let is : inputs_of console.backup b.0 c.0 s.0 k.0 ≡ inputs =
    ok-is (inputs_of console.backup b.0 c.0 s.0 k.0) inputs
    (sym (outcome-done old (inputs_of console.backup b.0 c.0 s.0 k.0)) ∙ k.2) in
    let S : ConsoleInputs → Type 0 = λ i. IsSaid console i outs later in
    let here : S (inputs_of console.backup b.0 c.0 s.0 k.0) = subst S (sym is) said in
    let bios = bios-again old new console.bios later.bios b.0 kept.bios b.1 (ap (λ (c : ConsoleJob). c.bios) here) in
    let cart =
    any-again old new cart_form console.cart later.cart c.0 kept.cart c.1 (ap (λ (c : ConsoleJob). c.cart) here) in
    let backup : later.backup ≡ console.backup = ap (λ (c : ConsoleJob). c.backup) here in
    let saved =
    any-again old new (save_form console.backup) console.save later.save s.0 kept.save s.1
    (ap (λ (c : ConsoleJob). c.save) here) in
    let save : outcome new (any_save_plan later.backup later.save) ≡ Ok s.0 =
    subst (λ (k : Backup). outcome new (any_save_plan k later.save) ≡ Ok s.0) (sym backup) saved in
    let changes : later.changes ≡ k.0 = ap (λ (c : ConsoleJob). c.changes) here in
    let keys = keys-again new later.changes later.keys (ap (λ (c : ConsoleJob). c.keys) here) in
    let read : outcome new (any_keys_plan later.changes later.keys) ≡ Ok k.0 = keys ∙ ap (λ cs. Ok cs) changes in
    outcome-then new (bios_plan later.bios) (after_bios later) b.0 (Ok inputs) bios
    (outcome-then new (any_cart_plan later.cart) (after_cart later b.0) c.0 (Ok inputs) cart
    (outcome-then new (any_save_plan later.backup later.save) (after_save later b.0 c.0) s.0 (Ok inputs) save
    (outcome-then new (any_keys_plan later.changes later.keys) (after_keys later.backup b.0 c.0 s.0) k.0
    (Ok inputs) read (outcome-done new (inputs_of later.backup b.0 c.0 s.0 k.0)
    ∙ ap (λ i. Ok i) (ap (λ kind. inputs_of kind b.0 c.0 s.0 k.0) backup ∙ is)))))

-- ---- consoles

-- the inputs of consoles after others
record AreGiven (files : Files) (consoles : List ConsoleJob) (done all : List ConsoleInputs) : Type 0 where
  here : List ConsoleInputs
  is : done ++ here ≡ all
  given : AllZip (Has files) consoles here

each-gives : (files : Files) (consoles : List ConsoleJob) (done all : List ConsoleInputs)
    → outcome files (each console_plan done consoles) ≡ Ok all → AreGiven files consoles done all
unfolding each
each-gives files [] done all h =
    record { here = []; is = append-nil done ∙ ok-is done all (sym (outcome-done files done) ∙ h); given = tt }
each-gives files (console ∷ consoles) done all h =
    let parts = outcome-parts files (console_plan console) (λ y. each console_plan (done ++ y ∷ []) consoles) all h in
    let rest = each-gives files consoles (done ++ parts.0 ∷ []) all parts.2 in
    record {
      here = parts.0 ∷ rest.here;
      is = sym (append_assoc done (parts.0 ∷ []) rest.here) ∙ rest.is;
      given = (parts.1, rest.given);
    }

pub gives-each : (files : Files) (consoles : List ConsoleJob) (done inputs : List ConsoleInputs)
    → AllZip (Has files) consoles inputs → outcome files (each console_plan done consoles) ≡ Ok (done ++ inputs)
unfolding each
gives-each files [] done [] given = outcome-done files done ∙ ap (λ i. Ok i) (sym (append-nil done))
gives-each files [] done (i ∷ inputs) given = absurd given
gives-each files (console ∷ consoles) done [] given = absurd given
gives-each files (console ∷ consoles) done (i ∷ inputs) given =
    outcome-then files (console_plan console) (λ y. each console_plan (done ++ y ∷ []) consoles) i
    (Ok (done ++ i ∷ inputs)) given.0
    (gives-each files consoles (done ++ i ∷ []) inputs given.1 ∙ ap (λ all. Ok all) (append_assoc done (i ∷ []) inputs))

-- the consoles that a log says of these
abbrev AreSaid : List ConsoleJob → List ConsoleInputs → List (PerKind (Option OutLine)) → List ConsoleJob → Type 0
AreSaid consoles inputs outs later =
    map unlined_console later
    ≡ map unlined_console (map without_key_file (with_outputs (filled_consoles consoles inputs) outs))

head-is : (x y : ConsoleJob) (xs ys : List ConsoleJob) → x ∷ xs ≡ y ∷ ys → x ≡ y
head-is x y xs ys h = cc

tail-is : (x y : ConsoleJob) (xs ys : List ConsoleJob) → x ∷ xs ≡ y ∷ ys → xs ≡ ys
tail-is x y xs ys h = cc

consoles-again : (old new : Files) (consoles later : List ConsoleJob) (inputs : List ConsoleInputs)
    (outs : List (PerKind (Option OutLine))) → All IsConsole consoles → length outs ≡ length consoles
    → All (KeepsImages old new) consoles → AllZip (Has old) consoles inputs → AreSaid consoles inputs outs later
    → AllZip (Has new) later inputs
unfolding filled_consoles with_outputs
consoles-again old new [] [] [] outs sound long kept has said = tt
consoles-again old new [] (l ∷ later) [] outs sound long kept has said = absurd cc
consoles-again old new [] later (i ∷ inputs) outs sound long kept has said = absurd has
consoles-again old new (c ∷ consoles) later [] outs sound long kept has said = absurd has
consoles-again old new (c ∷ consoles) later (i ∷ inputs) [] sound long kept has said = absurd (omega arith)
consoles-again old new (c ∷ consoles) [] (i ∷ inputs) (o ∷ outs) sound long kept has said = absurd cc
consoles-again old new (c ∷ consoles) (l ∷ later) (i ∷ inputs) (o ∷ outs) sound long kept has said =
    let first = head-is _ _ _ _ said in
    let rest = tail-is _ _ _ _ said in (
      console-again old new c l i o (All-head IsConsole c consoles sound)
          (All-head (KeepsImages old new) c consoles kept) has.0 first,
      consoles-again old new consoles later inputs outs (All-tail IsConsole c consoles sound) (omega arith)
          (All-tail (KeepsImages old new) c consoles kept) has.1 rest,
    )

-- they are asked for these outputs
consoles-asked : (consoles later : List ConsoleJob) (inputs : List ConsoleInputs)
    (outs : List (PerKind (Option OutLine))) → length consoles ≡ length inputs → length outs ≡ length consoles
    → AreSaid consoles inputs outs later → map asked_of later ≡ outs
unfolding filled_consoles with_outputs
consoles-asked [] [] inputs [] read long said = refl
consoles-asked [] [] inputs (o ∷ outs) read long said = absurd (omega (arith, long))
consoles-asked [] (l ∷ later) inputs outs read long said = absurd cc
consoles-asked (c ∷ consoles) later [] outs read long said = absurd (omega (arith, read))
consoles-asked (c ∷ consoles) later (i ∷ inputs) [] read long said = absurd (omega (arith, long))
consoles-asked (c ∷ consoles) [] (i ∷ inputs) (o ∷ outs) read long said = absurd cc
consoles-asked (c ∷ consoles) (l ∷ later) (i ∷ inputs) (o ∷ outs) read long said =
    let first : l.outs ≡ o = ap (λ (c : ConsoleJob). c.outs) (head-is _ _ _ _ said) in
    let rest =
    consoles-asked consoles later inputs outs (omega (arith, read)) (omega (arith, long)) (tail-is _ _ _ _ said) in
    rw (first, rest) refl

-- and from when on they are on
consoles-on : (consoles later : List ConsoleJob) (inputs : List ConsoleInputs) (outs : List (PerKind (Option OutLine)))
    → length consoles ≡ length inputs → length outs ≡ length consoles → AreSaid consoles inputs outs later
    → map off_of later ≡ map off_of consoles
unfolding filled_consoles with_outputs
consoles-on [] [] inputs outs read long said = refl
consoles-on [] (l ∷ later) inputs outs read long said = absurd cc
consoles-on (c ∷ consoles) later [] outs read long said = absurd (omega (arith, read))
consoles-on (c ∷ consoles) later (i ∷ inputs) [] read long said = absurd (omega (arith, long))
consoles-on (c ∷ consoles) [] (i ∷ inputs) (o ∷ outs) read long said = absurd cc
consoles-on (c ∷ consoles) (l ∷ later) (i ∷ inputs) (o ∷ outs) read long said =
    let first : l.off ≡ c.off = ap (λ (c : ConsoleJob). c.off) (head-is _ _ _ _ said) in
    let rest =
    consoles-on consoles later inputs outs (omega (arith, read)) (omega (arith, long)) (tail-is _ _ _ _ said) in
    rw (first, rest) refl

-- and their backups are the same
consoles-kept : (consoles later : List ConsoleJob) (inputs : List ConsoleInputs)
    (outs : List (PerKind (Option OutLine))) → length consoles ≡ length inputs → length outs ≡ length consoles
    → AreSaid consoles inputs outs later → map backup_of later ≡ map backup_of consoles
unfolding filled_consoles with_outputs
consoles-kept [] [] inputs outs read long said = refl
consoles-kept [] (l ∷ later) inputs outs read long said = absurd cc
consoles-kept (c ∷ consoles) later [] outs read long said = absurd (omega (arith, read))
consoles-kept (c ∷ consoles) later (i ∷ inputs) [] read long said = absurd (omega (arith, long))
consoles-kept (c ∷ consoles) [] (i ∷ inputs) (o ∷ outs) read long said = absurd cc
consoles-kept (c ∷ consoles) (l ∷ later) (i ∷ inputs) (o ∷ outs) read long said =
    let first : l.backup ≡ c.backup = ap (λ (c : ConsoleJob). c.backup) (head-is _ _ _ _ said) in
    let rest =
    consoles-kept consoles later inputs outs (omega (arith, read)) (omega (arith, long)) (tail-is _ _ _ _ said) in
    rw (first, rest) refl

-- ---- the job of a log is sound

pub with_outputs-sound : (consoles : List ConsoleJob) (outs : List (PerKind (Option OutLine))) → All IsConsole consoles
    → All AreOutputs outs → length outs ≡ length consoles
    → All IsConsole (with_outputs consoles outs) × (length (with_outputs consoles outs) ≡ length consoles)
unfolding with_outputs
with_outputs-sound [] outs sound right long = (All-nil IsConsole, refl)
with_outputs-sound (c ∷ consoles) [] sound right long = absurd (omega arith)
with_outputs-sound (c ∷ consoles) (o ∷ outs) sound right long =
    let here = All-head IsConsole c consoles sound in
    let asked = All-head AreOutputs o outs right in
    let rest = with_outputs-sound consoles outs (All-tail IsConsole c consoles sound) (All-tail AreOutputs o outs right)
    (omega arith) in
    let first : IsConsole (record c { outs = o }) = record {
      bios = here.bios;
      off = here.off;
      lines = record {
        cart = here.lines.cart;
        save = here.lines.save;
        keys = here.lines.keys;
        changes = here.lines.changes;
        apart = here.lines.apart;
        outs = asked;
      };
    } in
    (All-cons IsConsole (record c { outs = o }) (with_outputs consoles outs) first rest.0, omega (arith, rest.1))

log_job-sound : (job : WholeJob) (inputs : List ConsoleInputs) (outs : List (PerKind (Option OutLine))) → IsJob job
    → AllZip AreInputs job.consoles inputs → length outs ≡ length job.consoles → All AreOutputs outs
    → IsJob (log_job job inputs outs)
log_job-sound job inputs outs sound read long right =
    let all = filled_consoles-sound job.consoles inputs sound.each read in
    let said = with_outputs-sound (filled_consoles job.consoles inputs) outs all.each right (omega (arith, all.long)) in
    record {
      some_cycles = sound.some_cycles;
      few_cycles = sound.few_cycles;
      delays = subst (λ n. AreJobDelays (players_for n) job.delays) (sym (said.1 ∙ all.long)) sound.delays;
      some_consoles = omega (arith, said.1, all.long, sound.some_consoles);
      few_consoles = omega (arith, said.1, all.long, sound.few_consoles);
      each = said.0;
    }

-- ---- a log goes by what is said but for lines and key files

file-unlined : (front : List ℕ) (named : Option NamedFile)
    → any_file_text front (option_map unlined_file named) ≡ any_file_text front named
file-unlined front None = refl
file-unlined front (Some named) = refl

pub console-unlined : (player : ℕ) (console : ConsoleJob)
    → console_text player (unlined_console (without_key_file console)) ≡ console_text player console
unfolding console_text
console-unlined player console = rw (file-unlined, file-unlined) refl

consoles-unlined : (player : ℕ) (consoles : List ConsoleJob)
    → consoles_text player (map unlined_console (map without_key_file consoles)) ≡ consoles_text player consoles
unfolding consoles_text
consoles-unlined player [] = refl
consoles-unlined player (c ∷ consoles) =
    ap (λ text. text ++ consoles_text (player + 1) (map unlined_console (map without_key_file consoles)))
    (console-unlined player c)
    ∙ ap (λ text. console_text player c ++ text) (consoles-unlined (player + 1) consoles)

-- a digest is stated again
stated-again : (named later : Option NamedFile) (digest : Option (List ℕ))
    → option_map unlined_file later ≡ option_map unlined_file (any_with_digest named digest)
    → option_map unlined_file (any_with_digest later digest) ≡ option_map unlined_file (any_with_digest named digest)
stated-again None None digest same = refl
stated-again None (Some later) digest same = absurd cc
stated-again (Some named) None digest same = absurd cc
stated-again (Some named) (Some later) digest same =
    ap (λ (f : NamedFile). Some (record f { digest = digest })) (some-is _ _ same)

console-said : (console later : ConsoleJob) (inputs : ConsoleInputs) (outs : PerKind (Option OutLine))
    → IsSaid console inputs outs later
    → unlined_console (without_key_file (record (filled_console later inputs) { outs = outs }))
    ≡ unlined_console (without_key_file (record (filled_console console inputs) { outs = outs }))
console-said console later inputs outs said =
    let bios : unlined_file (with_digest later.bios (Some inputs.digests.bios))
    ≡ unlined_file (with_digest console.bios (Some inputs.digests.bios)) =
    ap (λ (c : ConsoleJob). with_digest c.bios (Some inputs.digests.bios)) said in
    let cart = stated-again console.cart later.cart inputs.digests.cart (ap (λ (c : ConsoleJob). c.cart) said) in
    let save = stated-again console.save later.save inputs.digests.save (ap (λ (c : ConsoleJob). c.save) said) in
    let backup : later.backup ≡ console.backup = ap (λ (c : ConsoleJob). c.backup) said in
    let off : later.off ≡ console.off = ap (λ (c : ConsoleJob). c.off) said in
    rw (bios, cart, save, backup, off) refl

consoles-said : (consoles later : List ConsoleJob) (inputs : List ConsoleInputs)
    (outs : List (PerKind (Option OutLine))) → AreSaid consoles inputs outs later
    → map unlined_console (map without_key_file (with_outputs (filled_consoles later inputs) outs))
    ≡ map unlined_console (map without_key_file (with_outputs (filled_consoles consoles inputs) outs))
unfolding filled_consoles with_outputs
consoles-said [] [] inputs outs said = refl
consoles-said [] (l ∷ later) inputs outs said = absurd cc
consoles-said (c ∷ consoles) [] [] outs said = refl
consoles-said (c ∷ consoles) (l ∷ later) [] outs said = refl
consoles-said (c ∷ consoles) [] (i ∷ inputs) [] said = refl
consoles-said (c ∷ consoles) (l ∷ later) (i ∷ inputs) [] said = refl
consoles-said (c ∷ consoles) [] (i ∷ inputs) (o ∷ outs) said = absurd cc
consoles-said (c ∷ consoles) (l ∷ later) (i ∷ inputs) (o ∷ outs) said =
    let first = console-said c l i o (head-is _ _ _ _ said) in
    let rest = consoles-said consoles later inputs outs (tail-is _ _ _ _ said) in
    rw (first, rest) refl

same-long : (now was : List ConsoleJob)
    → map unlined_console (map without_key_file now) ≡ map unlined_console (map without_key_file was)
    → length now ≡ length was
same-long now was same =
    omega (
      arith,
      length-map now without_key_file,
      length-map was without_key_file,
      length-map (map without_key_file now) unlined_console,
      length-map (map without_key_file was) unlined_console,
      ap length same,
    )

own-text : (job again : WholeJob) (inputs : List ConsoleInputs) (outs : List (PerKind (Option OutLine)))
    → again.cycles ≡ job.cycles → again.delays ≡ job.delays → AreSaid job.consoles inputs outs again.consoles
    → log_text (log_job again inputs outs) ≡ log_text (log_job job inputs outs)
unfolding log_text
own-text job again inputs outs cycles delays said =
    let now = with_outputs (filled_consoles again.consoles inputs) outs in
    let was = with_outputs (filled_consoles job.consoles inputs) outs in
    let long : length now ≡ length was =
    same-long now was (consoles-said job.consoles again.consoles inputs outs said) in
    let text : consoles_text 0 (with_outputs (filled_consoles again.consoles inputs) outs)
    ≡ consoles_text 0 (with_outputs (filled_consoles job.consoles inputs) outs) =
    sym (consoles-unlined 0 (with_outputs (filled_consoles again.consoles inputs) outs))
    ∙ ap (consoles_text 0) (consoles-said job.consoles again.consoles inputs outs said)
    ∙ consoles-unlined 0 (with_outputs (filled_consoles job.consoles inputs) outs) in
    rw (cycles, delays, long, text) refl

pub replayed : (old new : Files) (job : WholeJob) (inputs : List ConsoleInputs) (outs : List (PerKind (Option OutLine)))
    → IsJob job → length outs ≡ length job.consoles → All AreOutputs outs
    → outcome old (inputs_plan job.consoles) ≡ Ok inputs → All (KeepsImages old new) job.consoles
    → IsReplayed new job inputs outs
replayed old new job inputs outs sound long right h kept =
    let read = inputs-sound old job.consoles inputs sound.each h in
    let log = job-again (log_job job inputs outs) (log_job-sound job inputs outs sound read long right) in
    let cycles : log.again.cycles ≡ job.cycles = ap (λ (j : WholeJob). j.cycles) log.same in
    let delays : log.again.delays ≡ job.delays = ap (λ (j : WholeJob). j.delays) log.same in
    let said : AreSaid job.consoles inputs outs log.again.consoles = ap (λ (j : WholeJob). j.consoles) log.same in
    let given = each-gives old job.consoles [] inputs h in
    let has : AllZip (Has old) job.consoles inputs = subst (AllZip (Has old) job.consoles) given.is given.given in
    record {
      again = log.again;
      read = log.read;
      cycles = cycles;
      delays = delays;
      offs = consoles-on job.consoles log.again.consoles inputs outs (zip-long job.consoles inputs read) long said;
      backups = consoles-kept job.consoles log.again.consoles inputs outs (zip-long job.consoles inputs read) long said;
      asked = consoles-asked job.consoles log.again.consoles inputs outs (zip-long job.consoles inputs read) long said;
      passes = gives-each new log.again.consoles [] inputs
          (consoles-again old new job.consoles log.again.consoles inputs outs sound.each long kept has said);
      own = own-text job log.again inputs outs cycles delays said;
    }
