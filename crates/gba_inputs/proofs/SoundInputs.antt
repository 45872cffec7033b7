-- What is read for sound consoles is sound, and so is a job with it written in.
use Rattle.std.proofs.Common.{◌≡◌, ℕ, List, [], ◌∷◌, ◌++◌, length, Option, Some, None, Result, Ok, Err, refl, sym, ap, subst, ◌∙◌, arith}
use Rattle.std.specs.List.{All, AllZip}
use Rattle.std.specs.Prelude.{IfOk, IfSome, is_some, option_map}
use Rattle.std.proofs.lemmas.List.{append_assoc, append-nil}
use Rattle.std.proofs.lemmas.List.Elements.{All-cons, All-head, All-nil, All-tail}
use Rattle.sha2.specs.Sha256.{sha256}
use Rattle.gba_store.specs.Files.{Files}
use Rattle.gba_command.specs.Cause.{Cause}
use Rattle.gba_command.specs.Plan.{Plan, Done, bind, each, file, outcome}
use Rattle.gba_command.proofs.Comes.{ComesTo, comes-bind, comes-done, comes-judged, goes-comes, outcome-comes}
use Rattle.gba_command.specs.Reading.{GoesTo}
use Rattle.gba_command.specs.Views.{end_of}
use Rattle.gba_command.specs.declared.refusal.Refusal.{Refusal}
use Rattle.gba_store.specs.declared.outside.ReadError.{ReadError}
use Rattle.gba_image.specs.declared.backup.Backup.{Backup}
use Rattle.gba_image.specs.declared.error.ImageError.{ImageError}
use Rattle.gba_joblog.specs.Kinds.{JobError}
use Rattle.gba_text.proofs.Steps.{ok-is}
use Rattle.gba_joblog.specs.Cable.{players_for}
use Rattle.gba_joblog.specs.Job.{ConsoleJob, NamedFile, WholeJob}
use Rattle.gba_joblog.specs.KeyFile.{keys_of}
use Rattle.gba_joblog.specs.Soundness.{AreChanges, AreJobDelays, IsConsole, IsFile, IsJob}
use Rattle.gba_joblog.specs.declared.job.KeyChange.{KeyChange}
use Rattle.gba_joblog.proofs.Digests.{IsDigest-sha256}
use Rattle.gba_joblog.proofs.SoundChanges.{keys-sound}
use Rattle.gba_inputs.specs.Filled.{any_with_digest, filled, filled_console, filled_consoles}
use Rattle.gba_inputs.specs.Inputs.{ConsoleInputs, DigestedImage, digested}
use Rattle.gba_inputs.specs.InputsPlan.{ImageForm, accepted, after_bios, after_cart, after_digest, after_keys, after_save, any_cart_plan, any_keys_plan, any_save_plan, bios_form, bios_plan, cart_form, compared, console_plan, digest_of, found, image_of, image_plan, inputs_of, inputs_plan, judged_image, judged_keys, keys_or_fault, keys_or_refusal, save_form, unless_fault}
use Rattle.gba_inputs.specs.Law.{AreInputs, Passes}

abbrev pub read_file : List ℕ → ℕ → Cause → Plan (List ℕ)
read_file name most long = file name most long

digest-right : {X : Type 0} (x y : X) (r : Result (List ℕ) Cause) → after_digest x r ≡ Ok y → x ≡ y
digest-right x y (Ok digest) h = ok-is x y h
digest-right x y (Err cause) h = absurd cc

-- an accepted image passes its check, and its digest is that of its bytes
pub record IsAccepted (form : ImageForm) (bytes : List ℕ) (image : DigestedImage) : Type 0 where
  pub passes : form.fault bytes ≡ None
  pub is : image ≡ digested bytes

pub accepted-is : (form : ImageForm) (named : NamedFile) (bytes : List ℕ) (image : DigestedImage)
    → accepted form named bytes ≡ Ok image → IsAccepted form bytes image
accepted-is form named bytes image h = by_fault (form.fault bytes) refl h where
  by_fault : (fault : Option ImageError) → form.fault bytes ≡ fault → unless_fault named bytes fault ≡ Ok image
      → IsAccepted form bytes image
  by_fault (Some error) e s = absurd cc
  by_fault None e s = record { passes = e; is = sym (digest-right (digested bytes) image (compared named bytes) s) }

image-sound : (form : ImageForm) (named : NamedFile) (image : DigestedImage) → ComesTo (image_plan form named) image
    → IsAccepted form image.image image
image-sound form named image h =
    let b = comes-bind (file named.name form.most _) (judged_image form named) image h in
    let a = accepted-is form named b.0 image (comes-judged (accepted form named b.0) image b.2) in
    let same : image.image ≡ b.0 = ap image_of a.is in
    let P : List ℕ → Type 0 = λ bytes. IsAccepted form bytes image in
    subst P (sym same) a

-- an image that may be there
record IsAnyImage (form : ImageForm) (named : Option NamedFile) (image : Option DigestedImage) : Type 0 where
  passes : IfSome (option_map image_of image) (Passes form.fault)
  has : is_some (option_map image_of image) ≡ is_some named
  digest : option_map digest_of image ≡ option_map sha256 (option_map image_of image)

any-found : (form : ImageForm) (named : NamedFile) (image : Option DigestedImage)
    → ComesTo (bind (image_plan form named) found) image → IsAnyImage form (Some named) image
any-found form named image h =
    let b = comes-bind (image_plan form named) found image h in
    let is = comes-done (Some b.0) image b.2 in
    let a = image-sound form named b.0 b.1 in
    rw (← is) (record { passes = a.passes; has = refl; digest = ap (λ i. Some (digest_of i)) a.is })

any-none : (form : ImageForm) (image : Option DigestedImage) → ComesTo (Done None) image → IsAnyImage form None image
any-none form image h =
    let is = comes-done None image h in
    rw (← is) (record { passes = tt; has = refl; digest = refl })

any_cart-sound : (named : Option NamedFile) (image : Option DigestedImage) → ComesTo (any_cart_plan named) image
    → IsAnyImage cart_form named image
any_cart-sound None image h = any-none cart_form image h
any_cart-sound (Some named) image h = any-found cart_form named image h

any_save-sound : (backup : Backup) (named : Option NamedFile) (image : Option DigestedImage)
    → ComesTo (any_save_plan backup named) image → IsAnyImage (save_form backup) named image
any_save-sound backup None image h = any-none (save_form backup) image h
any_save-sound backup (Some named) image h = any-found (save_form backup) named image h

judged-keys : (named : NamedFile) (bytes : List ℕ) (r : Result (List KeyChange) JobError) (changes : List KeyChange)
    → keys_or_fault named bytes r ≡ Ok changes → r ≡ Ok changes
judged-keys named bytes (Ok some) changes h = ap (λ c. Ok c) (digest-right some changes (compared named bytes) h)
judged-keys named bytes (Err error) changes h = absurd cc

any_keys-sound : (own : List KeyChange) (named : Option NamedFile) (changes : List KeyChange) → AreChanges own
    → ComesTo (any_keys_plan own named) changes → AreChanges changes
any_keys-sound own None changes sound h = subst AreChanges (comes-done own changes h) sound
any_keys-sound own (Some named) changes sound h =
    let b = comes-bind (file named.name _ _) (judged_keys named) changes h in
    let is = comes-judged (keys_or_refusal named b.0) changes b.2 in
    keys-sound b.0 changes (judged-keys named b.0 (keys_of b.0) changes is)

console-sound : (console : ConsoleJob) (inputs : ConsoleInputs) → IsConsole console
    → ComesTo (console_plan console) inputs → AreInputs console inputs
console-sound console inputs sound h =
    let b = comes-bind (bios_plan console.bios) (after_bios console) inputs h in
    let c = comes-bind (any_cart_plan console.cart) (after_cart console b.0) inputs b.2 in
    let s = comes-bind (any_save_plan console.backup console.save) (after_save console b.0 c.0) inputs c.2 in
    let k =
    comes-bind (any_keys_plan console.changes console.keys) (after_keys console.backup b.0 c.0 s.0) inputs s.2 in
    let is = comes-done (inputs_of console.backup b.0 c.0 s.0 k.0) inputs k.2 in
    let bios = image-sound bios_form console.bios b.0 b.1 in
    let cart = any_cart-sound console.cart c.0 c.1 in
    let save = any_save-sound console.backup console.save s.0 s.1 in
    rw (← is) (record {
      bios = bios.passes;
      cart = cart.passes;
      save = save.passes;
      backup = refl;
      has_cart = cart.has;
      has_save = save.has;
      digests = rw (ap digest_of bios.is, cart.digest, save.digest) refl;
      changes = any_keys-sound console.changes console.keys k.0 sound.lines.changes k.1;
    })

-- what is read for consoles after others
record AreRead (consoles : List ConsoleJob) (done all : List ConsoleInputs) : Type 0 where
  here : List ConsoleInputs
  is : done ++ here ≡ all
  sound : AllZip AreInputs consoles here

each-sound : (consoles : List ConsoleJob) (done all : List ConsoleInputs) → All IsConsole consoles
    → ComesTo (each console_plan done consoles) all → AreRead consoles done all
unfolding each
each-sound [] done all sound h =
    record { here = []; is = append-nil done ∙ comes-done done all h; sound = tt }
each-sound (console ∷ consoles) done all sound h =
    let b = comes-bind (console_plan console) (λ y. each console_plan (done ++ y ∷ []) consoles) all h in
    let first = console-sound console b.0 (All-head IsConsole console consoles sound) b.1 in
    let rest = each-sound consoles (done ++ b.0 ∷ []) all (All-tail IsConsole console consoles sound) b.2 in
    record {
      here = b.0 ∷ rest.here;
      is = sym (append_assoc done (b.0 ∷ []) rest.here) ∙ rest.is;
      sound = (first, rest.sound);
    }

-- however the plan came to them
pub plan-sound : (consoles : List ConsoleJob) (inputs : List ConsoleInputs) → All IsConsole consoles
    → ComesTo (inputs_plan consoles) inputs → AllZip AreInputs consoles inputs
plan-sound consoles inputs sound h =
    let all = each-sound consoles [] inputs sound h in
    subst (AllZip AreInputs consoles) all.is all.sound

pub inputs-sound : (files : Files) (consoles : List ConsoleJob) (inputs : List ConsoleInputs) → All IsConsole consoles
    → outcome files (inputs_plan consoles) ≡ Ok inputs → AllZip AreInputs consoles inputs
inputs-sound files consoles inputs sound h =
    plan-sound consoles inputs sound (outcome-comes files (inputs_plan consoles) inputs h)

with_digest-sound : (named : Option NamedFile) (image : Option (List ℕ)) → IfSome named IsFile
    → IfSome (any_with_digest named (option_map sha256 image)) IsFile
with_digest-sound None image h = tt
with_digest-sound (Some named) None h = record { named = h.named; stated = tt }
with_digest-sound (Some named) (Some bytes) h = record { named = h.named; stated = IsDigest-sha256 bytes }

filled_console-sound : (console : ConsoleJob) (inputs : ConsoleInputs) → IsConsole console → AreInputs console inputs
    → IsConsole (filled_console console inputs)
filled_console-sound console inputs sound read =
    rw read.digests (record {
      bios = record { named = sound.bios.named; stated = IsDigest-sha256 inputs.images.bios };
      off = sound.off;
      lines = record {
        cart = with_digest-sound console.cart inputs.images.cart sound.lines.cart;
        save = with_digest-sound console.save inputs.images.save sound.lines.save;
        keys = tt;
        changes = read.changes;
        apart = λ there. absurd cc;
        outs = sound.lines.outs;
      };
    })

-- consoles with their inputs written in
pub record AreFilled (consoles : List ConsoleJob) (inputs : List ConsoleInputs) : Type 0 where
  pub each : All IsConsole (filled_consoles consoles inputs)
  pub long : length (filled_consoles consoles inputs) ≡ length consoles

pub filled_consoles-sound : (consoles : List ConsoleJob) (inputs : List ConsoleInputs) → All IsConsole consoles
    → AllZip AreInputs consoles inputs → AreFilled consoles inputs
unfolding filled_consoles
filled_consoles-sound [] [] sound read = record { each = All-nil IsConsole; long = refl }
filled_consoles-sound [] (i ∷ inputs) sound read = absurd read
filled_consoles-sound (c ∷ consoles) [] sound read = absurd read
filled_consoles-sound (c ∷ consoles) (i ∷ inputs) sound read =
    let rest = filled_consoles-sound consoles inputs (All-tail IsConsole c consoles sound) read.1 in
    record {
      each = All-cons IsConsole (filled_console c i) (filled_consoles consoles inputs)
          (filled_console-sound c i (All-head IsConsole c consoles sound) read.0) rest.each;
      long = omega (arith, rest.long);
    }

pub filled-sound : (job : WholeJob) (inputs : List ConsoleInputs) → IsJob job → AllZip AreInputs job.consoles inputs
    → IsJob (filled job inputs)
filled-sound job inputs sound read =
    let all = filled_consoles-sound job.consoles inputs sound.each read in
    record {
      some_cycles = sound.some_cycles;
      few_cycles = sound.few_cycles;
      delays = subst (λ n. AreJobDelays (players_for n) job.delays) (sym all.long) sound.delays;
      some_consoles = omega (arith, all.long, sound.some_consoles);
      few_consoles = omega (arith, all.long, sound.few_consoles);
      each = all.each;
    }

-- what a function read that goes by the plan
pub is-sound : {Store X : Type 0} (gives : List ℕ → ℕ → Result (List ℕ) ReadError → Store → Store → Type 0)
    (view : X → List ConsoleInputs) (consoles : List ConsoleJob) (old new : Store) (result : Result X Refusal)
    → All IsConsole consoles → GoesTo gives (inputs_plan consoles) old new (end_of view result)
    → IfOk result (λ x. AllZip AreInputs consoles (view x))
is-sound gives view consoles old new (Ok x) sound h =
    plan-sound consoles (view x) sound (goes-comes gives (inputs_plan consoles) old new (view x) h)
is-sound gives view consoles old new (Err refusal) sound h = tt

-- there are as many of the one as of the other
pub zip-long : (consoles : List ConsoleJob) (inputs : List ConsoleInputs) → AllZip AreInputs consoles inputs
    → length consoles ≡ length inputs
zip-long [] [] read = refl
zip-long [] (i ∷ inputs) read = absurd read
zip-long (c ∷ consoles) [] read = absurd read
zip-long (c ∷ consoles) (i ∷ inputs) read = omega (arith, zip-long consoles inputs read.1)
