-- A file is read and judged.
use Rattle.std.proofs.Common.{◌≡◌, ℕ, List, Result, Ok, Err, subst}
use Rattle.gba_store.specs.declared.outside.ReadError.{ReadError}
use Rattle.gba_command.specs.Cause.{Cause, Image, Job, Stop}
use Rattle.gba_command.specs.Plan.{file}
use Rattle.gba_command.specs.Reading.{GoesTo}
use Rattle.gba_command.specs.Views.{Agrees, end_of}
use Rattle.gba_command.specs.declared.refusal.Refusal.{Refusal}
use Rattle.gba_command.proofs.Plans.{goes-judged, goes-stop, goes-then}
use Rattle.gba_text.specs.Languages.{error_at}
use Rattle.gba_joblog.specs.Job.{NamedFile}
use Rattle.gba_joblog.specs.KeyFile.{longest_keys}
use Rattle.gba_joblog.specs.declared.job.KeyChange.{KeyChange}
use Rattle.gba_joblog.specs.declared.kinds.JobKind.TheVariants.{Long}
use Rattle.gba_inputs.specs.Inputs.{DigestedImage}
use Rattle.gba_inputs.specs.InputsPlan.{ImageForm, accepted, image_plan, judged_image, judged_keys, key_file_plan, keys_or_refusal}

module _ {Store : Type 0} (gives : List ℕ → ℕ → Result (List ℕ) ReadError → Store → Store → Type 0) where
  -- a read by a name, with a report of a name, both of which are that of the file
  by_name : (most : ℕ) (cause : List ℕ → Cause) (name report text : List ℕ) (old new : Store)
      (end : Result (List ℕ) Stop) → text ≡ name → report ≡ text
      → GoesTo gives (file text most (cause report)) old new end
      → GoesTo gives (file name most (cause name)) old new end
  by_name most cause name report text old new end is same goes =
      subst (λ (n : List ℕ). GoesTo gives (file n most (cause n)) old new end) is
      (subst (λ (r : List ℕ). GoesTo gives (file text most (cause r)) old new end) same goes)

  -- an image isn't read
  pub image-stops : (form : ImageForm) (named : NamedFile) (text report : List ℕ) (old new : Store) (stop : Stop)
      → text ≡ named.name → report ≡ text
      → GoesTo gives (file text form.most (Image report form.long)) old new (Err stop)
      → GoesTo gives (image_plan form named) old new (Err stop)
  image-stops form named text report old new stop is same goes =
      goes-stop gives (file named.name form.most (Image named.name form.long)) (judged_image form named) old new stop
      (by_name form.most (λ n. Image n form.long) named.name report text old new (Err stop) is same goes)

  -- an image is read and judged
  pub image-goes : {X : Type 0} (view : X → DigestedImage) (form : ImageForm) (named : NamedFile) (text report : List ℕ)
      (old new : Store) (bytes : List ℕ) (result : Result X Refusal) → text ≡ named.name → report ≡ text
      → GoesTo gives (file text form.most (Image report form.long)) old new (Ok bytes)
      → Agrees view (accepted form named bytes) result
      → GoesTo gives (image_plan form named) old new (end_of view result)
  image-goes view form named text report old new bytes result is same goes judged =
      goes-then gives (file named.name form.most (Image named.name form.long)) (judged_image form named) old new new
      bytes (end_of view result)
      (by_name form.most (λ n. Image n form.long) named.name report text old new (Ok bytes) is same goes)
      (goes-judged gives view (accepted form named bytes) result new judged)

  -- a key file isn't read
  pub keys-stop : (named : NamedFile) (text report : List ℕ) (old new : Store) (stop : Stop)
      → text ≡ named.name → report ≡ text
      → GoesTo gives (file text longest_keys (Job report (error_at 0 Long))) old new (Err stop)
      → GoesTo gives (key_file_plan named) old new (Err stop)
  keys-stop named text report old new stop is same goes =
      goes-stop gives (file named.name longest_keys (Job named.name (error_at 0 Long))) (judged_keys named) old new stop
      (by_name longest_keys (λ n. Job n (error_at 0 Long)) named.name report text old new (Err stop) is same goes)

  -- a key file is read and judged
  pub keys-go : {X : Type 0} (view : X → List KeyChange) (named : NamedFile) (text report : List ℕ)
      (old new : Store) (bytes : List ℕ) (result : Result X Refusal) → text ≡ named.name → report ≡ text
      → GoesTo gives (file text longest_keys (Job report (error_at 0 Long))) old new (Ok bytes)
      → Agrees view (keys_or_refusal named bytes) result
      → GoesTo gives (key_file_plan named) old new (end_of view result)
  keys-go view named text report old new bytes result is same goes judged =
      goes-then gives (file named.name longest_keys (Job named.name (error_at 0 Long))) (judged_keys named) old new new
      bytes (end_of view result)
      (by_name longest_keys (λ n. Job n (error_at 0 Long)) named.name report text old new (Ok bytes) is same goes)
      (goes-judged gives view (keys_or_refusal named bytes) result new judged)
