-- Which inputs of a job are read, in which order, and what comes of them.
use Rattle.std.specs.Prelude.{ℕ, List, [], Option, Some, None, Result, Ok, Err, option_map, if◌then◌else◌}
use Rattle.std.specs.Str.{bytes_eq}
use Rattle.sha2.specs.Sha256.{sha256}
use Rattle.gba_command.specs.Cause.{Cause, Job, Image, Digest}
use Rattle.gba_command.specs.Plan.{Plan, Done, bind, each, file, judgement}
use Rattle.gba_image.specs.Backups.{backup_length}
use Rattle.gba_image.specs.Checks.{bios_fault, cartridge_fault, longest_cartridge, save_fault}
use Rattle.gba_image.specs.declared.backup.Backup.{Backup}
use Rattle.gba_image.specs.declared.error.ImageError.{ImageError}
use Rattle.gba_image.specs.declared.error.ImageError.TheVariants.{BiosLength, TooLong, SaveLength}
use Rattle.gba_joblog.specs.Kinds.{JobError}
use Rattle.gba_text.specs.Languages.{error_at}
use Rattle.gba_joblog.specs.Job.{ConsoleJob, NamedFile}
use Rattle.gba_joblog.specs.KeyFile.{keys_of, longest_keys}
use Rattle.gba_joblog.specs.declared.job.KeyChange.{KeyChange}
use Rattle.gba_joblog.specs.declared.kinds.JobKind.TheVariants.{Long}
use Rattle.gba_inputs.specs.Inputs.{ConsoleInputs, DigestedImage, digested}

-- The digest of a file's bytes. Where the file's line states a digest, it has to be this one.
abbrev pub compared_with : NamedFile → Option (List ℕ) → List ℕ → Result (List ℕ) Cause
compared_with file None got = Ok got
compared_with file (Some stated) got = if bytes_eq stated got then Ok got else Err (Digest file.name stated got)

abbrev pub compared : NamedFile → List ℕ → Result (List ℕ) Cause
compared file bytes = compared_with file file.digest (sha256 bytes)

-- what follows where the digest is right
abbrev pub after_digest : {X : Type 0} → X → Result (List ℕ) Cause → Result X Cause
after_digest x (Ok digest) = Ok x
after_digest x (Err cause) = Err cause

-- a kind of image: the most bytes of its file, why a longer one is refused, and what its check says
pub record ImageForm : Type 0 where
  pub most : ℕ
  pub long : ImageError
  pub fault : List ℕ → Option ImageError

abbrev pub bios_form : ImageForm
bios_form = record { most = 16384; long = BiosLength; fault = bios_fault }

abbrev pub cart_form : ImageForm
cart_form = record { most = longest_cartridge; long = TooLong; fault = cartridge_fault }

-- the bytes of a save are as many as its backup has
abbrev pub save_form : Backup → ImageForm
save_form backup = record { most = backup_length backup; long = SaveLength; fault = λ bytes. save_fault bytes backup }

-- an image is checked, and then its digest is compared
abbrev pub unless_fault : NamedFile → List ℕ → Option ImageError → Result DigestedImage Cause
unless_fault file bytes (Some error) = Err (Image file.name error)
unless_fault file bytes None = after_digest (digested bytes) (compared file bytes)

abbrev pub accepted : ImageForm → NamedFile → List ℕ → Result DigestedImage Cause
accepted form file bytes = unless_fault file bytes (form.fault bytes)

abbrev pub judged_image : ImageForm → NamedFile → List ℕ → Plan DigestedImage
judged_image form named bytes = judgement (accepted form named bytes)

abbrev pub image_plan : ImageForm → NamedFile → Plan DigestedImage
image_plan form named = bind (file named.name form.most (Image named.name form.long)) (judged_image form named)

abbrev pub bios_plan : NamedFile → Plan DigestedImage
bios_plan named = image_plan bios_form named

abbrev pub cart_plan : NamedFile → Plan DigestedImage
cart_plan named = image_plan cart_form named

abbrev pub save_plan : Backup → NamedFile → Plan DigestedImage
save_plan backup named = image_plan (save_form backup) named

-- a cartridge and a save are there or not
abbrev pub found : DigestedImage → Plan (Option DigestedImage)
found image = Done (Some image)

abbrev pub any_image_plan : ImageForm → Option NamedFile → Plan (Option DigestedImage)
any_image_plan form None = Done None
any_image_plan form (Some named) = bind (image_plan form named) found

abbrev pub any_cart_plan : Option NamedFile → Plan (Option DigestedImage)
any_cart_plan named = any_image_plan cart_form named

abbrev pub any_save_plan : Backup → Option NamedFile → Plan (Option DigestedImage)
any_save_plan backup named = any_image_plan (save_form backup) named

-- The changes of a console's keys: those that the job says, or those of its key file, which is read, judged
-- and compared.
abbrev pub keys_or_fault : NamedFile → List ℕ → Result (List KeyChange) JobError → Result (List KeyChange) Cause
keys_or_fault named bytes (Ok changes) = after_digest changes (compared named bytes)
keys_or_fault named bytes (Err error) = Err (Job named.name error)

abbrev pub keys_or_refusal : NamedFile → List ℕ → Result (List KeyChange) Cause
keys_or_refusal named bytes = keys_or_fault named bytes (keys_of bytes)

abbrev pub judged_keys : NamedFile → List ℕ → Plan (List KeyChange)
judged_keys named bytes = judgement (keys_or_refusal named bytes)

abbrev pub key_file_plan : NamedFile → Plan (List KeyChange)
key_file_plan named = bind (file named.name longest_keys (Job named.name (error_at 0 Long))) (judged_keys named)

abbrev pub any_keys_plan : List KeyChange → Option NamedFile → Plan (List KeyChange)
any_keys_plan changes None = Done changes
any_keys_plan changes (Some named) = key_file_plan named

abbrev pub image_of : DigestedImage → List ℕ
image_of image = image.image

abbrev pub digest_of : DigestedImage → List ℕ
digest_of image = image.digest

abbrev pub inputs_of : Backup → DigestedImage → Option DigestedImage → Option DigestedImage → List KeyChange
    → ConsoleInputs
inputs_of backup bios cart save changes = record {
  images = record {
    bios = image_of bios;
    cart = option_map image_of cart;
    save = option_map image_of save;
    backup = backup;
  };
  digests = record { bios = digest_of bios; cart = option_map digest_of cart; save = option_map digest_of save };
  changes = changes;
}

-- a console's inputs, in this order: the BIOS, the cartridge, the save, the changes of the keys
abbrev pub after_keys : Backup → DigestedImage → Option DigestedImage → Option DigestedImage → List KeyChange
    → Plan ConsoleInputs
after_keys backup bios cart save changes = Done (inputs_of backup bios cart save changes)

abbrev pub after_save : ConsoleJob → DigestedImage → Option DigestedImage → Option DigestedImage → Plan ConsoleInputs
after_save console bios cart save =
    bind (any_keys_plan console.changes console.keys) (after_keys console.backup bios cart save)

abbrev pub after_cart : ConsoleJob → DigestedImage → Option DigestedImage → Plan ConsoleInputs
after_cart console bios cart = bind (any_save_plan console.backup console.save) (after_save console bios cart)

abbrev pub after_bios : ConsoleJob → DigestedImage → Plan ConsoleInputs
after_bios console bios = bind (any_cart_plan console.cart) (after_cart console bios)

abbrev pub console_plan : ConsoleJob → Plan ConsoleInputs
console_plan console = bind (bios_plan console.bios) (after_bios console)

-- the inputs of consoles, one console after another
abbrev pub inputs_plan : List ConsoleJob → Plan (List ConsoleInputs)
inputs_plan consoles = each console_plan [] consoles
