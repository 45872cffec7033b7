-- The images of a job's inputs.
use Rattle.std.proofs.Common.{◌≡◌, ℕ, List, [], ◌∷◌, map, Option, Some, None, refl, sym, ap, ◌∙◌}
use Rattle.std.specs.List.{AllZip}
use Rattle.std.specs.Prelude.{IfSome}
use Rattle.gba_image.proofs.Lengths.{passed_length}
use Rattle.gba_image.specs.Backups.{backup_length}
use Rattle.gba_image.specs.Checks.{SaveFits, save_fault}
use Rattle.gba_image.specs.declared.backup.Backup.{Backup}
use Rattle.gba_image.specs.declared.images.ConsoleImages.{ConsoleImages}
use Rattle.gba_inputs.specs.Filled.{filled_consoles}
use Rattle.gba_inputs.specs.Inputs.{ConsoleInputs}
use Rattle.gba_inputs.specs.Law.{AreInputs, Passes}
use Rattle.gba_inputs.specs.Views.{images_of, inputs_value}
use Rattle.gba_inputs.specs.declared.inputs.Inputs.{Inputs}
use Rattle.gba_joblog.specs.Job.{ConsoleJob}
use Rattle.gba_joblog.specs.Unasked.{console_unasked}
use Rattle.gba_link.specs.RunPlan.{images_in}
use Rattle.gba_session.specs.Start.{FitsConsole}

pub images-are : (inputs : List Inputs) → map images_of inputs ≡ map images_in (map inputs_value inputs)
images-are [] = refl
images-are (one ∷ inputs) = ap (λ images. images_of one ∷ images) (images-are inputs)

-- a save that passed the check for a console's backup has the bytes of its images' backup, which is the same
save-fits : (save : Option (List ℕ)) (said backup : Backup) → backup ≡ said
    → IfSome save (Passes (λ bytes. save_fault bytes said)) → SaveFits save backup
save-fits None said backup same passes = tt
save-fits (Some bytes) said backup same passes = passed_length bytes said passes ∙ ap backup_length (sym same)

-- the images that are read for a job's consoles fit them
pub inputs-fit : (consoles : List ConsoleJob) (inputs : List ConsoleInputs) → AllZip AreInputs consoles inputs
    → AllZip FitsConsole (filled_consoles consoles inputs) (map images_in inputs)
unfolding filled_consoles
inputs-fit [] [] read = tt
inputs-fit [] (i ∷ inputs) read = absurd read
inputs-fit (c ∷ consoles) [] read = absurd read
inputs-fit (c ∷ consoles) (i ∷ inputs) read = (
  record {
    backup = read.0.backup;
    save = save-fits i.images.save c.backup i.images.backup read.0.backup read.0.save;
  },
  inputs-fit consoles inputs read.1,
)

-- they fit them as well where nothing is asked for
pub unasked-fit : (consoles : List ConsoleJob) (images : List ConsoleImages) → AllZip FitsConsole consoles images
    → AllZip FitsConsole (map console_unasked consoles) images
unasked-fit [] [] fit = tt
unasked-fit [] (one ∷ images) fit = absurd fit
unasked-fit (c ∷ consoles) [] fit = absurd fit
unasked-fit (c ∷ consoles) (one ∷ images) fit =
    (record { backup = fit.0.backup; save = fit.0.save }, unasked-fit consoles images fit.1)
