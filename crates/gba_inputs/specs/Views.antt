use Rattle.std.specs.Prelude.{ℕ, List, map, Vec}
use Rattle.gba_image.specs.declared.images.ConsoleImages.{ConsoleImages}
use Rattle.gba_inputs.specs.Inputs.{ConsoleInputs, DigestedImage}
use Rattle.gba_inputs.specs.declared.inputs.Digested.{Digested}
use Rattle.gba_inputs.specs.declared.inputs.Inputs.{Inputs}
use Rattle.gba_joblog.specs.declared.job.KeyChange.{KeyChange}

-- what the program's types stand for

abbrev pub digested_value : Digested (List ℕ) → DigestedImage
digested_value image = record { image = image.image; digest = image.digest }

abbrev pub changes_value : {Z : Type 0} → Vec KeyChange Z → List KeyChange
changes_value changes = changes.items

abbrev pub inputs_value : Inputs → ConsoleInputs
inputs_value inputs = record { images = inputs.images; digests = inputs.digests; changes = inputs.changes.items }

abbrev pub all_inputs_value : {Z : Type 0} → Vec Inputs Z → List ConsoleInputs
all_inputs_value inputs = map inputs_value inputs.items

-- the images that were read for a console
abbrev pub images_of : Inputs → ConsoleImages
images_of inputs = inputs.images
