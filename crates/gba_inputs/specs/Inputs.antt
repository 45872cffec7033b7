use Rattle.std.specs.Prelude.{ℕ, List}
use Rattle.sha2.specs.Sha256.{sha256}
use Rattle.gba_image.specs.declared.images.ConsoleImages.{ConsoleImages}
use Rattle.gba_inputs.specs.declared.inputs.ImageDigests.{ImageDigests}
use Rattle.gba_joblog.specs.declared.job.KeyChange.{KeyChange}

-- an image, and the digest of its file
pub record DigestedImage : Type 0 where
  pub image : List ℕ
  pub digest : List ℕ

abbrev pub digested : List ℕ → DigestedImage
digested bytes = record { image = bytes; digest = sha256 bytes }

-- what is read for a console: its images, the digests of their files, and the changes of its keys
pub record ConsoleInputs : Type 0 where
  pub images : ConsoleImages
  pub digests : ImageDigests
  pub changes : List KeyChange
