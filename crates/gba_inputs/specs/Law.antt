-- What holds of the inputs that are read.
use Rattle.std.specs.Prelude.{◌≡◌, ℕ, List, length, map, Option, None, Ok, IfSome, is_some, option_map}
use Rattle.std.specs.List.{All, AllZip}
use Rattle.sha2.specs.Sha256.{sha256}
use Rattle.gba_command.specs.Plan.{outcome}
use Rattle.gba_image.specs.Checks.{bios_fault, cartridge_fault, save_fault}
use Rattle.gba_image.specs.declared.backup.Backup.{Backup}
use Rattle.gba_image.specs.declared.error.ImageError.{ImageError}
use Rattle.gba_image.specs.declared.images.ConsoleImages.{ConsoleImages}
use Rattle.gba_joblog.specs.Language.{job_of}
use Rattle.gba_joblog.specs.Log.{log_text}
use Rattle.gba_joblog.specs.Outputs.{EachKind}
use Rattle.gba_joblog.specs.declared.job.OutLine.{OutLine}
use Rattle.gba_joblog.specs.declared.outputs.PerKind.{PerKind}
use Rattle.gba_joblog.specs.Job.{ConsoleJob, NamedFile, WholeJob}
use Rattle.gba_joblog.specs.Soundness.{AreChanges, IsConsole, IsJob, IsOutput}
use Rattle.gba_store.specs.Files.{Files}
use Rattle.gba_inputs.specs.Filled.{filled, log_job}
use Rattle.gba_inputs.specs.Inputs.{ConsoleInputs}
use Rattle.gba_inputs.specs.InputsPlan.{inputs_plan}
use Rattle.gba_inputs.specs.declared.inputs.ImageDigests.{ImageDigests}

-- an image that may be there passes its check
abbrev pub Passes : (List ℕ → Option ImageError) → List ℕ → Type 0
Passes fault bytes = fault bytes ≡ None

abbrev pub digests_of : ConsoleImages → ImageDigests
digests_of images = record {
  bios = sha256 images.bios;
  cart = option_map sha256 images.cart;
  save = option_map sha256 images.save;
}

-- The inputs of a console: each image passes its check, and a cartridge and a save are there where the console
-- names them; the save has the bytes of the console's backup; the digests are those of the images; and the key
-- changes are sound.
pub record AreInputs (console : ConsoleJob) (inputs : ConsoleInputs) : Type 0 where
  pub bios : Passes bios_fault inputs.images.bios
  pub cart : IfSome inputs.images.cart (Passes cartridge_fault)
  pub save : IfSome inputs.images.save (Passes (λ bytes. save_fault bytes console.backup))
  pub backup : inputs.images.backup ≡ console.backup
  pub has_cart : is_some inputs.images.cart ≡ is_some console.cart
  pub has_save : is_some inputs.images.save ≡ is_some console.save
  pub digests : inputs.digests ≡ digests_of inputs.images
  pub changes : AreChanges inputs.changes

-- What is read for sound consoles is sound.
abbrev pub InputsAreSound : Type 0
InputsAreSound =
    (files : Files) (consoles : List ConsoleJob) (inputs : List ConsoleInputs) → All IsConsole consoles
    → outcome files (inputs_plan consoles) ≡ Ok inputs → AllZip AreInputs consoles inputs

-- A sound job is sound with its inputs written in.
abbrev pub FilledIsSound : Type 0
FilledIsSound =
    (job : WholeJob) (inputs : List ConsoleInputs) → IsJob job → AllZip AreInputs job.consoles inputs
    → IsJob (filled job inputs)

-- the outputs of a console, with the digests stated for them
abbrev pub AreOutputs : PerKind (Option OutLine) → Type 0
AreOutputs outs = EachKind IsOutput outs

-- new files have the bytes of this one as the old files had them
abbrev pub IsKept : Files → Files → NamedFile → Type 0
IsKept old new file = new file.name ≡ old file.name

-- New files have the images of a console as the old files had them. Of its key file nothing is said.
pub record KeepsImages (old new : Files) (console : ConsoleJob) : Type 0 where
  pub bios : IsKept old new console.bios
  pub cart : IfSome console.cart (IsKept old new)
  pub save : IfSome console.save (IsKept old new)

-- what a console is asked for
abbrev pub asked_of : ConsoleJob → PerKind (Option OutLine)
asked_of console = console.outs

-- the clock from which on a console is on
abbrev pub off_of : ConsoleJob → ℕ
off_of console = console.off

-- what its cartridge keeps its saves in
abbrev pub backup_of : ConsoleJob → Backup
backup_of console = console.backup

-- The log of a run is read as a job of as many cycles, the same delays, consoles that are off as long and keep their
-- saves in the same, and these outputs. Over these files every input of it passes its check and has the digest that the
-- log states, and is the same; and its own log is this log.
pub record IsReplayed (files : Files) (job : WholeJob) (inputs : List ConsoleInputs)
    (outs : List (PerKind (Option OutLine))) : Type 0 where
  pub again : WholeJob
  pub read : job_of (log_text (log_job job inputs outs)) ≡ Ok again
  pub cycles : again.cycles ≡ job.cycles
  pub delays : again.delays ≡ job.delays
  pub offs : map off_of again.consoles ≡ map off_of job.consoles
  pub backups : map backup_of again.consoles ≡ map backup_of job.consoles
  pub asked : map asked_of again.consoles ≡ outs
  pub passes : outcome files (inputs_plan again.consoles) ≡ Ok inputs
  pub own : log_text (log_job again inputs outs) ≡ log_text (log_job job inputs outs)

-- The files over which the log is run need the images of the job alone: its key files are written in.
abbrev pub LogsAreReplayed : Type 0
LogsAreReplayed =
    (old new : Files) (job : WholeJob) (inputs : List ConsoleInputs) (outs : List (PerKind (Option OutLine)))
    → IsJob job → length outs ≡ length job.consoles → All AreOutputs outs
    → outcome old (inputs_plan job.consoles) ≡ Ok inputs → All (KeepsImages old new) job.consoles
    → IsReplayed new job inputs outs
