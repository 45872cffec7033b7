-- What `gen` makes of its words: the files of a job, and its run.
use Rattle.std.specs.Prelude.{ℕ, List, [], ◌∷◌, None}
use Rattle.gba_command.specs.Words.{GenerateWords}
use Rattle.gba_command.specs.Writing.{Output, Run}
use Rattle.gba_generator.specs.Job.{bios_file, job, job_file, job_text}
use Rattle.gba_generator.specs.Source.{bios}
use Rattle.gba_image.specs.declared.backup.Backup.TheVariants.{Sram}
use Rattle.gba_image.specs.declared.images.ConsoleImages.{ConsoleImages}
use Rattle.gba_inputs.specs.Inputs.{ConsoleInputs}
use Rattle.gba_inputs.specs.Law.{digests_of}
use Rattle.gba_link.specs.RunPlan.{result_of_run}
use Rattle.gba_run_files.specs.Written.{after_files}

-- the file of a player's BIOS
abbrev pub bios_output : GenerateWords → ℕ → Output
bios_output words player = record { name = bios_file words.out player; bytes = bios words.number player }

abbrev pub job_output : GenerateWords → Output
job_output words = record { name = job_file words.out; bytes = job_text words.cycles words.out }

-- the files of the job: the four BIOS images, and the job itself
abbrev pub made_files : GenerateWords → List Output
made_files words =
    bios_output words 0 ∷ bios_output words 1 ∷ bios_output words 2 ∷ bios_output words 3
    ∷ job_output words ∷ []

-- a console has its BIOS alone, and no key is pressed
abbrev pub bare_images : List ℕ → ConsoleImages
bare_images image = record { bios = image; cart = None; save = None; backup = Sram }

abbrev pub bare_inputs : List ℕ → ConsoleInputs
bare_inputs image = record { images = bare_images image; digests = digests_of (bare_images image); changes = [] }

abbrev pub made_inputs : ℕ → List ConsoleInputs
made_inputs number =
    bare_inputs (bios number 0) ∷ bare_inputs (bios number 1) ∷ bare_inputs (bios number 2)
    ∷ bare_inputs (bios number 3) ∷ []

-- The files of the job, and then what the run of the job with these images writes.
abbrev pub generated_run : GenerateWords → Run
generated_run words =
    after_files (made_files words)
    (result_of_run words.out (job words.cycles words.out) (made_inputs words.number))
