-- The laws of the generator.
use Rattle.std.specs.Prelude.{◌≡◌, ◌≤◌, ◌^◌, ℕ, List, length, Ok}
use Rattle.gba_asm.specs.Assembly.{assembly_of}
use Rattle.gba_command.specs.Words.{IsOut}
use Rattle.gba_joblog.specs.Job.{WholeJob}
use Rattle.gba_joblog.specs.Language.{job_of}
use Rattle.gba_joblog.specs.LogLaw.{unlined}
use Rattle.gba_generator.specs.Job.{job, job_text}
use Rattle.gba_generator.specs.Source.{bios, bios_length, code, source}

-- The source of every player is of the assembly language: its code is what the assembler makes of it, and
-- fits the BIOS.
pub record IsCode (number player : ℕ) : Type 0 where
  pub says : assembly_of (source number player) ≡ Ok (code number player)
  pub fits : length (code number player) ≤ bios_length
  pub whole : length (bios number player) ≡ bios_length

abbrev pub IsAssembled : Type 0
IsAssembled = (number player : ℕ) → IsCode number player

-- The lines of the job are read as that job, but for the numbers of its lines.
pub record IsReadAs (cycles : ℕ) (out : List ℕ) : Type 0 where
  pub again : WholeJob
  pub read : job_of (job_text cycles out) ≡ Ok again
  pub same : unlined again ≡ unlined (job cycles out)

abbrev pub IsRead : Type 0
IsRead = (cycles : ℕ) (out : List ℕ) → 1 ≤ cycles → cycles ≤ 2 ^ 31 → IsOut out → IsReadAs cycles out
