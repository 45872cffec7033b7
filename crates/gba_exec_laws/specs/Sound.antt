-- What the register file is before and after each step.
use Rattle.std.specs.Prelude.{◌≡◌, ℕ, ◌<◌, ◌%◌, ◌^◌, List, slice_index}
use Rattle.gba_psr.specs.RegisterFile.{IsRegisterFile, register, status}
use Rattle.gba_psr.specs.Status.{kept_status, unit_bytes}

-- CPSR and the SPSRs have no bits but the stored ones, and each of the 37 registers is a word
pub record IsStoredFile (file : List ℕ) : Type 0 where
  pub whole : IsRegisterFile file
  pub saved : (place : ℕ) → 31 < place → kept_status (slice_index file place) ≡ slice_index file place
  pub words : (place : ℕ) → slice_index file place < 2 ^ 32

-- and r15 is the address of an instruction
pub record IsSoundFile (file : List ℕ) : Type 0 where
  pub stored : IsStoredFile file
  pub aligned : register file 15 % unit_bytes (status file) ≡ 0
