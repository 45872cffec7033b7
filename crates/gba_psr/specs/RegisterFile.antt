use Rattle.std.specs.Prelude.{◌≡◌, ℕ, List, ◌==◌, length, replicate, slice_index, slice_set, if◌then◌else◌}
use Rattle.gba_psr.specs.Modes.{place, saved_place}
use Rattle.gba_psr.specs.Status.{mode_of, kept_status, written_status, flags_of, status_with_flags, IsStatus}
use Rattle.gba_psr.specs.declared.condition.Flags.{Flags}

-- The register file is the list of the 37 numbers in the order of the register names: r0 to r15 of USR, the banked
-- registers mode by mode, CPSR, the five SPSRs (ARM Architecture Reference Manual, A2.3 to A2.5).

-- CPSR
unfoldable pub status : List ℕ → ℕ
status file = slice_index file 31

-- the present mode
unfoldable pub mode : List ℕ → ℕ
mode file = mode_of (status file)

-- N, Z, C, V of CPSR
unfoldable pub flags : List ℕ → Flags
flags file = flags_of (status file)

-- register `number` in the present mode
unfoldable pub register : List ℕ → ℕ → ℕ
register file number = slice_index file (place (mode file) number)

-- the file once a number was written to register `number` in the present mode
unfoldable pub with_register : List ℕ → ℕ → ℕ → List ℕ
with_register file number value = slice_set file (place (mode file) number) value

-- register `number` of the user's sixteen
unfoldable pub user_register : List ℕ → ℕ → ℕ
user_register file number = slice_index file number

-- the file once a number was written to register `number` of the user's sixteen
unfoldable pub with_user_register : List ℕ → ℕ → ℕ → List ℕ
with_user_register file number value = slice_set file number value

-- the file once a number was written to CPSR
unfoldable pub with_status : List ℕ → ℕ → List ℕ
with_status file value = slice_set file 31 (written_status (status file) value)

-- the file once CPSR has other flags
unfoldable pub with_flags : List ℕ → Flags → List ℕ
with_flags file new = slice_set file 31 (status_with_flags (status file) new)

-- the present mode's SPSR, and CPSR in USR and SYS
unfoldable pub saved_status : List ℕ → ℕ
saved_status file = slice_index file (saved_place (mode file))

-- the file once a number was written to the present mode's SPSR; in USR and SYS nothing changes
unfoldable pub with_saved_status : List ℕ → ℕ → List ℕ
with_saved_status file value =
    if saved_place (mode file) == 31 then file else slice_set file (saved_place (mode file)) (kept_status value)

-- all registers 0, but CPSR in SVC with interrupts off (ARM Architecture Reference Manual, A2.6.2; that the
-- registers are 0 is this project's profile)
unfoldable pub reset_file : List ℕ
reset_file = slice_set (replicate 37 0) 31 0xd3

-- what each register file is: 37 numbers, with a CPSR as it always is
pub record IsRegisterFile (file : List ℕ) : Type 0 where
  pub count : length file ≡ 37
  pub status_kept : IsStatus (status file)
