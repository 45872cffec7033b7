use Rattle.std.specs.Prelude.{ℕ, List, ◌==◌, ◌+◌, ◌*◌, ◌^◌, if◌then◌else◌}
use Rattle.gba_terms.specs.Bits.{field}
use Rattle.gba_psr.specs.Modes.{saved_place}
use Rattle.gba_psr.specs.RegisterFile.{status, mode, saved_status, with_register, with_status, with_saved_status}
use Rattle.gba_psr.specs.declared.exceptions.Exception.{Exception}
use Rattle.gba_psr.specs.declared.exceptions.Exception.TheVariants.{Undefined, Software, Interrupt}

-- the mode that an exception enters (ARM Architecture Reference Manual, A2.6)
abbrev pub mode_entered : Exception → ℕ
mode_entered Undefined = 0x1b
mode_entered Software = 0x13
mode_entered Interrupt = 0x12

-- the address at which an exception goes on (ARM Architecture Reference Manual, A2.6)
abbrev pub vector : Exception → ℕ
vector Undefined = 0x04
vector Software = 0x08
vector Interrupt = 0x18

-- CPSR in an exception: the flags and F stay, I is set, T is cleared (ARM Architecture Reference Manual, A2.6)
abbrev pub entry_status : Exception → ℕ → ℕ
entry_status kind old = field old 28 4 * 2 ^ 28 + 2 ^ 7 + field old 6 1 * 2 ^ 6 + mode_entered kind

-- Exception entry: in the new mode, the SPSR is the old CPSR, r14 the link and r15 the vector
-- (ARM Architecture Reference Manual, A2.6).
unfoldable pub after_entry : Exception → ℕ → List ℕ → List ℕ
after_entry kind link file =
    let in_mode = with_status file (entry_status kind (status file)) in
    with_register (with_register (with_saved_status in_mode (status file)) 14 link) 15 (vector kind)

-- CPSR taken from the SPSR: what a data operation with the S bit and r15 as its result does. In USR and SYS, which
-- have no SPSR, CPSR stays (this project's profile).
unfoldable pub after_leave : List ℕ → List ℕ
after_leave file = if saved_place (mode file) == 31 then file else with_status file (saved_status file)
