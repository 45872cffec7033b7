-- What the accesses of every width keep.
use Rattle.std.proofs.Common.{ℕ, Bool, true, false, ◌+◌, ◌-◌, ◌*◌, ◌%◌, ◌^◌, if◌then◌else◌}
use Rattle.std.specs.Prelude.{◌==◌}
use Rattle.gba_terms.specs.Bits.{field}
use Rattle.gba_bus.specs.declared.width.Width.{Width}
use Rattle.gba_bus.specs.declared.width.Width.TheVariants.{Byte, Half, Word}
use Rattle.gba_register.specs.Accesses.{written_by_halves}

either : {State : Type 0} (Kept : State → Type 0) (test : Bool) (one other : State) → Kept one → Kept other
    → Kept (if test then one else other)
either Kept true one other here there = here
either Kept false one other here there = there

-- an access keeps what each write of a halfword keeps
pub written-keeps : {State : Type 0} (Kept : State → Type 0) (put : ℕ → ℕ → ℕ → State → State)
    → ((offset value lanes : ℕ) (s : State) → Kept s → Kept (put offset value lanes s))
    → (offset : ℕ) (width : Width) (value : ℕ) (s : State) → Kept s
    → Kept (written_by_halves put offset width value s)
written-keeps Kept put keeps offset Byte value s before =
    either Kept (offset % 2 == 0) (put offset (field value 0 8) 0x00ff s)
    (put (offset - 1) (2 ^ 8 * field value 0 8) 0xff00 s)
    (keeps offset (field value 0 8) 0x00ff s before)
    (keeps (offset - 1) (2 ^ 8 * field value 0 8) 0xff00 s before)
written-keeps Kept put keeps offset Half value s before =
    keeps (offset - offset % 2) (field value 0 16) 0xffff s before
written-keeps Kept put keeps offset Word value s before =
    keeps (offset - offset % 4 + 2) (field value 16 16) 0xffff
    (put (offset - offset % 4) (field value 0 16) 0xffff s)
    (keeps (offset - offset % 4) (field value 0 16) 0xffff s before)
