use Rattle.std.specs.Prelude.{ℕ, ◌+◌, ◌-◌, ◌*◌, ◌%◌, ◌^◌, ◌==◌, bit_and, bit_or, if◌then◌else◌}
use Rattle.gba_terms.specs.Bits.{field}
use Rattle.gba_bus.specs.declared.width.Width.{Width}
use Rattle.gba_bus.specs.declared.width.Width.TheVariants.{Byte, Half, Word}

-- Accesses of every width to registers that are read and written by halfwords, which stand at even offsets.

-- Of what a reader gives, a halfword has 16 bits, since every state of a bus has to read what fits. Of what a device
-- reads in code the cut takes nothing.
unfoldable pub half_of : (ℕ → ℕ) → ℕ → ℕ
half_of read offset = read offset % 2 ^ 16

-- what an access reads; wider ones are their halfwords, the lower first
abbrev pub loaded_by_halves : (ℕ → ℕ) → ℕ → Width → ℕ
loaded_by_halves read offset Byte = field (half_of read (offset - offset % 2)) (8 * (offset % 2)) 8
loaded_by_halves read offset Half = half_of read (offset - offset % 2)
loaded_by_halves read offset Word =
    half_of read (offset - offset % 4) + 2 ^ 16 * half_of read (offset - offset % 4 + 2)

-- the bits in `lanes`, which are those of the bytes that are written, and the others as they are kept
abbrev pub merged : ℕ → ℕ → ℕ → ℕ
merged kept value lanes = bit_or (bit_and kept (2 ^ 16 - 1 - lanes)) (bit_and value lanes)

-- What a write of a halfword's bytes leaves: `write` takes the offset, the whole halfword and the lanes, and `kept` is
-- what a halfword's other byte stays.
abbrev pub put_by : {State : Type 0} → (ℕ → State → ℕ) → (ℕ → ℕ → ℕ → State → State) → ℕ → ℕ → ℕ → State → State
put_by kept write offset value lanes s = write offset (merged (kept offset s) value lanes) lanes s

-- what an access leaves; `put` takes the offset of a halfword, the value and the lanes
abbrev pub written_by_halves : {State : Type 0} → (ℕ → ℕ → ℕ → State → State) → ℕ → Width → ℕ → State → State
written_by_halves put offset Byte value s =
    if offset % 2 == 0 then put offset (field value 0 8) 0x00ff s
    else put (offset - 1) (2 ^ 8 * field value 0 8) 0xff00 s
written_by_halves put offset Half value s = put (offset - offset % 2) (field value 0 16) 0xffff s
written_by_halves put offset Word value s =
    put (offset - offset % 4 + 2) (field value 16 16) 0xffff (put (offset - offset % 4) (field value 0 16) 0xffff s)
