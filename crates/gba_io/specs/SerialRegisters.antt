use Rattle.std.specs.Prelude.{ℕ, Bool, ◌-◌, ◌%◌, ◌==◌, ◌||◌}
use Rattle.gba_bus.specs.declared.width.Width.{Width}
use Rattle.gba_register.specs.Accesses.{loaded_by_halves, put_by, written_by_halves}
use Rattle.gba_serial.specs.Registers.{serial_kept, serial_read}
use Rattle.gba_serial.specs.SerialUnit.{SerialUnit}
use Rattle.gba_serial.specs.Write.{half_written}

-- The serial unit's registers at every width (GBATEK, GBA I/O Map), by their offsets from 04000000h. They fill words of
-- their own: SIODATA32 and SIOMULTI from 120h to 127h, SIOCNT and the send word at 128h, RCNT at 134h.
abbrev pub is_serial_word : ℕ → Bool
is_serial_word offset = (offset == 0x120) || (offset == 0x124) || (offset == 0x128) || (offset == 0x134)

-- whether an offset is in one of these words
abbrev pub is_serial : ℕ → Bool
is_serial offset = is_serial_word (offset - offset % 4)

-- what an access reads
abbrev pub serial_loaded : ℕ → Width → SerialUnit → ℕ
serial_loaded offset width u = loaded_by_halves (λ place. serial_read place u) offset width

-- What a write of a halfword at a clock leaves; `lanes` has the bits of the bytes that are written, and the others are
-- kept as they are stored.
unfoldable pub serial_put : ℕ → ℕ → ℕ → ℕ → SerialUnit → SerialUnit
serial_put clock offset value lanes u = put_by serial_kept (half_written clock) offset value lanes u

-- what a write of an access's width leaves
abbrev pub serial_written_at : ℕ → ℕ → Width → ℕ → SerialUnit → SerialUnit
serial_written_at clock offset width value u = written_by_halves (serial_put clock) offset width value u
