use Rattle.std.proofs.Common.{◌≡◌, drop}
use Rattle.gba_frozen.specs.Reading.{wave_byte, with_bytes}
use Rattle.gba_filling.specs.Loose.{with_numbers}
use Rattle.gba_filling.proofs.rows.set_wave.Given as goal

-- the bytes that are left make of the console what all make of it at first
abbrev pub invariant-loop-place : goal.invariant-loop-place
invariant-loop-place l =
    with_numbers (with_bytes (wave_byte l.bank) l.place (drop l.place l.bytes) l.console.numbers) l.console
    ≡ with_numbers (with_bytes (wave_byte l.bank) 0 l.bytes l.fn.console.numbers) l.fn.console
