use Rattle.std.proofs.Common.{ℕ, ◌+◌, ◌-◌, ◌%◌, ◌^◌, ◌<◌, arith}
use Rattle.gba_bus.specs.Widths.{FitsWidth}
use Rattle.gba_bus.specs.declared.width.Width.{Width}
use Rattle.gba_bus.specs.declared.width.Width.TheVariants.{Byte, Half, Word}
use Rattle.gba_register.specs.Accesses.{half_of, loaded_by_halves}

-- That what is read has zeros above its width, whatever the reader gives, for the laws of the buses above.

half-fits : (read : ℕ → ℕ) (offset : ℕ) → half_of read offset < 2 ^ 16
unfolding half_of
half-fits read offset = omega arith

pub loads-fit : (read : ℕ → ℕ) (offset : ℕ) (width : Width) → FitsWidth width (loaded_by_halves read offset width)
loads-fit read offset Byte = omega arith
loads-fit read offset Half = half-fits read (offset - offset % 2)
loads-fit read offset Word =
    let low = half-fits read (offset - offset % 4) in
    let high = half-fits read (offset - offset % 4 + 2) in
    omega (arith, low, high)
