use Rattle.std.specs.Prelude.{ℕ, ◌-◌, ◌%◌, ◌^◌, ◌<◌}
use Rattle.gba_bus.specs.declared.width.Width.{Width}
use Rattle.gba_bus.specs.declared.width.Width.TheVariants.{Byte, Half, Word}

-- how many bytes an access has
abbrev pub size : Width → ℕ
size Byte = 1
size Half = 2
size Word = 4

-- where an access stands: its address forced to its alignment (ARM Architecture Reference Manual, A2.7)
abbrev pub aligned : Width → ℕ → ℕ
aligned Byte address = address
aligned Half address = address - address % 2
aligned Word address = address - address % 4

-- how many bits an access has
abbrev pub bit_count : Width → ℕ
bit_count Byte = 8
bit_count Half = 16
bit_count Word = 32

-- a number that an access of this width can carry
abbrev pub FitsWidth : Width → ℕ → Type 0
FitsWidth width value = value < 2 ^ bit_count width
