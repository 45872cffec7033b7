use Rattle.std.specs.Prelude.{ℕ, ◌+◌, ◌==◌, Bool, if◌then◌else◌}
use Rattle.gba_terms.specs.Bits.{bit, field}
use Rattle.gba_bus.specs.Meanings.{IsPrice}
use Rattle.gba_bus.specs.declared.region.Region.{Region}
use Rattle.gba_bus.specs.declared.region.Region.TheVariants.{Bios, Work, Inner, Io, Palette, Vram, Oam, Rom0, Rom1, Rom2, Sram, Other}
use Rattle.gba_bus.specs.declared.width.Width.{Width}
use Rattle.gba_bus.specs.declared.width.Width.TheVariants.{Byte, Half, Word}

-- What an access costs, in cycles: by its region, its width, whether it is sequential, and the wait control WAITCNT
-- (GBATEK, GBA Memory Map and GBA System Control).

-- the waits of a first access, which two bits of WAITCNT choose, from bit `low` up
abbrev pub chosen_wait : ℕ → ℕ
chosen_wait choice = if choice == 0 then 4 else if choice == 1 then 3 else if choice == 2 then 2 else 8

abbrev pub first_wait : ℕ → ℕ → ℕ
first_wait low waits = chosen_wait (field waits low 2)

-- the waits of a second access: 1 where the bit `place` of WAITCNT is set
abbrev pub second_wait : ℕ → ℕ → ℕ → ℕ
second_wait place slow waits = if bit waits place then 1 else slow

-- an access to ROM by these two waits: a word is two halfwords, the second of them sequential
abbrev pub rom_price : ℕ → ℕ → Width → Bool → ℕ
rom_price first second Byte sequential = 1 + (if sequential then second else first)
rom_price first second Half sequential = 1 + (if sequential then second else first)
rom_price first second Word sequential = (1 + (if sequential then second else first)) + (1 + second)

-- an access with one price below 32 bits, and another at 32 bits
abbrev pub by_width : ℕ → ℕ → Width → ℕ
by_width narrow wide Byte = narrow
by_width narrow wide Half = narrow
by_width narrow wide Word = wide

-- the table of prices; an access to the SRAM costs its wait at every width (this project's profile)
unfoldable pub price : Region → Width → Bool → ℕ → ℕ
price Bios width sequential waits = 1
price Work width sequential waits = by_width 3 6 width
price Inner width sequential waits = 1
price Io width sequential waits = 1
price Palette width sequential waits = by_width 1 2 width
price Vram width sequential waits = by_width 1 2 width
price Oam width sequential waits = 1
price Rom0 width sequential waits = rom_price (first_wait 2 waits) (second_wait 4 2 waits) width sequential
price Rom1 width sequential waits = rom_price (first_wait 5 waits) (second_wait 7 4 waits) width sequential
price Rom2 width sequential waits = rom_price (first_wait 8 waits) (second_wait 10 8 waits) width sequential
price Sram width sequential waits = 1 + first_wait 0 waits
price Other width sequential waits = 1

-- each price is one that an access may cost
abbrev pub PricesAreWithin : Type 0
PricesAreWithin =
    (region : Region) (width : Width) (sequential : Bool) (waits : ℕ) → IsPrice (price region width sequential waits)
