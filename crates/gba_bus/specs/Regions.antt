use Rattle.std.specs.Prelude.{ℕ, Bool, true, false, ◌/◌, ◌^◌, ◌==◌, nat_lt, if◌then◌else◌}
use Rattle.gba_bus.specs.declared.region.Region.{Region}
use Rattle.gba_bus.specs.declared.region.Region.TheVariants.{Bios, Work, Inner, Io, Palette, Vram, Oam, Rom0, Rom1, Rom2, Sram, Other}

-- The region of an address, by the 16 MiB block that it stands in (GBATEK, GBA Memory Map). The BIOS and the
-- I/O registers are at the front of their blocks and aren't repeated there; the SRAM has two blocks (this
-- project's profile).
abbrev pub region_in_block : ℕ → ℕ → Region
region_in_block block address =
    if block == 0x0 then (if nat_lt address 0x4000 then Bios else Other)
    else if block == 0x2 then Work
    else if block == 0x3 then Inner
    else if block == 0x4 then (if nat_lt address 0x04000400 then Io else Other)
    else if block == 0x5 then Palette
    else if block == 0x6 then Vram
    else if block == 0x7 then Oam
    else if block == 0x8 then Rom0
    else if block == 0x9 then Rom0
    else if block == 0xa then Rom1
    else if block == 0xb then Rom1
    else if block == 0xc then Rom2
    else if block == 0xd then Rom2
    else if block == 0xe then Sram
    else if block == 0xf then Sram
    else Other

unfoldable pub region_of : ℕ → Region
region_of address = region_in_block (address / 2 ^ 24) address

-- whether a region is the BIOS, the inner RAM, the I/O registers, a view of the ROM, and that of the SRAM or the flash
abbrev pub is_bios : Region → Bool
is_bios Bios = true
is_bios _ = false

abbrev pub is_inner : Region → Bool
is_inner Inner = true
is_inner _ = false

abbrev pub is_io : Region → Bool
is_io Io = true
is_io _ = false

abbrev pub is_rom : Region → Bool
is_rom Rom0 = true
is_rom Rom1 = true
is_rom Rom2 = true
is_rom _ = false

abbrev pub is_sram : Region → Bool
is_sram Sram = true
is_sram _ = false
