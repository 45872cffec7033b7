use Rattle.std.specs.Prelude.{ℕ, ◌-◌, ◌%◌, nat_lt, if◌then◌else◌}

-- Where the byte of an address stands in its memory, which is repeated in its blocks of 16 MiB (GBATEK, GBA Memory
-- Map, and Memory Mirrors in GBA Unpredictable Things). The ROM has 32 MiB in each view.
abbrev pub work_place : ℕ → ℕ
work_place address = address % 0x40000

abbrev pub inner_place : ℕ → ℕ
inner_place address = address % 0x8000

abbrev pub palette_place : ℕ → ℕ
palette_place address = address % 0x400

-- the VRAM is repeated by 128 KiB: 64 KiB, 32 KiB, and the same 32 KiB again
abbrev pub vram_place : ℕ → ℕ
vram_place address = if nat_lt (address % 0x20000) 0x18000 then address % 0x20000 else address % 0x20000 - 0x8000

abbrev pub oam_place : ℕ → ℕ
oam_place address = address % 0x400

abbrev pub rom_place : ℕ → ℕ
rom_place address = address % 0x2000000

abbrev pub sram_place : ℕ → ℕ
sram_place address = address % 0x8000

-- of a flash one bank of 64 KiB is seen at once
abbrev pub flash_place : ℕ → ℕ
flash_place address = address % 0x10000

-- where the part of the VRAM begins that holds the tiles of sprites, by the mode of the picture (GBATEK, LCD VRAM
-- Overview)
abbrev pub sprite_part : ℕ → ℕ
sprite_part mode = if nat_lt mode 3 then 0x10000 else 0x14000
