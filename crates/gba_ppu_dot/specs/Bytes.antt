use Rattle.std.specs.Prelude.{ℕ, ◌+◌, ◌*◌, ◌^◌, nat_lt, List, slice_index, if◌then◌else◌}

-- the halfword at an offset, its low byte first
abbrev pub half_at : List ℕ → ℕ → ℕ
half_at bytes offset = slice_index bytes offset + 2 ^ 8 * slice_index bytes (offset + 1)

-- a byte of video memory as a byte of a background's tile, which is 0 from 10000h on, where sprites have
-- their tiles (own)
abbrev pub tile_byte : List ℕ → ℕ → ℕ
tile_byte vram offset = if nat_lt offset 0x10000 then slice_index vram offset else 0
