use Rattle.std.specs.Prelude.{◌≡◌, ℕ, Bool, true, false, ◌+◌, ◌==◌, ◌&&◌, nat_lt, List, slice_index, if◌then◌else◌}
use Rattle.gba_terms.specs.Bits.{field}
use Rattle.gba_bus.specs.Regions.{region_of}
use Rattle.gba_bus.specs.Widths.{aligned}
use Rattle.gba_bus.specs.declared.region.Region.{Region}
use Rattle.gba_bus.specs.declared.region.Region.TheVariants.{Palette, Vram, Oam}
use Rattle.gba_bus.specs.declared.width.Width.{Width}
use Rattle.gba_bus.specs.declared.width.Width.TheVariants.{Byte, Half, Word}
use Rattle.gba_mem.specs.Memories.{Memories}
use Rattle.gba_mem.specs.Places.{oam_place, palette_place, sprite_part, vram_place}
use Rattle.gba_mem.specs.Stores.{store}

-- Video memory: the palette, the VRAM and the OAM, of which the picture is drawn.
abbrev pub is_video : Region → Bool
is_video Palette = true
is_video Vram = true
is_video Oam = true
is_video _ = false

-- the memories have the same video memory
pub record IsSameVideo (before after : Memories) : Type 0 where
  pub palette : after.palette ≡ before.palette
  pub vram : after.vram ≡ before.vram
  pub oam : after.oam ≡ before.oam

-- A write anywhere else leaves it.
abbrev pub StoresKeepVideo : Type 0
StoresKeepVideo =
    (mode : ℕ) (m : Memories) (address : ℕ) (width : Width) (value : ℕ) → is_video (region_of address) ≡ false
    → IsSameVideo m (store mode m address width value)

-- Whether bytes have a number already, as it would be put at a place: its low bytes, as many as the width has, or its
-- low byte twice. Only private functions cite these.
abbrev pub has_number : Width → List ℕ → ℕ → ℕ → Bool
has_number Byte bytes place value = slice_index bytes place == field value 0 8
has_number Half bytes place value =
    (slice_index bytes place == field value 0 8) && (slice_index bytes (place + 1) == field value 8 8)
has_number Word bytes place value =
    (slice_index bytes place == field value 0 8) && (slice_index bytes (place + 1) == field value 8 8)
    && (slice_index bytes (place + 2) == field value 16 8) && (slice_index bytes (place + 3) == field value 24 8)

abbrev pub has_both : List ℕ → ℕ → ℕ → Bool
has_both bytes place value =
    (slice_index bytes place == field value 0 8) && (slice_index bytes (place + 1) == field value 0 8)

-- whether a write would change nothing, by the memory that it goes to
unfoldable pub has_palette : List ℕ → ℕ → Width → ℕ → Bool
has_palette palette address Byte value = has_both palette (palette_place (aligned Half address)) value
has_palette palette address width value = has_number width palette (palette_place (aligned width address)) value

unfoldable pub has_vram : ℕ → List ℕ → ℕ → Width → ℕ → Bool
has_vram mode vram address Byte value =
    if nat_lt (vram_place address) (sprite_part mode)
    then has_both vram (vram_place (aligned Half address)) value
    else true
has_vram mode vram address width value = has_number width vram (vram_place (aligned width address)) value

unfoldable pub has_oam : List ℕ → ℕ → Width → ℕ → Bool
has_oam oam address Byte value = true
has_oam oam address width value = has_number width oam (oam_place (aligned width address)) value
