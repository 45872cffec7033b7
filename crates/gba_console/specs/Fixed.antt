use Rattle.std.specs.Prelude.{ℕ, ◌≡◌, ◌<◌, ◌^◌, ◌||◌, Bool, List}
use Rattle.gba_bus.specs.declared.region.Region.{Region}
use Rattle.gba_bus.specs.declared.width.Width.TheVariants.{Half}
use Rattle.gba_io.specs.Bus.{core_read}
use Rattle.gba_io.specs.Core.{Core}
use Rattle.gba_bus.specs.Regions.{is_bios, is_rom}
use Rattle.gba_console.specs.declared.fixed.KeptHalf.{KeptHalf}

-- What stands in the BIOS and in the ROM never changes. Only private functions and the
-- console's invariant cite these two.
abbrev pub is_fixed : Region → Bool
is_fixed region = is_bios region || is_rom region

-- An entry with an address is what stands there, in any core with these images of BIOS and ROM.
abbrev pub Stands : List ℕ → List ℕ → KeptHalf → Type 0
Stands bios rom one =
    one.fixed < 2 ^ 32 → (b : Core) → b.memory.bios ≡ bios → b.memory.rom ≡ rom
    → core_read b one.fixed one.fixed Half ≡ one.decoded.half
