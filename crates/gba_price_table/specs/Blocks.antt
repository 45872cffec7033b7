use Rattle.std.specs.Prelude.{ℕ, Bool, List, [], ◌∷◌, ◌++◌, replicate}
use Rattle.gba_bus.specs.Prices.{price}
use Rattle.gba_bus.specs.declared.region.Region.TheVariants.{Bios, Work, Inner, Io, Palette, Vram, Oam, Rom0, Rom1, Rom2, Sram, Other}
use Rattle.gba_bus.specs.declared.width.Width.{Width}

-- The price of an access of one kind in each of the first sixteen blocks of 16 MiB, as the table keeps it. Only private
-- functions cite it. A block of which a part is no memory has one price all the same.
unfoldable pub block_prices : Width → Bool → ℕ → List ℕ
block_prices width sequential waits =
    price Bios width sequential waits ∷ price Other width sequential waits
    ∷ price Work width sequential waits ∷ price Inner width sequential waits
    ∷ price Io width sequential waits ∷ price Palette width sequential waits
    ∷ price Vram width sequential waits ∷ price Oam width sequential waits
    ∷ price Rom0 width sequential waits ∷ price Rom0 width sequential waits
    ∷ price Rom1 width sequential waits ∷ price Rom1 width sequential waits
    ∷ price Rom2 width sequential waits ∷ price Rom2 width sequential waits
    ∷ price Sram width sequential waits ∷ price Sram width sequential waits ∷ []

-- and in all 256 blocks: above the first sixteen there is nothing, which costs 1
unfoldable pub all_prices : Width → Bool → ℕ → List ℕ
all_prices width sequential waits = block_prices width sequential waits ++ replicate 240 1
