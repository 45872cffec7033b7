use Rattle.std.proofs.Common.{ℕ, Bool, true, false, ◌/◌, ◌^◌, ◌==◌, if◌then◌else◌, arith}
use Rattle.gba_bus.specs.Meanings.{CodePriced, IsPrice}
use Rattle.gba_bus.specs.declared.width.Width.{Width}
use Rattle.gba_bus.specs.declared.width.Width.TheVariants.{Byte, Half, Word}
use Rattle.gba_thumb_tests.specs.Prices.{cartridge_price, region_code_price}

-- That these prices are ones that an access may cost, for the laws of the trait.

cartridge_prices : (width : Width) (sequential : Bool) → IsPrice (cartridge_price width sequential)
cartridge_prices Word true = record { least = omega arith; most = omega arith }
cartridge_prices Word false = record { least = omega arith; most = omega arith }
cartridge_prices Half true = record { least = omega arith; most = omega arith }
cartridge_prices Half false = record { least = omega arith; most = omega arith }
cartridge_prices Byte true = record { least = omega arith; most = omega arith }
cartridge_prices Byte false = record { least = omega arith; most = omega arith }

either_price : (test : Bool) (price : ℕ) → IsPrice price → IsPrice (if test then price else 1)
either_price true price is = is
either_price false price is = record { least = omega arith; most = omega arith }

pub region_code_prices : CodePriced region_code_price
region_code_prices ram address width sequential =
    either_price (address / 2 ^ 24 == 8) (cartridge_price width sequential) (cartridge_prices width sequential)
