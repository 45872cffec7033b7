use Rattle.std.proofs.Common.{ℕ, Bool, true, false, ◌+◌, ◌*◌, ◌%◌, ◌^◌, ◌<◌, if◌then◌else◌, arith}
use Rattle.std.specs.Prelude.{nat_lt, slice_index}
use Rattle.gba_bus.specs.Meanings.{CodeFits, CodePriced, IsPrice, LoadsFit, LoadsPriced, StoresPriced}
use Rattle.gba_bus.specs.Widths.{FitsWidth}
use Rattle.gba_bus.specs.declared.width.Width.{Width}
use Rattle.gba_bus.specs.declared.width.Width.TheVariants.{Byte, Half, Word}
use Rattle.gba_processor_tests.specs.Places.{place}
use Rattle.gba_processor_tests.specs.RamBus.{byte_at, number_at, ram_code, ram_code_price, ram_load, ram_store}
use Rattle.gba_processor_tests.specs.declared.ram.Ram.{Ram}

-- That this memory keeps what every bus keeps, for the laws of the trait.

code_prices : (slow sequential : Bool) → IsPrice (if slow then (if sequential then 2 else 3) else 1)
code_prices true true = record { least = omega arith; most = omega arith }
code_prices true false = record { least = omega arith; most = omega arith }
code_prices false sequential = record { least = omega arith; most = omega arith }

data_prices : (slow sequential : Bool) → IsPrice (if slow then (if sequential then 5 else 7) else 1)
data_prices true true = record { least = omega arith; most = omega arith }
data_prices true false = record { least = omega arith; most = omega arith }
data_prices false sequential = record { least = omega arith; most = omega arith }

pub ram_code_prices : CodePriced ram_code_price
ram_code_prices ram address width sequential = code_prices ram.slow sequential

pub ram_load_prices : LoadsPriced ram_load
ram_load_prices ram from address width sequential = data_prices ram.slow sequential

pub ram_store_prices : StoresPriced ram_store
ram_store_prices ram address width value sequential = data_prices ram.slow sequential

either_below : (test : Bool) (value : ℕ) → value < 256 → (if test then value else 0) < 256
either_below true value below = below
either_below false value below = omega arith

byte-below : (ram : Ram) (address : ℕ) → byte_at ram address < 256
byte-below ram address =
    either_below (nat_lt (place address) 3072) (slice_index ram.bytes (place address) % 256) (omega arith)

below-word : (a b c d : ℕ) → a < 256 → b < 256 → c < 256 → d < 256 → a + 256 * b + 65536 * c + 16777216 * d < 2 ^ 32
below-word a b c d p q r s = omega arith

below-half : (a b : ℕ) → a < 256 → b < 256 → a + 256 * b < 2 ^ 16
below-half a b p q = omega arith

number-fits : (ram : Ram) (address : ℕ) (width : Width) → FitsWidth width (number_at ram address width)
number-fits ram address Byte = byte-below ram address
number-fits ram address Half =
    below-half (byte_at ram address) (byte_at ram (address + 1)) (byte-below ram address) (byte-below ram (address + 1))
number-fits ram address Word =
    below-word (byte_at ram address) (byte_at ram (address + 1)) (byte_at ram (address + 2)) (byte_at ram (address + 3))
    (byte-below ram address) (byte-below ram (address + 1)) (byte-below ram (address + 2))
    (byte-below ram (address + 3))

pub ram_code_fits : CodeFits ram_code
ram_code_fits ram address width = number-fits ram address width

pub ram_loads_fit : LoadsFit ram_load
ram_loads_fit ram from address width sequential = number-fits ram address width
