use Rattle.std.specs.Prelude.{ℕ, Bool, true, false, ◌+◌, ◌*◌, ◌/◌, ◌%◌, nat_lt, slice_index, slice_set, if◌then◌else◌}
use Rattle.gba_bus.specs.Meanings.{Code, Load, Price, Store}
use Rattle.gba_bus.specs.declared.width.Width.{Width}
use Rattle.gba_bus.specs.declared.width.Width.TheVariants.{Byte, Half, Word}
use Rattle.gba_processor_tests.specs.Places.{place}
use Rattle.gba_processor_tests.specs.declared.ram.Ram.{Ram}

-- Memory for tests: three kibibytes, at 02000000h, 03000000h and 08000000h. Every other address reads 0 and drops
-- writes. Where it is slow each kind of access has a price of its own.

-- the byte at an address
abbrev pub byte_at : Ram → ℕ → ℕ
byte_at ram address = if nat_lt (place address) 3072 then slice_index ram.bytes (place address) % 256 else 0

-- the number at an address, little-endian
abbrev pub number_at : Ram → ℕ → Width → ℕ
number_at ram address Byte = byte_at ram address
number_at ram address Half = byte_at ram address + 256 * byte_at ram (address + 1)
number_at ram address Word =
    byte_at ram address + 256 * byte_at ram (address + 1) + 65536 * byte_at ram (address + 2)
    + 16777216 * byte_at ram (address + 3)

abbrev pub with_byte : ℕ → ℕ → Ram → Ram
with_byte address value ram =
    if nat_lt (place address) 3072 then record ram { bytes = slice_set ram.bytes (place address) (value % 256) }
    else ram

-- the memory after a write, little-endian
abbrev pub with_number : ℕ → Width → ℕ → Ram → Ram
with_number address Byte value ram = with_byte address value ram
with_number address Half value ram = with_byte (address + 1) (value / 256) (with_byte address value ram)
with_number address Word value ram =
    with_byte (address + 3) (value / 16777216) (with_byte (address + 2) (value / 65536)
    (with_byte (address + 1) (value / 256) (with_byte address value ram)))

abbrev pub ram_code_price : Price Ram
ram_code_price ram address width sequential = if ram.slow then (if sequential then 2 else 3) else 1

abbrev pub data_price : Ram → Bool → ℕ
data_price ram sequential = if ram.slow then (if sequential then 5 else 7) else 1

abbrev pub ram_code : Code Ram
ram_code ram address width = record { value = number_at ram address width; after = ram }

abbrev pub ram_load : Load Ram
ram_load ram from address width sequential =
    record { value = number_at ram address width; price = data_price ram sequential; after = ram }

abbrev pub ram_store : Store Ram
ram_store ram address width value sequential =
    record { price = data_price ram sequential; after = with_number address width value ram }
