use Rattle.std.specs.Prelude.{ℕ, Bool, true, false, ◌/◌, ◌^◌, ◌==◌, if◌then◌else◌}
use Rattle.gba_bus.specs.Meanings.{Price}
use Rattle.gba_bus.specs.declared.width.Width.{Width}
use Rattle.gba_bus.specs.declared.width.Width.TheVariants.{Byte, Half, Word}
use Rattle.gba_processor_tests.specs.declared.ram.Ram.{Ram}

-- Prices of code that go by address, width and order, so that each of them shows.

abbrev pub cartridge_price : Width → Bool → ℕ
cartridge_price Word true = 6
cartridge_price Word false = 8
cartridge_price Half true = 3
cartridge_price Half false = 5
cartridge_price Byte true = 2
cartridge_price Byte false = 4

-- 1 everywhere but in the cartridge, at 08000000h to 08FFFFFFh
abbrev pub region_code_price : Price Ram
region_code_price ram address width sequential =
    if address / 2 ^ 24 == 8 then cartridge_price width sequential else 1
