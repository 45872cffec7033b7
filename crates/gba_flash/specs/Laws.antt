use Rattle.std.specs.Prelude.{◌≡◌, ℕ, Bool, false, ◌==◌, ◌&&◌, ◌/◌, slice_index}
use Rattle.gba_flash.specs.Flash.{FlashMemory, flash_written, is_commanding, is_programming, place_in, sector_size}

-- The three writes that change a byte: one that programs it, and the two that erase.
abbrev pub programs : ℕ → ℕ → FlashMemory → Bool
programs place offset f = is_programming f.machine.state && (place == place_in f.machine offset)

abbrev pub erases_all : ℕ → ℕ → FlashMemory → Bool
erases_all offset value f =
    (is_commanding f.machine.state && f.machine.armed) && ((offset == 0x5555) && (value == 0x10))

abbrev pub erases_sector : ℕ → ℕ → ℕ → FlashMemory → Bool
erases_sector place offset value f =
    (is_commanding f.machine.state && f.machine.armed)
    && ((value == 0x30) && (place / sector_size == place_in f.machine offset / sector_size))

-- a byte that none of these writes is made for stays as it was
abbrev pub KeepsBytes : Type 0
KeepsBytes = (place offset value : ℕ) (f : FlashMemory) → programs place offset f ≡ false
    → erases_all offset value f ≡ false → erases_sector place offset value f ≡ false
    → slice_index (flash_written offset value f).bytes place ≡ slice_index f.bytes place
