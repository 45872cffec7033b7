use Rattle.std.specs.Prelude.{◌≡◌, ℕ, ◌+◌, ◌-◌, ◌%◌, ◌==◌, nat_lt, List, length, slice_index, slice_range, sum, Option, Some, None, IfSome, Result, MatchResult, if◌then◌else◌}
use Rattle.gba_image.specs.Backups.{backup_length}
use Rattle.gba_image.specs.declared.backup.Backup.{Backup}
use Rattle.gba_image.specs.declared.error.ImageError.{ImageError}
use Rattle.gba_image.specs.declared.error.ImageError.TheVariants.{BiosLength, TooShort, TooLong, FixedByte, HeaderCheck, SaveLength}

-- Why an image is refused: the first reason in this order, or none.

-- a BIOS has 16 KiB (GBATEK, GBA Memory Map)
unfoldable pub bios_fault : List ℕ → Option ImageError
bios_fault bytes = if length bytes == 16384 then None else Some BiosLength

-- the header check of a cartridge: 0 minus the bytes A0h to BCh, minus 19h, modulo 256 (GBATEK, GBA Cartridge Header)
abbrev pub header_check : List ℕ → ℕ
header_check bytes = (256 - (sum (slice_range bytes 0xa0 0xbd) + 0x19) % 256) % 256

-- the most bytes of a cartridge: 32 MiB (GBATEK, GBA Memory Map)
abbrev pub longest_cartridge : ℕ
longest_cartridge = 33554432

-- A cartridge has a whole header and at most 32 MiB; the byte B2h is 96h, and the byte BDh is the header check. The
-- logo isn't compared (GBATEK, GBA Cartridge Header; the logo and the lengths this project's profile).
unfoldable pub cartridge_fault : List ℕ → Option ImageError
cartridge_fault bytes =
    if nat_lt (length bytes) 192 then Some TooShort
    else if nat_lt longest_cartridge (length bytes) then Some TooLong
    else if slice_index bytes 0xb2 == 0x96
    then (if slice_index bytes 0xbd == header_check bytes then None else Some HeaderCheck)
    else Some FixedByte

-- a save has the bytes of its backup (GBATEK, GBA Cart Backup SRAM and GBA Cart Backup Flash ROM)
unfoldable pub save_fault : List ℕ → Backup → Option ImageError
save_fault bytes backup = if length bytes == backup_length backup then None else Some SaveLength

-- a save, where there is one, has the bytes of a backup: it is one that was checked for it
abbrev pub SaveFits : Option (List ℕ) → Backup → Type 0
SaveFits save backup = IfSome save (λ bytes. length bytes ≡ backup_length backup)

-- a check accepts an image with just these bytes where nothing is wrong with them, and else gives the reason
abbrev pub Judges : Option ImageError → List ℕ → Result (List ℕ) ImageError → Type 0
Judges fault bytes answer = MatchResult answer (λ image. (fault ≡ None) × (image ≡ bytes)) (λ error. fault ≡ Some error)
