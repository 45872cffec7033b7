use Rattle.std.specs.Prelude.{ℕ, List, codes, Option, Some, None, if◌then◌else◌}
use Rattle.std.specs.Str.{bytes_eq}
use Rattle.gba_image.specs.declared.backup.Backup.{Backup}
use Rattle.gba_image.specs.declared.backup.Backup.TheVariants.{Sram, Flash64, Flash128}

-- The word of a line for what a cartridge keeps its saves in.
abbrev pub backup_word : Backup → List ℕ
backup_word Sram = codes "sram"
backup_word Flash64 = codes "flash64"
backup_word Flash128 = codes "flash128"

-- that of which a word is the line's, if it is one
abbrev pub backup_named : List ℕ → Option Backup
backup_named word =
    if bytes_eq word (backup_word Sram) then Some Sram
    else if bytes_eq word (backup_word Flash64) then Some Flash64
    else if bytes_eq word (backup_word Flash128) then Some Flash128
    else None

-- where no line says it, saves are kept in SRAM
abbrev pub backup_or_sram : Option Backup → Backup
backup_or_sram None = Sram
backup_or_sram (Some backup) = backup
