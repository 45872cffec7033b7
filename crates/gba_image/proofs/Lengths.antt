use Rattle.std.proofs.Common.{◌≡◌, ◌≤◌, ℕ, ◌==◌, Bool, true, false, cond, List, length, Some, None, refl, lit≤}
use Rattle.std.proofs.lemmas.Bool.{eqb-true}
use Rattle.gba_image.specs.Backups.{backup_length}
use Rattle.gba_image.specs.Checks.{save_fault}
use Rattle.gba_image.specs.declared.backup.Backup.{Backup}
use Rattle.gba_image.specs.declared.backup.Backup.TheVariants.{Sram, Flash64, Flash128}
use Rattle.gba_image.specs.declared.error.ImageError.TheVariants.{SaveLength}

-- no backup has more bytes than the larger flash
pub longest_backup : (backup : Backup) → backup_length backup ≤ 0x20000
longest_backup Sram = lit≤ tt
longest_backup Flash64 = lit≤ tt
longest_backup Flash128 = lit≤ tt

-- a save that passes its check has the bytes of its backup
pub passed_length : (bytes : List ℕ) (backup : Backup) → save_fault bytes backup ≡ None
    → length bytes ≡ backup_length backup
unfolding save_fault
passed_length bytes backup h = by_test (length bytes == backup_length backup) refl h where
  by_test : (b : Bool) → (length bytes == backup_length backup) ≡ b → cond b None (Some SaveLength) ≡ None
      → length bytes ≡ backup_length backup
  by_test true e s = eqb-true (length bytes) (backup_length backup) e
  by_test false e s = absurd cc
