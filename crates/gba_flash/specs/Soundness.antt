use Rattle.std.specs.Prelude.{◌≡◌, ℕ, ◌<◌, true, false, length}
use Rattle.gba_image.specs.Backups.{backup_length}
use Rattle.gba_image.specs.declared.backup.Backup.{Backup}
use Rattle.gba_flash.specs.Flash.{FlashMemory, flash_written, has_banks, is_choosing, is_flash}
use Rattle.gba_flash.specs.declared.machine.FlashMachine.{FlashMachine}

-- What always holds of a flash's machine: there is a second bank only in the larger flash.
pub record IsSoundMachine (backup : Backup) (machine : FlashMachine) : Type 0 where
  pub bank : machine.bank < 2
  pub one_bank : has_banks backup ≡ false → machine.bank ≡ 0
  pub no_choice : has_banks backup ≡ false → is_choosing machine.state ≡ false

-- and of the flash: it has the bytes of its kind
pub record IsSoundFlash (f : FlashMemory) : Type 0 where
  pub flash : is_flash f.backup ≡ true
  pub bytes : length f.bytes ≡ backup_length f.backup
  pub machine : IsSoundMachine f.backup f.machine

-- a write leaves it so
abbrev pub StaysSound : Type 0
StaysSound = (offset value : ℕ) (f : FlashMemory) → IsSoundFlash f → IsSoundFlash (flash_written offset value f)
