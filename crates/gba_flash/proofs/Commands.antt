use Rattle.std.proofs.Common.{◌≡◌, ℕ, Bool, true, false, ◌&&◌, ◌==◌, arith}
use Rattle.std.proofs.lemmas.Bool.Decides.{nat_tests}
use Rattle.gba_image.specs.declared.backup.Backup.{Backup}
use Rattle.gba_flash.specs.Flash.{command_of, has_banks}
use Rattle.gba_flash.specs.declared.machine.Command.{Command}
use Rattle.gba_flash.specs.declared.machine.Command.TheVariants as command

abbrev pub is_all : Command → Bool
is_all command.Arm = false
is_all (command.Identify identify) = false
is_all command.Program = false
is_all command.Bank = false
is_all command.EraseAll = true
is_all command.EraseSector = false
is_all command.Nothing = false

abbrev pub is_sector : Command → Bool
is_sector command.Arm = false
is_sector (command.Identify identify) = false
is_sector command.Program = false
is_sector command.Bank = false
is_sector command.EraseAll = false
is_sector command.EraseSector = true
is_sector command.Nothing = false

-- the writes that are the two erasing commands
pub all-said : (offset value : ℕ) (backup : Backup) (armed : Bool)
    → is_all (command_of offset value backup armed) ≡ armed && ((offset == 0x5555) && (value == 0x10))
unfolding command_of
all-said offset value backup armed = grind (arith, nat_tests)

pub sector-said : (offset value : ℕ) (backup : Backup) (armed : Bool)
    → is_sector (command_of offset value backup armed) ≡ armed && (value == 0x30)
unfolding command_of
sector-said offset value backup armed = grind (arith, nat_tests)

abbrev pub is_bank : Command → Bool
is_bank command.Arm = false
is_bank (command.Identify identify) = false
is_bank command.Program = false
is_bank command.Bank = true
is_bank command.EraseAll = false
is_bank command.EraseSector = false
is_bank command.Nothing = false

-- where there is one bank, no write is the command that chooses
pub none-chooses : (offset value : ℕ) (backup : Backup) (armed : Bool) → has_banks backup ≡ false
    → is_bank (command_of offset value backup armed) ≡ false
unfolding command_of
none-chooses offset value backup armed one = grind (arith, nat_tests, one)
