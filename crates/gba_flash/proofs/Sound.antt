use Rattle.std.proofs.Common.{◌≡◌, ℕ, ◌%◌, ◌==◌, Bool, true, false, ◌&&◌, List, length, if◌then◌else◌, refl, sym, ◌∙◌, ap, arith}
use Rattle.std.proofs.lemmas.List.{length-set}
use Rattle.gba_image.specs.declared.backup.Backup.{Backup}
use Rattle.gba_flash.specs.Flash.{FlashMemory, bytes_after, command_of, flash_written, has_banks, is_choosing, machine_after, place_in, sector_of, sector_size, with_state, written_in}
use Rattle.gba_flash.specs.Soundness.{IsSoundFlash, IsSoundMachine, StaysSound}
use Rattle.gba_flash.specs.declared.machine.Command.{Command}
use Rattle.gba_flash.specs.declared.machine.Command.TheVariants as command
use Rattle.gba_flash.specs.declared.machine.FlashMachine.{FlashMachine}
use Rattle.gba_flash.specs.declared.machine.FlashState.{FlashState}
use Rattle.gba_flash.specs.declared.machine.FlashState.TheVariants.{Ready, First, Second, Program, Bank}
use Rattle.gba_flash.proofs.Commands.{is_bank, none-chooses}
use Rattle.gba_flash.proofs.Erased.{erased-long}

-- ---- the machine

-- with the same bank, and in a state that doesn't choose
same-bank : (backup : Backup) (m new : FlashMachine) → IsSoundMachine backup m → new.bank ≡ m.bank
    → is_choosing new.state ≡ false → IsSoundMachine backup new
same-bank backup m new sound bank none = record {
  bank = omega (arith, bank, sound.bank);
  one_bank = λ one. bank ∙ sound.one_bank one;
  no_choice = λ one. none;
}

ready-sound : (backup : Backup) (m : FlashMachine) (starts leaves : Bool) → IsSoundMachine backup m
    → IsSoundMachine backup (if starts then with_state First m else if leaves then record m { identify = false } else m)
ready-sound backup m true leaves sound = same-bank backup m _ sound refl refl
ready-sound backup m false true sound =
    record { bank = sound.bank; one_bank = sound.one_bank; no_choice = sound.no_choice }
ready-sound backup m false false sound = sound

first-sound : (backup : Backup) (m : FlashMachine) (goes_on : Bool) → IsSoundMachine backup m
    → IsSoundMachine backup (with_state (if goes_on then Second else Ready) m)
first-sound backup m true sound = same-bank backup m _ sound refl refl
first-sound backup m false sound = same-bank backup m _ sound refl refl

pub command-sound : (backup : Backup) (m : FlashMachine) (c : Command) → IsSoundMachine backup m
    → (has_banks backup ≡ false → is_bank c ≡ false) → IsSoundMachine backup (machine_after c m)
command-sound backup m command.Arm sound none = same-bank backup m _ sound refl refl
command-sound backup m (command.Identify identify) sound none = same-bank backup m _ sound refl refl
command-sound backup m command.Program sound none = same-bank backup m _ sound refl refl
command-sound backup m command.Bank sound none =
    record { bank = sound.bank; one_bank = sound.one_bank; no_choice = none }
command-sound backup m command.EraseAll sound none = same-bank backup m _ sound refl refl
command-sound backup m command.EraseSector sound none = same-bank backup m _ sound refl refl
command-sound backup m command.Nothing sound none = same-bank backup m _ sound refl refl

chosen-sound : (backup : Backup) (m : FlashMachine) (value : ℕ) (is_at : Bool) → IsSoundMachine backup m
    → (has_banks backup ≡ false → true ≡ false)
    → IsSoundMachine backup (record m { state = Ready; bank = if is_at then value % 2 else m.bank })
chosen-sound backup m value true sound two =
    record { bank = omega arith; one_bank = λ one. grind (arith, two one); no_choice = λ one. refl }
chosen-sound backup m value false sound two = same-bank backup m _ sound refl refl

-- ---- the bytes

command-long : (c : Command) (place : ℕ) (bytes : List ℕ) → length (bytes_after c place bytes) ≡ length bytes
command-long command.Arm place bytes = refl
command-long (command.Identify identify) place bytes = refl
command-long command.Program place bytes = refl
command-long command.Bank place bytes = refl
command-long command.EraseAll place bytes = erased-long 0 (length bytes) bytes
command-long command.EraseSector place bytes = erased-long (sector_of place) sector_size bytes
command-long command.Nothing place bytes = refl

-- ---- a write

sound-in : (state : FlashState) (offset value : ℕ) (f : FlashMemory) → f.machine.state ≡ state → IsSoundFlash f
    → IsSoundFlash (written_in state offset value f)
sound-in Ready offset value f in_it sound = record {
  flash = sound.flash;
  bytes = sound.bytes;
  machine = ready-sound f.backup f.machine ((offset == 0x5555) && (value == 0xaa)) (value == 0xf0) sound.machine;
}
sound-in First offset value f in_it sound = record {
  flash = sound.flash;
  bytes = sound.bytes;
  machine = first-sound f.backup f.machine ((offset == 0x2aaa) && (value == 0x55)) sound.machine;
}
sound-in Second offset value f in_it sound =
    let c = command_of offset value f.backup f.machine.armed in
    record {
      flash = sound.flash;
      bytes = command-long c (place_in f.machine offset) f.bytes ∙ sound.bytes;
      machine = command-sound f.backup f.machine c sound.machine (none-chooses offset value f.backup f.machine.armed);
    }
sound-in Program offset value f in_it sound = record {
  flash = sound.flash;
  bytes = length-set f.bytes (place_in f.machine offset) _ ∙ sound.bytes;
  machine = same-bank f.backup f.machine _ sound.machine refl refl;
}
sound-in Bank offset value f in_it sound = record {
  flash = sound.flash;
  bytes = sound.bytes;
  machine = chosen-sound f.backup f.machine value (offset == 0) sound.machine
      (λ one. sym (ap is_choosing in_it) ∙ sound.machine.no_choice one);
}

pub stays-sound : StaysSound
unfolding flash_written
stays-sound offset value f sound = sound-in f.machine.state offset value f refl sound

-- ---- its kind

kind-in : (state : FlashState) (offset value : ℕ) (f : FlashMemory)
    → (written_in state offset value f).backup ≡ f.backup
kind-in Ready offset value f = refl
kind-in First offset value f = refl
kind-in Second offset value f = refl
kind-in Program offset value f = refl
kind-in Bank offset value f = refl

pub keeps-kind : (offset value : ℕ) (f : FlashMemory) → (flash_written offset value f).backup ≡ f.backup
unfolding flash_written
keeps-kind offset value f = kind-in f.machine.state offset value f
