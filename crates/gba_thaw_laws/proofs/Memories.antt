-- The memories of a console.
use Rattle.std.proofs.Common.{◌≡◌, ℕ, ◌+◌, ◌%◌, ◌^◌, ◌<◌, ◌==◌, ◌∙◌, ap, sym, true, List, ◌++◌, length, Some, slice_index, refl, arith, append-nil, mod-eq_of_lt, lit<}
use Rattle.std.proofs.lemmas.List.{drop_all}
use Rattle.gba_word.specs.Sums.{flag_number}
use Rattle.gba_console.specs.Machine.{Machine}
use Rattle.gba_console.specs.Pouring.{IsSameFrame, machine_with_flash}
use Rattle.gba_console.specs.Shorn.{rested}
use Rattle.gba_flash.specs.Flash.{FlashMemory, is_flash}
use Rattle.gba_flash.specs.Replacing.{with_bytes}
use Rattle.gba_flash.specs.declared.machine.FlashMachine.{FlashMachine}
use Rattle.gba_flash.specs.declared.machine.FlashState.{FlashState}
use Rattle.gba_flash.specs.declared.machine.FlashState.TheVariants.{Ready, First, Second, Program, Bank}
use Rattle.gba_image.specs.Backups.{backup_length}
use Rattle.gba_image.specs.declared.backup.Backup.TheVariants.{Sram}
use Rattle.gba_loose.proofs.Made.{truth-again}
use Rattle.gba_mem.specs.BackupLaw.{IsSoundBackup}
use Rattle.gba_mem.specs.Backups.{BackupMemory, InSram, InFlash, backup_bytes, backup_of, flash_machine, with_backup_bytes, with_machine}
use Rattle.gba_numbers.specs.Fields.{is_field, place_of}
use Rattle.gba_numbers.specs.declared.fields.Field.TheVariants.{FlashArmed, FlashBank, FlashIdentify}
use Rattle.gba_numbers.specs.declared.fields.Field.TheVariants as field
use Rattle.gba_snapshot.specs.Console.{memory_bytes}
use Rattle.gba_snapshot.specs.Snapshot.{console_number, flash_numbers, numbers_of, state_number}
use Rattle.gba_thaw.specs.Console.{flash_thawed, state_numbered, with_memories}
use Rattle.gba_thaw_laws.specs.Holds.{Holds}
use Rattle.gba_thaw_laws.specs.Laws.{IsStartOf}
use Rattle.gba_thaw_laws.proofs.Numbers.{number-is}

-- ---- what a flash remembers

state-again : (state : FlashState) → state_numbered (state_number state) ≡ state
state-again Ready = refl
state-again First = refl
state-again Second = refl
state-again Program = refl
state-again Bank = refl

-- of the four numbers of a flash
abbrev pub machine_numbered : List ℕ → FlashMachine
machine_numbered numbers = record {
  state = state_numbered (slice_index numbers 0);
  armed = slice_index numbers 1 == 1;
  identify = slice_index numbers 2 == 1;
  bank = slice_index numbers 3 % 2 ^ 32;
}

pub machine-numbered : (m : Machine)
    → flash_thawed (numbers_of m) ≡ machine_numbered (flash_numbers (flash_machine m.board.core.memory.backup))
unfolding flash_thawed console_number is_field place_of
machine-numbered m =
    let state = number-is m field.FlashState refl (lit< tt) in
    let armed = number-is m FlashArmed refl (lit< tt) in
    let identify = number-is m FlashIdentify refl (lit< tt) in
    let bank = number-is m FlashBank refl (lit< tt) in
    λ i. record {
      state = state_numbered (state i);
      armed = armed i == 1;
      identify = identify i == 1;
      bank = bank i % 2 ^ 32;
    }

pub machine-by : (machine : FlashMachine) → machine.bank < 2 → machine_numbered (flash_numbers (Some machine)) ≡ machine
machine-by machine few =
    let armed = truth-again machine.armed (flag_number machine.armed) refl in
    let identify = truth-again machine.identify (flag_number machine.identify) refl in
    let bank = mod-eq_of_lt (let small : machine.bank < 2 ^ 32 = omega (arith, few) in small) in
    λ i. record {
      state = state-again machine.state i;
      armed = armed i;
      identify = identify i;
      bank = bank i;
    }

-- ---- bytes that replace all

pub all-replaced : (new bytes : List ℕ) → length bytes ≡ length new → with_bytes 0 new bytes ≡ new
all-replaced new bytes long =
    ap (λ (rest : List ℕ). new ++ rest) (drop_all (0 + length new) bytes (omega (arith, long))) ∙ append-nil new

-- what keeps the saves
apart : (bytes : List ℕ) (flash : FlashMemory) → Sram ≡ flash.backup → is_flash flash.backup ≡ true → ⊥
apart bytes flash kind is = let never : is_flash Sram ≡ true = ap is_flash kind ∙ is in absurd cc

backup-by : (start own : BackupMemory) (machine : FlashMachine) → IsSoundBackup start → IsSoundBackup own
    → backup_of start ≡ backup_of own
    → machine ≡ machine_numbered (flash_numbers (flash_machine own))
    → with_machine machine (with_backup_bytes 0 (backup_bytes own) start) ≡ own
backup-by (InSram bytes) (InSram new) machine start own kind is =
    ap (λ (bs : List ℕ). InSram bs) (all-replaced new bytes (omega (arith, start, own)))
backup-by (InSram bytes) (InFlash flash) machine start own kind is = absurd (apart bytes flash kind own.flash)
backup-by (InFlash flash) (InSram bytes) machine start own kind is = absurd (apart bytes flash (sym kind) start.flash)
backup-by (InFlash flash) (InFlash new) machine start own kind is =
    let same = is ∙ machine-by new.machine own.machine.bank in
    let bytes = all-replaced new.bytes flash.bytes (start.bytes ∙ ap backup_length kind ∙ sym own.bytes) in
    λ i. InFlash (record { bytes = bytes i; backup = kind i; machine = same i })

-- ---- all of them

pub frame-again : (start m : Machine) → IsStartOf m start → Holds m
    → IsSameFrame (machine_with_flash (flash_thawed (numbers_of m)) (with_memories (memory_bytes m.board.core) start))
    (rested m)
frame-again start m same holds =
    let new = m.board.core.memory in
    let old = start.board.core.memory in
    let work = all-replaced new.work old.work (same.lengths.work ∙ sym holds.lengths.work) in
    let inner = all-replaced new.inner old.inner (same.lengths.inner ∙ sym holds.lengths.inner) in
    let palette = all-replaced new.palette old.palette (same.lengths.palette ∙ sym holds.lengths.palette) in
    let vram = all-replaced new.vram old.vram (same.lengths.vram ∙ sym holds.lengths.vram) in
    let oam = all-replaced new.oam old.oam (same.lengths.oam ∙ sym holds.lengths.oam) in
    let backup =
    backup-by old.backup new.backup (flash_thawed (numbers_of m)) same.backup holds.backup same.kind
    (machine-numbered m) in
    record {
      memory = λ i. record {
        bios = same.bios i;
        rom = same.rom i;
        work = work i;
        inner = inner i;
        palette = palette i;
        vram = vram i;
        oam = oam i;
        backup = backup i;
      };
      keys = same.keys;
      off = same.off;
      frames = same.frames;
      samples = same.samples;
      words = same.words;
    }
