-- A console can be poured where a run can go on from its parts.
use Rattle.std.proofs.Common.{◌≡◌, ◌≤◌, ◌<◌, ℕ, ◌+◌, ◌^◌, true, List, length, arith}
use Rattle.std.proofs.lemmas.Bool.{and_parts}
use Rattle.std.proofs.lemmas.Bool.Decides.{nat_tests}
use Rattle.gba_console.specs.Machine.{Machine}
use Rattle.gba_console.specs.Pouring.{CanPour}
use Rattle.gba_filling.specs.Drawn.{DrawnLines}
use Rattle.gba_flash.specs.Soundness.{IsSoundMachine}
use Rattle.gba_flash.specs.declared.machine.FlashMachine.{FlashMachine}
use Rattle.gba_image.specs.declared.backup.Backup.{Backup}
use Rattle.gba_image.specs.declared.backup.Backup.TheVariants.{Sram, Flash64, Flash128}
use Rattle.gba_io.specs.Drawing.{lines_drawn}
use Rattle.gba_mem.specs.Backups.{backup_of}
use Rattle.gba_loose_devices.specs.Devices.{keys_poured}
use Rattle.gba_loose_devices.specs.Picture.{place_poured}
use Rattle.gba_loose_devices.specs.Whole.{board_poured}
use Rattle.gba_numbers.specs.Numbers.{ConsoleNumbers, value_of}
use Rattle.gba_numbers.specs.declared.fields.Field.TheVariants as field
use Rattle.gba_ppu_reg.specs.declared.position.Position.{Position}
use Rattle.gba_serial.specs.Making.{seat_of}
use Rattle.gba_thaw.specs.Checks.{are_applied, are_drawn, is_sound_flash, is_timed}
use Rattle.gba_thaw.specs.Console.{can_be_made, can_go_on, flash_thawed, limit_thawed}

-- the three tests that count here
record Passed (until : ℕ) (m : Machine) (n : ConsoleNumbers) (io : List ℕ) (lines : DrawnLines) : Type 0 where
  timed : is_timed until n ≡ true
  applied : are_applied m.keys (keys_poured io).pressed n ≡ true
  drawn : are_drawn (place_poured n) lines ≡ true

passed : (until : ℕ) (m : Machine) (n : ConsoleNumbers) (io : List ℕ) (drawn : DrawnLines)
    → can_go_on until m n io drawn ≡ true → Passed until m n io drawn
unfolding can_go_on
passed until m n io drawn goes =
    let runs = and_parts _ _ goes in
    let mode = and_parts _ _ runs.0 in
    let left = and_parts _ _ mode.0 in
    let drawn_left = and_parts _ _ left.0 in
    let lines = and_parts _ _ drawn_left.0 in
    let applied = and_parts _ _ lines.0 in
    let timed = and_parts _ _ applied.0 in
    record { timed = timed.1; applied = applied.1; drawn = lines.1 }

record Times (until : ℕ) (n : ConsoleNumbers) : Type 0 where
  begun : value_of field.Was n ≤ value_of field.Clock n
  short : value_of field.Clock n ≤ value_of field.Was n + 512
  early : value_of field.Clock n ≤ until + 511
  frames : value_of field.Frames n < 2 ^ 40
  samples : value_of field.Samples n < 2 ^ 40
  words : value_of field.Words n < 2 ^ 40

times : (until : ℕ) (n : ConsoleNumbers) → is_timed until n ≡ true → Times until n
unfolding is_timed
times until n timed =
    record {
      begun = grind (arith, nat_tests, timed);
      short = grind (arith, nat_tests, timed);
      early = grind (arith, nat_tests, timed);
      frames = grind (arith, nat_tests, timed);
      samples = grind (arith, nat_tests, timed);
      words = grind (arith, nat_tests, timed);
    }

drawn-is : (place : Position) (drawn : DrawnLines) → are_drawn place drawn ≡ true
    → length drawn.lines ≡ lines_drawn place
unfolding are_drawn
drawn-is place drawn h = grind (arith, nat_tests, h)

-- what a flash remembers is what one can
sound-by : (backup : Backup) (machine : FlashMachine) → is_sound_flash backup machine ≡ true
    → IsSoundMachine backup machine
unfolding is_sound_flash
sound-by Sram machine h = record {
  bank = grind (arith, nat_tests, h);
  one_bank = λ none. grind (arith, nat_tests, h);
  no_choice = λ none. grind (arith, nat_tests, h);
}
sound-by Flash64 machine h = record {
  bank = grind (arith, nat_tests, h);
  one_bank = λ none. grind (arith, nat_tests, h);
  no_choice = λ none. grind (arith, nat_tests, h);
}
sound-by Flash128 machine h = record {
  bank = grind (arith, nat_tests, h);
  one_bank = λ none. absurd cc;
  no_choice = λ none. absurd cc;
}

pub has_flash : (m : Machine) (n : ConsoleNumbers) (io : List ℕ) → can_be_made m n io ≡ true
    → IsSoundMachine (backup_of m.board.core.memory.backup) (flash_thawed n)
unfolding can_be_made
has_flash m n io h =
    sound-by (backup_of m.board.core.memory.backup) (flash_thawed n) (and_parts _ _ h).1

pub can_pour : (until : ℕ) (m : Machine) (n : ConsoleNumbers) (io : List ℕ) (drawn : DrawnLines)
    → until ≤ 2 ^ 39 → can_go_on until m n io drawn ≡ true
    → CanPour (value_of field.Was n) (limit_thawed n) (board_poured (seat_of m.board.core.serial) n io) drawn.lines
can_pour until m n io drawn few goes =
    let is = passed until m n io drawn goes in
    let t = times until n is.timed in
    record {
      begun = t.begun;
      short = t.short;
      drawn = drawn-is (place_poured n) drawn is.drawn;
      frames = t.frames;
      samples = t.samples;
      words = t.words;
      few = omega (arith, t.early, few);
      near = omega arith;
      room = omega arith;
    }

few-of : (m : Machine) (n : ConsoleNumbers) (io : List ℕ) → are_applied m.keys (keys_poured io).pressed n ≡ true
    → value_of field.Applied n ≤ length m.keys
unfolding are_applied
few-of m n io h = grind (arith, nat_tests, h)

pub applied_few : (until : ℕ) (m : Machine) (n : ConsoleNumbers) (io : List ℕ) (drawn : DrawnLines)
    → can_go_on until m n io drawn ≡ true → value_of field.Applied n ≤ length m.keys
applied_few until m n io drawn goes = few-of m n io (passed until m n io drawn goes).applied
