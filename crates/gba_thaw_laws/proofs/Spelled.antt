-- The numbers of a console may stand in a frozen file.
use Rattle.std.proofs.Common.{◌≡◌, ℕ, zero, suc, ◌+◌, ◌-◌, ◌^◌, ◌<◌, ◌≤◌, ◌∙◌, ◌==◌, ap, sym, subst, Bool, true, false, ◌&&◌, nat_lt, List, Option, None, slice_index, refl, arith, lt-ltb, le-leb, le-ltb, eq-eqb, eqb-true, ltb-false, ltb-true, lit<}
use Rattle.std.proofs.lemmas.Bool.{and_parts, cond_both, eqb-false}
use Rattle.gba_console.specs.Machine.{Machine, clock_of}
use Rattle.gba_flash.specs.Flash.{is_flash}
use Rattle.gba_flash.specs.declared.machine.FlashMachine.{FlashMachine}
use Rattle.gba_flash.specs.declared.machine.FlashState.{FlashState}
use Rattle.gba_flash.specs.declared.machine.FlashState.TheVariants.{Ready, First, Second, Program, Bank}
use Rattle.gba_frozen.specs.Rows.{flash_field_of, in_time}
use Rattle.gba_frozen_text.specs.Laws.{AreFrozen}
use Rattle.gba_loose.specs.Numbers.{board_number}
use Rattle.gba_mem.specs.BackupLaw.{IsSoundBackup}
use Rattle.gba_mem.specs.Backups.{BackupMemory, InSram, InFlash, backup_of, flash_machine}
use Rattle.gba_numbers.specs.Fields.{is_field, place_of}
use Rattle.gba_numbers.specs.Numbers.{AreWhole, ConsoleNumbers, value_at, value_of}
use Rattle.gba_numbers.specs.Ranges.{field_fits, is_saved_status, is_status, register_fits, word_end}
use Rattle.gba_numbers.specs.declared.fields.BoardField.{BoardField}
use Rattle.gba_numbers.specs.declared.fields.Field.{Field}
use Rattle.gba_numbers.specs.declared.fields.Field.TheVariants as field
use Rattle.gba_psr.specs.Modes.{is_mode}
use Rattle.gba_psr.specs.Status.{IsStatus, kept_status, mode_of}
use Rattle.gba_snapshot.specs.Console.{backup_in}
use Rattle.gba_snapshot.specs.Snapshot.{console_number, flash_numbers, numbers_of, single_fields, state_number}
use Rattle.gba_sound.specs.Queues.{queue_at}
use Rattle.gba_thaw_laws.specs.Holds.{Holds, RegistersHold}
use Rattle.gba_thaw_laws.specs.Text.{IsSpelled}
use Rattle.gba_thaw_laws.proofs.Numbers.{number-is, numbers-are}
use Rattle.gba_thaw_laws.proofs.Ranges.{below-four, byte-below, in-range, queue-holds, truth-below}

-- ---- each number is that of the console

queue-a-at : (n : ConsoleNumbers) (place : ℕ) → place < 32 → value_at (138 + place) n ≡ slice_index n.queue_a place
unfolding value_at
queue-a-at n place inside =
    let a = le-ltb (138 + place) 138 (omega arith) in
    let b = lt-ltb (138 + place) 170 (omega (arith, inside)) in
    let c : 138 + place - 138 ≡ place = omega arith in
    rw (a, b, c) refl

queue-b-at : (n : ConsoleNumbers) (place : ℕ) → place < 32 → value_at (170 + place) n ≡ slice_index n.queue_b place
unfolding value_at
queue-b-at n place inside =
    let a = le-ltb (170 + place) 138 (omega arith) in
    let b = le-ltb (170 + place) 170 (omega arith) in
    let c = lt-ltb (170 + place) 202 (omega (arith, inside)) in
    let d : 170 + place - 170 ≡ place = omega arith in
    rw (a, b, c, d) refl

queue-is : (m : Machine) (queue place : ℕ) → queue < 2 → place < 32
    → value_of (field.QueueByte queue place) (numbers_of m) ≡ console_number (field.QueueByte queue place) m
unfolding place_of console_number numbers_of
queue-is m zero place lower inside = queue-a-at (numbers_of m) place inside
queue-is m (suc zero) place lower inside = queue-b-at (numbers_of m) place inside
queue-is m (suc (suc queue)) place lower inside = absurd (omega (arith, lower))

register-place : (m : Machine) (register : ℕ) → is_field (field.Register register) ≡ true
    → value_of (field.Register register) (numbers_of m) ≡ console_number (field.Register register) m
unfolding is_field place_of
register-place m register is =
    let inside = ltb-true register 37 is in
    number-is m (field.Register register) is (omega (arith, inside))

board-is : (m : Machine) (one : BoardField) → is_field (field.Board one) ≡ true
    → value_of (field.Board one) (numbers_of m) ≡ console_number (field.Board one) m
unfolding is_field console_number
board-is m one is = numbers-are m one is

pub value-is : (m : Machine) (one : Field) → is_field one ≡ true → value_of one (numbers_of m) ≡ console_number one m
unfolding is_field place_of
value-is m field.Clock is = number-is m field.Clock is (lit< tt)
value-is m field.Was is = number-is m field.Was is (lit< tt)
value-is m field.Applied is = number-is m field.Applied is (lit< tt)
value-is m (field.Register register) is = register-place m register is
value-is m (field.Board one) is = board-is m one is
value-is m (field.QueueByte queue place) is =
    let both = and_parts (nat_lt queue 2) (nat_lt place 32) is in
    queue-is m queue place (ltb-true queue 2 both.0) (ltb-true place 32 both.1)
value-is m field.Frames is = number-is m field.Frames is (lit< tt)
value-is m field.Samples is = number-is m field.Samples is (lit< tt)
value-is m field.Words is = number-is m field.Words is (lit< tt)
value-is m field.FlashState is = number-is m field.FlashState is (lit< tt)
value-is m field.FlashArmed is = number-is m field.FlashArmed is (lit< tt)
value-is m field.FlashIdentify is = number-is m field.FlashIdentify is (lit< tt)
value-is m field.FlashBank is = number-is m field.FlashBank is (lit< tt)

-- ---- the registers

saved-fits : (value : ℕ) → value < 2 ^ 32 → kept_status value ≡ value → is_saved_status value ≡ true
saved-fits value small kept =
    let below = lt-ltb value word_end small in
    let same = eq-eqb (kept_status value) value kept in
    λ i. below i && same i

status-fits : (value : ℕ) → value < 2 ^ 32 → IsStatus value → is_status value ≡ true
status-fits value small h =
    let saved = saved-fits value small h.stored in
    let mode : is_mode (mode_of value) ≡ true = h.mode in
    λ i. saved i && mode i

register-fits : (m : Machine) → RegistersHold m.registers → IsSpelled m → (register : ℕ)
    → register_fits register (slice_index m.registers register) ≡ true
unfolding register_fits
register-fits m h s register =
    let value = slice_index m.registers register in
    let small = h.words register in
    cond_both (nat_lt register 31) (nat_lt value word_end) _ (λ (t : Bool). t ≡ true)
    (λ _. lt-ltb value word_end small) (λ past.
    cond_both (register == 31) (is_status value) (is_saved_status value) (λ (t : Bool). t ≡ true)
    (λ same. subst (λ (r : ℕ). is_status (slice_index m.registers r) ≡ true) (sym (eqb-true register 31 same))
    (status-fits (slice_index m.registers 31) (h.words 31) h.status))
    (λ other.
    let least = ltb-false register 31 past in
    let apart = eqb-false register 31 other in
    saved-fits value small (s.saved register (omega (arith, least, apart)))))

-- ---- the flash

state-below : (state : FlashState) → nat_lt (state_number state) 5 ≡ true
state-below Ready = refl
state-below First = refl
state-below Second = refl
state-below Program = refl
state-below Bank = refl

-- what the flash remembers, if anything
record MachineFits (numbers : List ℕ) : Type 0 where
  state : nat_lt (slice_index numbers 0) 5 ≡ true
  armed : nat_lt (slice_index numbers 1) 2 ≡ true
  identify : nat_lt (slice_index numbers 2) 2 ≡ true
  bank : nat_lt (slice_index numbers 3) 2 ≡ true

machine-fits : (backup : BackupMemory) → IsSoundBackup backup → MachineFits (flash_numbers (flash_machine backup))
machine-fits (InSram bytes) h = record { state = refl; armed = refl; identify = refl; bank = refl }
machine-fits (InFlash flash) h = record {
  state = state-below flash.machine.state;
  armed = truth-below flash.machine.armed;
  identify = truth-below flash.machine.identify;
  bank = lt-ltb flash.machine.bank 2 h.machine.bank;
}

no-machine : (backup : BackupMemory) → IsSoundBackup backup → is_flash (backup_of backup) ≡ false
    → flash_machine backup ≡ None
no-machine (InSram bytes) h none = refl
no-machine (InFlash flash) h none = let is = h.flash in absurd cc

-- ---- all of them

module _ (until : ℕ) (m : Machine) (holds : Holds m) (spelled : IsSpelled m) (early : clock_of m ≤ until + 511) where
  flash-fits : MachineFits (flash_numbers (flash_machine m.board.core.memory.backup))
  flash-fits = machine-fits m.board.core.memory.backup holds.backup

  byte-fits : (queue place : ℕ)
      → nat_lt (slice_index (queue_at queue m.board.core.devices.sound).bytes place) 0x100 ≡ true
  byte-fits queue place =
      lt-ltb _ _ (byte-below (queue_at queue m.board.core.devices.sound).bytes
      (queue-holds m.board.core.devices.sound holds.devices.sound queue).bytes place)

  -- each is in its range, and the clocks aren't behind the job's end
  abbrev Fits : Field → Type 0
  Fits one = (field_fits one (console_number one m) && in_time until one (console_number one m)) ≡ true

  own-fits : (one : Field) → is_field one ≡ true → Fits one
  unfolding field_fits console_number is_field
  own-fits field.Clock is =
      let latest = le-leb (clock_of m) (2 ^ 39 + 511) holds.times.latest in
      let before = le-leb (clock_of m) (until + 511) early in
      λ i. latest i && before i
  own-fits field.Was is =
      let begun = holds.times.begun in
      let end = holds.times.latest in
      let latest = le-leb m.was (2 ^ 39 + 511) (omega (arith, begun, end)) in
      let before = le-leb m.was (until + 511) (omega (arith, begun, early)) in
      λ i. latest i && before i
  own-fits field.Applied is = let few = lt-ltb m.applied (2 ^ 40) spelled.applied in λ i. few i && true
  own-fits (field.Register register) is =
      let fits = register-fits m holds.registers spelled register in
      λ i. fits i && true
  own-fits (field.Board one) is =
      let fits = in-range m.board.core holds.devices holds.serial one is in
      λ i. fits i && true
  own-fits (field.QueueByte queue place) is = let fits = byte-fits queue place in λ i. fits i && true
  own-fits field.Frames is = let few = lt-ltb m.board.made.frame_count (2 ^ 40) holds.times.frames in λ i. few i && true
  own-fits field.Samples is = let few = lt-ltb m.board.made.pairs (2 ^ 40) holds.times.samples in λ i. few i && true
  own-fits field.Words is = let few = lt-ltb m.board.ended.count (2 ^ 40) holds.times.words in λ i. few i && true
  own-fits field.FlashState is = let flash = flash-fits in let fits = flash.state in λ i. fits i && true
  own-fits field.FlashArmed is = let flash = flash-fits in let fits = flash.armed in λ i. fits i && true
  own-fits field.FlashIdentify is = let flash = flash-fits in let fits = flash.identify in λ i. fits i && true
  own-fits field.FlashBank is = let flash = flash-fits in let fits = flash.bank in λ i. fits i && true

  all-fit : (one : Field) → is_field one ≡ true
      → (field_fits one (value_of one (numbers_of m)) && in_time until one (value_of one (numbers_of m))) ≡ true
  all-fit one is =
      ap (λ (v : ℕ). field_fits one v && in_time until one v) (value-is m one is) ∙ own-fits one is

  are-whole : AreWhole (numbers_of m)
  unfolding numbers_of single_fields console_number board_number
  are-whole = record {
    values = refl;
    queue_a = refl;
    queue_b = refl;
    short_a = holds.devices.sound.queue_a.few;
    short_b = holds.devices.sound.queue_b.few;
    wave0 = holds.devices.tones.bank0.long;
    wave1 = holds.devices.tones.bank1.long;
  }

  no-flash : is_flash (backup_in m) ≡ false → (part : ℕ) → part < 4 → value_of (flash_field_of part) (numbers_of m) ≡ 0
  unfolding console_number is_field
  no-flash none =
      let machine = no-machine m.board.core.memory.backup holds.backup none in
      let zero-at = λ (part : ℕ). ap (λ (o : Option FlashMachine). slice_index (flash_numbers o) part) machine in
      below-four (λ part. value_of (flash_field_of part) (numbers_of m) ≡ 0)
      (value-is m field.FlashState refl ∙ zero-at 0)
      (value-is m field.FlashArmed refl ∙ zero-at 1) (value-is m field.FlashIdentify refl ∙ zero-at 2)
      (value-is m field.FlashBank refl ∙ zero-at 3)

  pub are-frozen : AreFrozen until (backup_in m) (numbers_of m)
  are-frozen = record { whole = are-whole; fit = all-fit; no_flash = no-flash }
