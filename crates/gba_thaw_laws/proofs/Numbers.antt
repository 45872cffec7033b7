-- The numbers of a console are those that it has.
use Rattle.std.proofs.Common.{◌≡◌, ℕ, zero, suc, ◌+◌, ◌-◌, ◌<◌, sym, true, nat_lt, slice_index, refl, arith, lt-ltb, le-ltb, ltb-true, lit<}
use Rattle.std.proofs.lemmas.Bool.{and_parts}
use Rattle.std.proofs.lemmas.Bool.Decides.{nat_tests}
use Rattle.gba_console.specs.Machine.{Machine}
use Rattle.gba_loose.specs.Again.{AreBytesOf, AreNumbersOf}
use Rattle.gba_loose.specs.Numbers.{board_number}
use Rattle.gba_numbers.specs.Fields.{board_place, is_board_field, is_field, place_of}
use Rattle.gba_numbers.specs.Numbers.{ConsoleNumbers, value_at, value_of}
use Rattle.gba_numbers.specs.declared.fields.BoardField.{BoardField}
use Rattle.gba_numbers.specs.declared.fields.BoardField.TheVariants as board
use Rattle.gba_numbers.specs.declared.fields.Field.{Field}
use Rattle.gba_numbers.specs.declared.fields.Field.TheVariants.{Board}
use Rattle.gba_numbers.proofs.OwnPlaces.{have_own_places}
use Rattle.gba_snapshot.specs.Snapshot.{console_number, numbers_of}
use Rattle.gba_snapshot.proofs.Places.{number_placed}
use Rattle.gba_device_laws.specs.Holding.{DevicesHold}

pub number-is : (m : Machine) (field : Field) → is_field field ≡ true → place_of field < 138
    → value_of field (numbers_of m) ≡ console_number field m
number-is m field is inside = sym (number_placed have_own_places m field is inside)

-- a byte of the wave stands behind all numbers
bank0-at : (n : ConsoleNumbers) (place : ℕ) → place < 16 → value_at (202 + place) n ≡ slice_index n.wave0 place
unfolding value_at
bank0-at n place inside =
    let a = le-ltb (202 + place) 138 (omega arith) in
    let b = le-ltb (202 + place) 170 (omega arith) in
    let c = le-ltb (202 + place) 202 (omega arith) in
    let d = lt-ltb (202 + place) 218 (omega (arith, inside)) in
    let e : 202 + place - 202 ≡ place = omega arith in
    rw (a, b, c, d, e) refl

bank1-at : (n : ConsoleNumbers) (place : ℕ) → place < 16 → value_at (218 + place) n ≡ slice_index n.wave1 place
unfolding value_at
bank1-at n place inside =
    let a = le-ltb (218 + place) 138 (omega arith) in
    let b = le-ltb (218 + place) 170 (omega arith) in
    let c = le-ltb (218 + place) 202 (omega arith) in
    let d = le-ltb (218 + place) 218 (omega arith) in
    let e : 218 + place - 218 ≡ place = omega arith in
    rw (a, b, c, d, e) refl

wave-is : (m : Machine) (bank place : ℕ) → bank < 2 → place < 16
    → value_of (Board (board.WaveByte bank place)) (numbers_of m)
    ≡ board_number (board.WaveByte bank place) m.board.core
unfolding place_of board_place board_number numbers_of
wave-is m zero place lower inside = bank0-at (numbers_of m) place inside
wave-is m (suc zero) place lower inside = bank1-at (numbers_of m) place inside
wave-is m (suc (suc bank)) place lower inside = absurd (omega (arith, lower))

single-is : (m : Machine) (field : BoardField) → is_board_field field ≡ true → board_place field < 138
    → value_of (Board field) (numbers_of m) ≡ board_number field m.board.core
unfolding console_number is_field place_of
single-is m field is inside = number-is m (Board field) is inside

pub numbers-are : (m : Machine) → AreNumbersOf m.board.core (numbers_of m)
unfolding is_board_field board_place
numbers-are m board.Halted is = single-is m board.Halted is (lit< tt)
numbers-are m (board.TimerCounter k) is = single-is m (board.TimerCounter k) is (grind (arith, nat_tests))
numbers-are m (board.TimerReload k) is = single-is m (board.TimerReload k) is (grind (arith, nat_tests))
numbers-are m (board.TimerControl k) is = single-is m (board.TimerControl k) is (grind (arith, nat_tests))
numbers-are m (board.TimerPhase k) is = single-is m (board.TimerPhase k) is (grind (arith, nat_tests))
numbers-are m (board.DmaActive k) is = single-is m (board.DmaActive k) is (grind (arith, nat_tests))
numbers-are m (board.DmaFirst k) is = single-is m (board.DmaFirst k) is (grind (arith, nat_tests))
numbers-are m (board.DmaSource k) is = single-is m (board.DmaSource k) is (grind (arith, nat_tests))
numbers-are m (board.DmaTarget k) is = single-is m (board.DmaTarget k) is (grind (arith, nat_tests))
numbers-are m (board.DmaLeft k) is = single-is m (board.DmaLeft k) is (grind (arith, nat_tests))
numbers-are m (board.QueueCurrent k) is = single-is m (board.QueueCurrent k) is (grind (arith, nat_tests))
numbers-are m (board.QueueLength k) is = single-is m (board.QueueLength k) is (grind (arith, nat_tests))
numbers-are m board.Sequencer is = single-is m board.Sequencer is (lit< tt)
numbers-are m (board.Tone k part) is = single-is m (board.Tone k part) is (grind (arith, nat_tests))
numbers-are m (board.WaveByte bank place) is =
    let both = and_parts (nat_lt bank 2) (nat_lt place 16) is in
    wave-is m bank place (ltb-true bank 2 both.0) (ltb-true place 16 both.1)
numbers-are m board.Line is = single-is m board.Line is (lit< tt)
numbers-are m board.Dot is = single-is m board.Dot is (lit< tt)
numbers-are m (board.ReferenceX k) is = single-is m (board.ReferenceX k) is (grind (arith, nat_tests))
numbers-are m (board.ReferenceY k) is = single-is m (board.ReferenceY k) is (grind (arith, nat_tests))
numbers-are m board.SerialMode is = single-is m board.SerialMode is (lit< tt)
numbers-are m board.SerialRunning is = single-is m board.SerialRunning is (lit< tt)
numbers-are m board.SerialStarted is = single-is m board.SerialStarted is (lit< tt)
numbers-are m board.SerialEnd is = single-is m board.SerialEnd is (lit< tt)
numbers-are m board.SerialGot is = single-is m board.SerialGot is (lit< tt)
numbers-are m board.SerialSent is = single-is m board.SerialSent is (lit< tt)
numbers-are m board.SerialWord is = single-is m board.SerialWord is (lit< tt)
numbers-are m (board.Known k) is = single-is m (board.Known k) is (grind (arith, nat_tests))

pub bytes-are : (m : Machine) → DevicesHold m.board.core.devices → AreBytesOf m.board.core (numbers_of m)
unfolding numbers_of
bytes-are m holds = record {
  queue_a = refl;
  queue_b = refl;
  wave0 = refl;
  wave1 = refl;
  fit_a = holds.sound.queue_a.bytes;
  fit_b = holds.sound.queue_b.bytes;
  fit0 = holds.tones.bank0.bytes;
  fit1 = holds.tones.bank1.bytes;
}
