-- The numbers of a console at first may stand in a file.
use Rattle.std.proofs.Common.{◌≡◌, ◌≢◌, ◌<◌, ◌≤◌, ℕ, zero, suc, ◌-◌, ◌==◌, Bool, true, false, cond, nat_le, nat_lt, inl, inr, [], refl, ap, sym, ◌∙◌, arith, ◌+◌, ◌&&◌}
use Rattle.std.specs.Prelude.{replicate, slice_index, slice_set}
use Rattle.std.proofs.lemmas.Bool.{cases_lt, le-leb, lt-ltb}
use Rattle.std.proofs.lemmas.Bool.Decides.{nat_tests}
use Rattle.std.proofs.lemmas.List.{get_or-set_other}
use Rattle.gba_register.specs.Rows.{row_at}
use Rattle.gba_timer.specs.Timers.{timer_rows}
use Rattle.gba_numbers.specs.Fields.{is_board_field, is_field, place_of}
use Rattle.gba_numbers.specs.Numbers.{AreWhole, numbers_at_first, value_at, value_of}
use Rattle.gba_numbers.specs.Ranges.{board_fits, control_fits, field_fits, register_fits, tone_end}
use Rattle.gba_numbers.specs.declared.fields.BoardField.TheVariants as board
use Rattle.gba_numbers.specs.declared.fields.Field.{Field}
use Rattle.gba_numbers.specs.declared.fields.Field.TheVariants.{Clock, Was, Applied, Register, Board, QueueByte, Frames, Samples, Words, FlashState, FlashArmed, FlashIdentify, FlashBank}
use Rattle.gba_frozen.specs.Rows.{flash_field_of, in_time}
use Rattle.gba_frozen_text.specs.Laws.{AreConsoles, AreDrawn, AreRows, AreSent, FirstIsWhole}
use Rattle.gba_numbers.proofs.OwnPlaces.{have_own_places}

-- what a number is at first, by its place
abbrev pub first_number : ℕ → ℕ
first_number p = cond (p == 33) 0xd3 0

zeros-zero : (k i : ℕ) → slice_index (replicate k 0) i ≡ 0
zeros-zero zero i = refl
zeros-zero (suc k) zero = refl
zeros-zero (suc k) (suc i) = zeros-zero k i

single-first : (p : ℕ) → p < 138 → slice_index (slice_set (replicate 138 0) 33 0xd3) p ≡ first_number p
single-first p inside = by_place (p == 33) refl where
  by_place : (b : Bool) → (p == 33) ≡ b → slice_index (slice_set (replicate 138 0) 33 0xd3) p ≡ cond b 0xd3 0
  by_place true e =
      let at : p ≡ 33 = grind (arith, nat_tests) in
      ap (slice_index (slice_set (replicate 138 0) 33 0xd3)) at
  by_place false e =
      let apart : p ≢ 33 = λ same. grind (arith, nat_tests) in
      get_or-set_other (replicate 138 0) 33 p 0xd3 0 apart ∙ zeros-zero 138 p

later-first : (p : ℕ) → 138 ≤ p → first_number p ≡ 0
later-first p high = let no : (p == 33) ≡ false = grind (arith, nat_tests) in rw no refl

pub value-first : (p : ℕ) → value_at p numbers_at_first ≡ first_number p
unfolding value_at numbers_at_first
value-first p = elim (cases_lt p 138) [
  | inl inside ↦
      let yes : nat_lt p 138 ≡ true = lt-ltb p 138 inside in
      rw yes (single-first p inside)
  | inr high ↦
      let no : nat_lt p 138 ≡ false = grind (arith, nat_tests) in
      rw no (rest (nat_lt p 170) (nat_lt p 202) (nat_lt p 218) ∙ sym (later-first p high))
] where
  rest : (a b c : Bool) → cond a (slice_index [] (p - 138)) (cond b (slice_index [] (p - 170))
      (cond c (slice_index (replicate 16 0) (p - 202)) (slice_index (replicate 16 0) (p - 218)))) ≡ 0
  rest true b c = refl
  rest false true c = refl
  rest false false true = zeros-zero 16 (p - 202)
  rest false false false = zeros-zero 16 (p - 218)

-- 0 is in the range of every number but CPSR
saved-zero : (b : Bool) → cond b true true ≡ true
saved-zero true = refl
saved-zero false = refl

register-zero : (n : ℕ) → n ≢ 31 → register_fits n 0 ≡ true
unfolding register_fits
register-zero n apart =
    let no : (n == 31) ≡ false = grind (arith, nat_tests) in
    rw no (saved-zero (nat_lt n 31))

above : (b : Bool) (one other : ℕ) → 0 < one → 0 < other → 0 < cond b one other
above true one other h k = h
above false one other h k = k

tone-some : (tone part : ℕ) → 0 < tone_end tone part
unfolding tone_end
tone-some tone part =
    above (part == 0) _ _ (omega arith) (above (part == 1) _ _
    (above (nat_le tone 2) _ _ (omega arith) (above (tone == 3) _ _ (omega arith) (omega arith)))
    (above (part == 2) _ _ (omega arith) (above (part == 3) _ _ (omega arith) (above (part == 4) _ _ (omega arith)
    (above (part == 5) _ _ (omega arith) (above (part == 6) _ _ (omega arith) (omega arith)))))))

control-zero : (timer : ℕ) → timer < 4 → control_fits timer 0 ≡ true
unfolding control_fits row_at timer_rows
control-zero zero h = refl
control-zero (suc zero) h = refl
control-zero (suc (suc zero)) h = refl
control-zero (suc (suc (suc zero))) h = refl
control-zero (suc (suc (suc (suc timer)))) h = absurd (omega arith)

zero-fits : (field : Field) → is_field field ≡ true → place_of field ≢ 33 → field_fits field 0 ≡ true
unfolding is_field is_board_field place_of field_fits board_fits
zero-fits Clock is apart = refl
zero-fits Was is apart = refl
zero-fits Applied is apart = refl
zero-fits (Register n) is apart = register-zero n (λ (same : n ≡ 31). apart (omega arith))
zero-fits (QueueByte queue place) is apart = refl
zero-fits Frames is apart = refl
zero-fits Samples is apart = refl
zero-fits Words is apart = refl
zero-fits FlashState is apart = refl
zero-fits FlashArmed is apart = refl
zero-fits FlashIdentify is apart = refl
zero-fits FlashBank is apart = refl
zero-fits (Board board.Halted) is apart = refl
zero-fits (Board (board.TimerCounter n)) is apart = refl
zero-fits (Board (board.TimerReload n)) is apart = refl
zero-fits (Board (board.TimerControl n)) is apart = control-zero n (grind (arith, nat_tests))
zero-fits (Board (board.TimerPhase n)) is apart = refl
zero-fits (Board (board.DmaActive n)) is apart = refl
zero-fits (Board (board.DmaFirst n)) is apart = refl
zero-fits (Board (board.DmaSource n)) is apart = refl
zero-fits (Board (board.DmaTarget n)) is apart = refl
zero-fits (Board (board.DmaLeft n)) is apart = refl
zero-fits (Board (board.QueueCurrent n)) is apart = refl
zero-fits (Board (board.QueueLength n)) is apart = refl
zero-fits (Board board.Sequencer) is apart = refl
zero-fits (Board (board.Tone n part)) is apart = lt-ltb 0 (tone_end n part) (tone-some n part)
zero-fits (Board (board.WaveByte n place)) is apart = refl
zero-fits (Board board.Line) is apart = refl
zero-fits (Board board.Dot) is apart = refl
zero-fits (Board (board.ReferenceX n)) is apart = refl
zero-fits (Board (board.ReferenceY n)) is apart = refl
zero-fits (Board board.SerialMode) is apart = refl
zero-fits (Board board.SerialRunning) is apart = refl
zero-fits (Board board.SerialStarted) is apart = refl
zero-fits (Board board.SerialEnd) is apart = refl
zero-fits (Board board.SerialGot) is apart = refl
zero-fits (Board board.SerialSent) is apart = refl
zero-fits (Board board.SerialWord) is apart = refl
zero-fits (Board (board.Known n)) is apart = refl

status-fits : field_fits (Register 31) 0xd3 ≡ true
unfolding field_fits register_fits
status-fits = refl

register-is : is_field (Register 31) ≡ true
unfolding is_field
register-is = refl

register-place : place_of (Register 31) ≡ 33
unfolding place_of
register-place = refl

-- each number at first is in its range
pub first-fits : (field : Field) → is_field field ≡ true → field_fits field (first_number (place_of field)) ≡ true
first-fits field is = by_place (place_of field == 33) refl where
  by_place : (b : Bool) → (place_of field == 33) ≡ b → field_fits field (cond b 0xd3 0) ≡ true
  by_place true e =
      let at : place_of field ≡ place_of (Register 31) = grind (arith, nat_tests, register-place) in
      let same : field ≡ Register 31 = have_own_places field (Register 31) is register-is at in
      ap (λ (f : Field). field_fits f 0xd3) same ∙ status-fits
  by_place false e = zero-fits field is (λ (same : place_of field ≡ 33). grind (arith, nat_tests))

-- both, by whether the number is CPSR
pub first-status : (field : Field) → is_field field ≡ true → place_of field ≡ 33
    → (0xd3 ≡ value_of field numbers_at_first) × (field_fits field 0xd3 ≡ true)
first-status field is at =
    let here : (place_of field == 33) ≡ true = grind (arith, nat_tests) in
    let number : first_number (place_of field) ≡ 0xd3 = rw here refl in
    (sym number ∙ sym (value-first (place_of field)), ap (field_fits field) (sym number) ∙ first-fits field is)

pub first-other : (field : Field) → is_field field ≡ true → (place_of field == 33) ≡ false
    → (0 ≡ value_of field numbers_at_first) × (field_fits field 0 ≡ true)
first-other field is apart =
    let number : first_number (place_of field) ≡ 0 = rw apart refl in
    (sym number ∙ sym (value-first (place_of field)), ap (field_fits field) (sym number) ∙ first-fits field is)

-- and they may stand in a file
first-timely : (until : ℕ) (field : Field) → in_time until field (value_of field numbers_at_first) ≡ true
unfolding place_of
first-timely until Clock = let none = value-first 0 in rw none (le-leb 0 (until + 511) (omega arith))
first-timely until Was = let none = value-first 133 in rw none (le-leb 0 (until + 511) (omega arith))
first-timely until Applied = refl
first-timely until (Register n) = refl
first-timely until (Board field) = refl
first-timely until (QueueByte queue place) = refl
first-timely until Frames = refl
first-timely until Samples = refl
first-timely until Words = refl
first-timely until FlashState = refl
first-timely until FlashArmed = refl
first-timely until FlashIdentify = refl
first-timely until FlashBank = refl

first-fit : (until : ℕ) (field : Field) → is_field field ≡ true
    → (field_fits field (value_of field numbers_at_first) && in_time until field (value_of field numbers_at_first))
    ≡ true
first-fit until field is =
    let timely = first-timely until field in
    let fits : field_fits field (value_of field numbers_at_first) ≡ true =
    ap (field_fits field) (value-first (place_of field)) ∙ first-fits field is in
    rw (fits, timely) refl

first-flash : (part : ℕ) → part < 4 → value_of (flash_field_of part) numbers_at_first ≡ 0
unfolding place_of
first-flash zero h = value-first 129
first-flash (suc zero) h = value-first 130
first-flash (suc (suc zero)) h = value-first 131
first-flash (suc (suc (suc zero))) h = value-first 132
first-flash (suc (suc (suc (suc part)))) h = absurd (omega arith)

first-whole : AreWhole numbers_at_first
unfolding numbers_at_first
first-whole = record {
  values = refl;
  queue_a = refl;
  queue_b = refl;
  short_a = omega arith;
  short_b = omega arith;
  wave0 = refl;
  wave1 = refl;
}

pub first_is_whole : FirstIsWhole
unfolding AreRows AreDrawn AreConsoles AreSent
first_is_whole setup one digest bytes = record {
  few = omega arith;
  digest = digest;
  bytes = bytes;
  count = sym one;
  last = sym one;
  past = refl;
  consoles = (
    record {
      numbers = record { whole = first-whole; fit = first-fit setup.until; no_flash = λ _. first-flash };
      memory = tt;
      drawn = tt;
    },
    tt,
  );
  sent = tt;
}
