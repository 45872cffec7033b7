-- What is in its range can be spelled.
use Rattle.std.proofs.Common.{◌≡◌, ◌<◌, ◌≤◌, ℕ, zero, suc, ◌+◌, ◌^◌, ◌==◌, Bool, true, false, cond, nat_le, nat_lt, ◌&&◌, length, refl, ap, arith}
use Rattle.std.proofs.lemmas.Bool.{lt-ltb}
use Rattle.std.proofs.lemmas.Bool.Decides.{nat_tests}
use Rattle.gba_text.proofs.Spans.{first_of_all, rest_of_all}
use Rattle.gba_numbers.specs.Fields.{is_board_field, is_field}
use Rattle.gba_numbers.specs.Numbers.{ConsoleNumbers, value_of}
use Rattle.gba_numbers.specs.Ranges.{board_fits, control_fits, field_fits, is_saved_status, is_status, register_fits, tone_end}
use Rattle.gba_numbers.specs.declared.fields.BoardField.{BoardField}
use Rattle.gba_numbers.specs.declared.fields.BoardField.TheVariants as board
use Rattle.gba_numbers.specs.declared.fields.Field.{Field}
use Rattle.gba_numbers.specs.declared.fields.Field.TheVariants as console
use Rattle.gba_frozen.specs.Rows.{all_fit, count_of, field_of, in_time, is_row, spelling_of}
use Rattle.gba_frozen.specs.declared.rows.Row.{Row}
use Rattle.gba_frozen.specs.declared.rows.Row.TheVariants as row
use Rattle.gba_frozen_print.specs.Laws.{AreSpellable, is_spellable}
use Rattle.gba_frozen_text.specs.Text.{row_values}

saved-small : (value : ℕ) → is_saved_status value ≡ true → value < 2 ^ 32
saved-small value h = grind (arith, nat_tests)

status-small : (value : ℕ) → is_status value ≡ true → value < 2 ^ 32
status-small value h = saved-small value (first_of_all (is_saved_status value) _ h)

register-small : (register value : ℕ) → register_fits register value ≡ true → value < 2 ^ 32
unfolding register_fits
register-small register value h = by_kind (nat_lt register 31) (register == 31) h where
  by_kind : (general status : Bool)
      → cond general (nat_lt value (2 ^ 32)) (cond status (is_status value) (is_saved_status value)) ≡ true
      → value < 2 ^ 32
  by_kind true status e = grind (arith, nat_tests)
  by_kind false true e = status-small value e
  by_kind false false e = saved-small value e

either_below : (b : Bool) (one other most : ℕ) → one ≤ most → other ≤ most → cond b one other ≤ most
either_below true one other most h k = h
either_below false one other most h k = k

tone-small : (tone part : ℕ) → tone_end tone part ≤ 2 ^ 24
unfolding tone_end
tone-small tone part =
    either_below (part == 0) _ _ _ (omega arith) (either_below (part == 1) _ _ _
    (either_below (nat_le tone 2) _ _ _ (omega arith) (either_below (tone == 3) _ _ _ (omega arith) (omega arith)))
    (either_below (part == 2) _ _ _ (omega arith)
    (either_below (part == 3) _ _ _ (omega arith) (either_below (part == 4) _ _ _ (omega arith)
    (either_below (part == 5) _ _ _ (omega arith) (either_below (part == 6) _ _ _ (omega arith) (omega arith)))))))

control-small : (timer value : ℕ) → control_fits timer value ≡ true → value < 2 ^ 64
unfolding control_fits
control-small timer value h = let low = first_of_all (nat_lt value 0x10000) _ h in grind (arith, nat_tests)

board-small : (field : BoardField) (value : ℕ) → board_fits field value ≡ true → value < 2 ^ 64
unfolding board_fits
board-small board.Halted value h = grind (arith, nat_tests)
board-small (board.TimerCounter timer) value h = grind (arith, nat_tests)
board-small (board.TimerReload timer) value h = grind (arith, nat_tests)
board-small (board.TimerControl timer) value h = control-small timer value h
board-small (board.TimerPhase timer) value h = grind (arith, nat_tests)
board-small (board.DmaActive channel) value h = grind (arith, nat_tests)
board-small (board.DmaFirst channel) value h = grind (arith, nat_tests)
board-small (board.DmaSource channel) value h = grind (arith, nat_tests)
board-small (board.DmaTarget channel) value h = grind (arith, nat_tests)
board-small (board.DmaLeft channel) value h = grind (arith, nat_tests)
board-small (board.QueueCurrent queue) value h = grind (arith, nat_tests)
board-small (board.QueueLength queue) value h = grind (arith, nat_tests)
board-small board.Sequencer value h = grind (arith, nat_tests)
board-small (board.Tone tone part) value h = let most = tone-small tone part in grind (arith, nat_tests)
board-small (board.WaveByte bank place) value h = grind (arith, nat_tests)
board-small board.Line value h = grind (arith, nat_tests)
board-small board.Dot value h = grind (arith, nat_tests)
board-small (board.ReferenceX background) value h = grind (arith, nat_tests)
board-small (board.ReferenceY background) value h = grind (arith, nat_tests)
board-small board.SerialMode value h = grind (arith, nat_tests)
board-small board.SerialRunning value h = grind (arith, nat_tests)
board-small board.SerialStarted value h = grind (arith, nat_tests)
board-small board.SerialEnd value h = grind (arith, nat_tests)
board-small board.SerialGot value h = grind (arith, nat_tests)
board-small board.SerialSent value h = grind (arith, nat_tests)
board-small board.SerialWord value h = grind (arith, nat_tests)
board-small (board.Known player) value h = grind (arith, nat_tests)

field-small : (field : Field) (value : ℕ) → field_fits field value ≡ true → value < 2 ^ 64
unfolding field_fits
field-small console.Clock value h = grind (arith, nat_tests)
field-small console.Was value h = grind (arith, nat_tests)
field-small console.Applied value h = grind (arith, nat_tests)
field-small (console.Register register) value h = let low = register-small register value h in omega arith
field-small (console.Board field) value h = board-small field value h
field-small (console.QueueByte queue place) value h = grind (arith, nat_tests)
field-small console.Frames value h = grind (arith, nat_tests)
field-small console.Samples value h = grind (arith, nat_tests)
field-small console.Words value h = grind (arith, nat_tests)
field-small console.FlashState value h = grind (arith, nat_tests)
field-small console.FlashArmed value h = grind (arith, nat_tests)
field-small console.FlashIdentify value h = grind (arith, nat_tests)
field-small console.FlashBank value h = grind (arith, nat_tests)

pub spellable : (which : Row) (part value : ℕ) → part < count_of which → field_fits (field_of which part) value ≡ true
    → is_spellable (spelling_of which) value ≡ true
unfolding spelling_of count_of field_of field_fits board_fits
spellable row.Heading part value p h = absurd (omega arith)
spellable (row.Console n) part value p h = absurd (omega arith)
spellable row.Clock part value p h = lt-ltb value (2 ^ 64) (field-small console.Clock value h)
spellable row.Halted part value p h = lt-ltb value (2 ^ 64) (board-small board.Halted value h)
spellable (row.Register n) part value p h = lt-ltb value (2 ^ 32) (register-small n value h)
spellable (row.Timer n) part value p h = lt-ltb value (2 ^ 64) (field-small (field_of (row.Timer n) part) value h)
spellable (row.Dma n) part value p h = lt-ltb value (2 ^ 64) (field-small (field_of (row.Dma n) part) value h)
spellable row.Sequencer part value p h = lt-ltb value (2 ^ 64) (board-small board.Sequencer value h)
spellable (row.Tone n) part value p h = lt-ltb value (2 ^ 64) (board-small (board.Tone n part) value h)
spellable row.Position part value p h = lt-ltb value (2 ^ 64) (field-small (field_of row.Position part) value h)
spellable (row.Affine n) zero value p h = h
spellable (row.Affine n) (suc zero) value p h = h
spellable (row.Affine n) (suc (suc part)) value p h = absurd (omega arith)
spellable row.Serial part value p h = lt-ltb value (2 ^ 64) (field-small (field_of row.Serial part) value h)
spellable row.Known part value p h = lt-ltb value (2 ^ 64) (board-small (board.Known part) value h)
spellable row.Flash part value p h = lt-ltb value (2 ^ 64) (field-small (field_of row.Flash part) value h)
spellable row.Was part value p h = lt-ltb value (2 ^ 64) (field-small console.Was value h)
spellable row.Applied part value p h = lt-ltb value (2 ^ 64) (field-small console.Applied value h)
spellable row.Counts part value p h = lt-ltb value (2 ^ 64) (field-small (field_of row.Counts part) value h)

-- the numbers of a row are ones
row-field : (which : Row) (part : ℕ) → is_row which ≡ true → part < count_of which
    → is_field (field_of which part) ≡ true
unfolding is_row count_of field_of is_field is_board_field
row-field row.Heading part is p = absurd (omega arith)
row-field (row.Console n) part is p = absurd (omega arith)
row-field row.Clock part is p = refl
row-field row.Halted part is p = refl
row-field (row.Register n) part is p = is
row-field (row.Timer n) zero is p = is
row-field (row.Timer n) (suc zero) is p = is
row-field (row.Timer n) (suc (suc zero)) is p = is
row-field (row.Timer n) (suc (suc (suc zero))) is p = is
row-field (row.Timer n) (suc (suc (suc (suc part)))) is p = absurd (omega arith)
row-field (row.Dma n) zero is p = is
row-field (row.Dma n) (suc zero) is p = is
row-field (row.Dma n) (suc (suc zero)) is p = is
row-field (row.Dma n) (suc (suc (suc zero))) is p = is
row-field (row.Dma n) (suc (suc (suc (suc zero)))) is p = is
row-field (row.Dma n) (suc (suc (suc (suc (suc part))))) is p = absurd (omega arith)
row-field row.Sequencer part is p = refl
row-field (row.Tone n) part is p =
    let low = first_of_all (nat_le 1 n) (nat_le n 4) is in
    let high = rest_of_all (nat_le 1 n) (nat_le n 4) is in
    let within = lt-ltb part 8 p in
    rw (low, high, within) refl
row-field row.Position zero is p = refl
row-field row.Position (suc zero) is p = refl
row-field row.Position (suc (suc part)) is p = absurd (omega arith)
row-field (row.Affine n) zero is p = is
row-field (row.Affine n) (suc zero) is p = is
row-field (row.Affine n) (suc (suc part)) is p = absurd (omega arith)
row-field row.Serial zero is p = refl
row-field row.Serial (suc zero) is p = refl
row-field row.Serial (suc (suc zero)) is p = refl
row-field row.Serial (suc (suc (suc zero))) is p = refl
row-field row.Serial (suc (suc (suc (suc zero)))) is p = refl
row-field row.Serial (suc (suc (suc (suc (suc zero))))) is p = refl
row-field row.Serial (suc (suc (suc (suc (suc (suc zero)))))) is p = refl
row-field row.Serial (suc (suc (suc (suc (suc (suc (suc part))))))) is p = absurd (omega arith)
row-field row.Known part is p = lt-ltb part 4 p
row-field row.Flash zero is p = refl
row-field row.Flash (suc zero) is p = refl
row-field row.Flash (suc (suc zero)) is p = refl
row-field row.Flash (suc (suc (suc zero))) is p = refl
row-field row.Flash (suc (suc (suc (suc part)))) is p = absurd (omega arith)
row-field row.Was part is p = refl
row-field row.Applied part is p = refl
row-field row.Counts zero is p = refl
row-field row.Counts (suc zero) is p = refl
row-field row.Counts (suc (suc zero)) is p = refl
row-field row.Counts (suc (suc (suc part))) is p = absurd (omega arith)

-- the numbers of a console that are in their ranges
abbrev pub Fit : ℕ → ConsoleNumbers → Type 0
Fit until n = (field : Field) → is_field field ≡ true
    → (field_fits field (value_of field n) && in_time until field (value_of field n)) ≡ true

pub row-count : (which : Row) (part count : ℕ) (n : ConsoleNumbers) → length (row_values which part count n) ≡ count
unfolding row_values
row-count which part zero n = refl
row-count which part (suc count) n = ap suc (row-count which (part + 1) count n)

spellable_from : (until : ℕ) (which : Row) (part count : ℕ) (n : ConsoleNumbers) → Fit until n → is_row which ≡ true
    → part + count ≡ count_of which → AreSpellable (spelling_of which) (row_values which part count n)
unfolding row_values AreSpellable
spellable_from until which part zero n fit is whole = tt
spellable_from until which part (suc count) n fit is whole =
    let value = value_of (field_of which part) n in
    let fits = first_of_all (field_fits (field_of which part) value) (in_time until (field_of which part) value)
    (fit (field_of which part) (row-field which part is (omega arith))) in
    (spellable which part value (omega arith) fits, spellable_from until which (part + 1) count n fit is (omega arith))

fit_from : (until : ℕ) (which : Row) (part count : ℕ) (n : ConsoleNumbers) → Fit until n → is_row which ≡ true
    → part + count ≡ count_of which → all_fit until which part (row_values which part count n) ≡ true
unfolding row_values all_fit
fit_from until which part zero n fit is whole = refl
fit_from until which part (suc count) n fit is whole =
    let value = value_of (field_of which part) n in
    let both = fit (field_of which part) (row-field which part is (omega arith)) in
    let fits = first_of_all (field_fits (field_of which part) value) (in_time until (field_of which part) value) both in
    let timely =
    rest_of_all (field_fits (field_of which part) value) (in_time until (field_of which part) value) both in
    let rest = fit_from until which (part + 1) count n fit is (omega arith) in
    rw (fits, timely, rest) refl

pub row-spellable : (until : ℕ) (which : Row) (n : ConsoleNumbers) → Fit until n → is_row which ≡ true
    → AreSpellable (spelling_of which) (row_values which 0 (count_of which) n)
row-spellable until which n fit is = spellable_from until which 0 (count_of which) n fit is (omega arith)

pub row-fits : (until : ℕ) (which : Row) (n : ConsoleNumbers) → Fit until n → is_row which ≡ true
    → all_fit until which 0 (row_values which 0 (count_of which) n) ≡ true
row-fits until which n fit is = fit_from until which 0 (count_of which) n fit is (omega arith)
