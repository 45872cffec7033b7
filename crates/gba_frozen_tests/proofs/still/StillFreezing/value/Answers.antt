use Rattle.std.proofs.Common.{◌≡◌, ◌<◌, ◌^◌, ◌==◌, ℕ, true, false, refl, arith}
use Rattle.std.proofs.lemmas.Bool.{lt-ltb}
use Rattle.std.proofs.lemmas.Bool.Decides.{nat_tests}
use Rattle.gba_numbers.specs.Fields.{place_of}
use Rattle.gba_numbers.specs.declared.fields.BoardField.{BoardField}
use Rattle.gba_numbers.specs.declared.fields.BoardField.TheVariants as board
use Rattle.gba_numbers.specs.declared.fields.Field.{Field}
use Rattle.gba_numbers.specs.declared.fields.Field.TheVariants as console
use Rattle.gba_frozen_text.proofs.First.{first-other, first-status}
use Rattle.gba_frozen_text.specs.Text.{is_printable}
use Rattle.gba_frozen_tests.proofs.still.StillFreezing.value.Goals as goal

-- a number that is a byte can be printed
board-byte : (field : BoardField) (value : ℕ) → value < 256 → is_printable (console.Board field) value ≡ true
unfolding is_printable
board-byte board.Halted value small = refl
board-byte (board.TimerCounter n) value small = refl
board-byte (board.TimerReload n) value small = refl
board-byte (board.TimerControl n) value small = refl
board-byte (board.TimerPhase n) value small = refl
board-byte (board.DmaActive n) value small = refl
board-byte (board.DmaFirst n) value small = refl
board-byte (board.DmaSource n) value small = refl
board-byte (board.DmaTarget n) value small = refl
board-byte (board.DmaLeft n) value small = refl
board-byte (board.QueueCurrent n) value small = lt-ltb value 256 small
board-byte (board.QueueLength n) value small = refl
board-byte board.Sequencer value small = refl
board-byte (board.Tone t p) value small = refl
board-byte (board.WaveByte b p) value small = refl
board-byte board.Line value small = refl
board-byte board.Dot value small = refl
board-byte (board.ReferenceX n) value small = lt-ltb value (2 ^ 32) (omega (arith, small))
board-byte (board.ReferenceY n) value small = lt-ltb value (2 ^ 32) (omega (arith, small))
board-byte board.SerialMode value small = refl
board-byte board.SerialRunning value small = refl
board-byte board.SerialStarted value small = refl
board-byte board.SerialEnd value small = refl
board-byte board.SerialGot value small = refl
board-byte board.SerialSent value small = refl
board-byte board.SerialWord value small = refl
board-byte (board.Known n) value small = refl

byte-printed : (field : Field) (value : ℕ) → value < 256 → is_printable field value ≡ true
unfolding is_printable
byte-printed (console.Register n) value small = lt-ltb value (2 ^ 32) (omega (arith, small))
byte-printed (console.Board field) value small = board-byte field value small
byte-printed (console.QueueByte q p) value small = refl
byte-printed console.Clock value small = refl
byte-printed console.Was value small = refl
byte-printed console.Applied value small = refl
byte-printed console.Frames value small = refl
byte-printed console.Samples value small = refl
byte-printed console.Words value small = refl
byte-printed console.FlashState value small = refl
byte-printed console.FlashArmed value small = refl
byte-printed console.FlashIdentify value small = refl
byte-printed console.FlashBank value small = refl

pub returns-then-place-eq33-clause-value : goal.returns-then-place-eq33-clause-value
returns-then-place-eq33-clause-value c =
    (first-status c.args.field c.requires.known (omega (arith, c.place.ensures.place))).0

pub returns-then-place-eq33-clause-printable : goal.returns-then-place-eq33-clause-printable
returns-then-place-eq33-clause-printable c = byte-printed c.args.field 0xd3 (omega arith)

pub returns-else-place-eq33-clause-value : goal.returns-else-place-eq33-clause-value
returns-else-place-eq33-clause-value c =
    let apart : (place_of c.args.field == 33) ≡ false = grind (arith, nat_tests, c.place.ensures.place) in
    (first-other c.args.field c.requires.known apart).0

pub returns-else-place-eq33-clause-printable : goal.returns-else-place-eq33-clause-printable
returns-else-place-eq33-clause-printable c = byte-printed c.args.field 0 (omega arith)
