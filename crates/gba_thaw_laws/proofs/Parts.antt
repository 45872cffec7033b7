-- The parts of a console.
use Rattle.std.proofs.Common.{◌≡◌, ℕ, ◌%◌, ◌^◌, ◌<◌, ◌∙◌, ap, sym, slice_index, refl, arith, lt-ltb, lit<, ext_get_or, mod-eq_of_lt}
use Rattle.std.proofs.lemmas.List.FromFn.{get_or-map-range_with_len, length-map-range_with_len}
use Rattle.gba_console.specs.Machine.{Machine, clock_of}
use Rattle.gba_console.specs.Pouring.{parts_of}
use Rattle.gba_console.specs.Shorn.{rested}
use Rattle.gba_loose_devices.specs.Cable.{serial_poured}
use Rattle.gba_loose_devices.specs.Whole.{registers_poured}
use Rattle.gba_numbers.specs.Fields.{is_field, place_of}
use Rattle.gba_numbers.specs.Numbers.{value_of}
use Rattle.gba_numbers.specs.declared.fields.Field.TheVariants.{Applied, Clock, Frames, Register, Samples, Was, Words}
use Rattle.gba_serial.specs.Making.{seat_of}
use Rattle.gba_serial.specs.Tell.{silent}
use Rattle.gba_serial.specs.declared.serial.making.Seat.{Seat}
use Rattle.gba_snapshot.specs.Io.{io_bytes}
use Rattle.gba_snapshot.specs.Snapshot.{console_number, numbers_of}
use Rattle.gba_thaw.specs.Console.{parts_thawed}
use Rattle.gba_thaw_laws.specs.Holds.{Holds, RegistersHold}
use Rattle.gba_thaw_laws.specs.Laws.{IsStartOf}
use Rattle.gba_thaw_laws.proofs.Devices.{devices-again}
use Rattle.gba_thaw_laws.proofs.Numbers.{number-is}
use Rattle.gba_thaw_laws.proofs.Saying.{says-itself}
use Rattle.gba_thaw_laws.proofs.Serial.{serial-again}

-- ---- numbers of the console itself

module _ (m : Machine) where
  pub clock-is : value_of Clock (numbers_of m) ≡ clock_of m
  unfolding console_number is_field place_of
  clock-is = number-is m Clock refl (lit< tt)

  pub was-is : value_of Was (numbers_of m) ≡ m.was
  unfolding console_number is_field place_of
  was-is = number-is m Was refl (lit< tt)

  pub applied-is : value_of Applied (numbers_of m) ≡ m.applied
  unfolding console_number is_field place_of
  applied-is = number-is m Applied refl (lit< tt)

  pub frames-are : value_of Frames (numbers_of m) ≡ m.board.made.frame_count
  unfolding console_number is_field place_of
  frames-are = number-is m Frames refl (lit< tt)

  pub samples-are : value_of Samples (numbers_of m) ≡ m.board.made.pairs
  unfolding console_number is_field place_of
  samples-are = number-is m Samples refl (lit< tt)

  pub words-are : value_of Words (numbers_of m) ≡ m.board.ended.count
  unfolding console_number is_field place_of
  words-are = number-is m Words refl (lit< tt)

  register-is : (register : ℕ) → register < 37
      → value_of (Register register) (numbers_of m) ≡ slice_index m.registers register
  unfolding console_number is_field place_of
  register-is register inside =
      number-is m (Register register) (lt-ltb register 37 inside) (omega (arith, inside))

  pub registers-are : RegistersHold m.registers → registers_poured (numbers_of m) ≡ m.registers
  registers-are holds =
      let cut = λ (register : ℕ). value_of (Register register) (numbers_of m) % 2 ^ 32 in
      let long = length-map-range_with_len cut 0 37 in
      ext_get_or 0 (registers_poured (numbers_of m)) m.registers (long ∙ sym holds.long) (λ register lt.
      let inside : register < 37 = omega (arith, lt, long) in
      get_or-map-range_with_len cut 0 37 register register 0 inside (omega arith)
      ∙ ap (λ (v : ℕ). v % 2 ^ 32) (register-is register inside) ∙ mod-eq_of_lt (holds.words register))

-- ---- its parts

pub parts-again : (start m : Machine) → IsStartOf m start → Holds m
    → parts_thawed start (numbers_of m) (io_bytes 512 m.board.core) ≡ parts_of (rested m)
parts-again start m same holds =
    let b = m.board.core in
    let io = io_bytes 512 b in
    let n = numbers_of m in
    let says = says-itself m holds in
    let registers = registers-are m holds.registers in
    let devices = devices-again b n io says (clock-is m) holds.devices in
    let serial : serial_poured (seat_of start.board.core.serial) n io ≡ silent b.serial =
    ap (λ (seat : Seat). serial_poured seat n io) same.seat ∙ serial-again b n io says holds.serial in
    let applied = applied-is m in
    let was = was-is m in
    let frames = frames-are m in
    let samples = samples-are m in
    let words = words-are m in
    λ i. record {
      registers = registers i;
      board = record {
        devices = devices i;
        serial = serial i;
        counts = record { frames = frames i; samples = samples i; words = words i };
      };
      applied = applied i;
      was = was i;
    }
