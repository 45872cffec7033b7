-- The serial unit.
use Rattle.std.proofs.Common.{◌≡◌, ℕ, ◌<◌, ◌∙◌, List, [], ◌∷◌, length, get_or, Option, Some, None, IfSome, refl, arith, lit<}
use Rattle.gba_register.specs.Rows.{row_at}
use Rattle.gba_io.specs.Core.{Core, core_half_listed}
use Rattle.gba_loose.proofs.Bytes.{bytes-made-again}
use Rattle.gba_loose.proofs.Run.{run-made-again}
use Rattle.gba_loose_devices.specs.Cable.{known_poured, registers_at}
use Rattle.gba_loose_devices.specs.Values.{half_at}
use Rattle.gba_numbers.specs.Numbers.{ConsoleNumbers}
use Rattle.gba_serial.specs.Making.{MadeAgain, registers_of, seat_of, unit_of}
use Rattle.gba_serial.specs.Registers.{serial_rows}
use Rattle.gba_serial.specs.SerialUnit.{mode_of}
use Rattle.gba_serial.specs.Timing.{is_multi}
use Rattle.gba_serial.specs.declared.transfer.Running.{Running}
use Rattle.gba_serial.proofs.Making.{made-again}
use Rattle.gba_device_laws.specs.Cable.{RunHolds, SerialHolds}
use Rattle.gba_thaw_laws.specs.Laws.{SerialThawsAgain}
use Rattle.gba_thaw_laws.specs.Said.{AreHalvesOf, Says}
use Rattle.gba_thaw_laws.proofs.Bits.{ControlAgain, control-again}
use Rattle.link_node.specs.declared.signal.LinkMode.{LinkMode}
use Rattle.link_node.specs.declared.signal.LinkMode.TheVariants.{Other}

-- a list of four by its places
four-again : {A : Type 0} (d : A) (xs : List A) → length xs ≡ 4
    → (get_or xs 0 d ∷ get_or xs 1 d ∷ get_or xs 2 d ∷ get_or xs 3 d ∷ []) ≡ xs
four-again d (one ∷ two ∷ three ∷ four ∷ []) long = refl
four-again d [] long = absurd (omega (arith, long))
four-again d (one ∷ []) long = absurd (omega (arith, long))
four-again d (one ∷ two ∷ []) long = absurd (omega (arith, long))
four-again d (one ∷ two ∷ three ∷ []) long = absurd (omega (arith, long))
four-again d (one ∷ two ∷ three ∷ four ∷ five ∷ more) long = absurd (omega (arith, long))

players-of-run : (mode : LinkMode) (run : Option Running) → IfSome run (RunHolds mode)
    → IfSome run (λ r. length r.got ≡ 4)
players-of-run mode None holds = holds
players-of-run mode (Some run) holds = holds.players

module _ (b : Core) (io : List ℕ) (halves : AreHalvesOf b io) (holds : SerialHolds b.serial) where
  control-half : ControlAgain (half_at 0x128 io) b.serial.control b.serial.error
  unfolding core_half_listed serial_rows row_at
  control-half =
      let seat = holds.seat in
      let few : b.serial.player < 4 = omega (arith, seat.player, seat.count) in
      control-again (half_at 0x128 io) b.serial.control b.serial.player (is_multi (mode_of b.serial)) b.serial.error
      (halves 0x94 (lit< tt)) (holds.stored 0x128) few

  words-again : (half_at 0x120 io ∷ half_at 0x122 io ∷ half_at 0x124 io ∷ half_at 0x126 io ∷ []) ≡ b.serial.words
  unfolding core_half_listed
  words-again =
      (λ i. halves 0x90 (lit< tt) i ∷ halves 0x91 (lit< tt) i ∷ halves 0x92 (lit< tt) i ∷ halves 0x93 (lit< tt) i ∷ [])
      ∙ four-again 0 b.serial.words holds.words

  pub select-half : half_at 0x134 io ≡ b.serial.select
  unfolding core_half_listed
  select-half = halves 0x9a (lit< tt)

  send-half : half_at 0x12a io ≡ b.serial.send
  unfolding core_half_listed
  send-half = halves 0x95 (lit< tt)

  registers-again : registers_at io ≡ registers_of b.serial
  registers-again =
      let control = control-half in
      λ i. record {
        control = control.stored i;
        error = control.failed i;
        select = select-half i;
        send = send-half i;
        words = words-again i;
      }

known-again : (b : Core) (n : ConsoleNumbers) (io : List ℕ) → Says b n io → SerialHolds b.serial
    → known_poured n ≡ b.serial.known
unfolding known_poured
known-again b n io says holds =
    let known = (bytes-made-again b n says.numbers says.range says.bytes).known in
    (λ i. known 0 (lit< tt) i ∷ known 1 (lit< tt) i ∷ known 2 (lit< tt) i ∷ known 3 (lit< tt) i ∷ [])
    ∙ four-again Other b.serial.known holds.players

pub serial-again : SerialThawsAgain
serial-again b n io says holds =
    let u = b.serial in
    let registers = registers-again b io says.halves holds in
    let known = known-again b n io says holds in
    let run = run-made-again b n says.numbers says.range (players-of-run (mode_of u) u.run holds.run) in
    let again : MadeAgain = made-again in
    (λ i. unit_of (seat_of u) (registers i) (known i) (run i)) ∙ again.unit u
