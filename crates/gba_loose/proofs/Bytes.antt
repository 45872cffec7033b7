-- The bytes of the sound queues and of the wave, and the modes that players last told.
use Rattle.std.proofs.Common.{◌≡◌, ℕ, ◌%◌, ◌^◌, ◌<◌, ◌∙◌, ap, true, List, length, arith, refl}
use Rattle.std.proofs.Math.Nat.{mod-eq_of_lt}
use Rattle.std.proofs.lemmas.Bool.Decides.{nat_tests}
use Rattle.std.proofs.lemmas.List.{ext_get_or, get_or-map, length-map}
use Rattle.gba_terms.specs.Bytes.{AreBytes}
use Rattle.gba_io.specs.Core.{Core}
use Rattle.gba_loose_devices.specs.Cable.{mode_poured}
use Rattle.gba_loose_devices.specs.Values.{bytes_cut}
use Rattle.gba_numbers.specs.Fields.{is_board_field}
use Rattle.gba_numbers.specs.Numbers.{ConsoleNumbers}
use Rattle.gba_numbers.specs.Ranges.{board_fits}
use Rattle.gba_numbers.specs.declared.fields.BoardField.TheVariants as board
use Rattle.gba_serial.specs.SerialUnit.{known_mode}
use Rattle.gba_sound.specs.Queue.{SoundQueue}
use Rattle.gba_sound.specs.Queues.{queue_at}
use Rattle.link_node.specs.Packing.{mode_number, numbered_mode}
use Rattle.link_node.specs.declared.signal.LinkMode.{LinkMode}
use Rattle.link_node.specs.declared.signal.LinkMode.TheVariants.{Normal8, Normal32, Multi, Other}
use Rattle.gba_loose.specs.Again.{AreInRange, AreNumbersOf, BytesAgain}
use Rattle.gba_loose.specs.Numbers.{board_number}
use Rattle.gba_loose.proofs.Made.{cut-again}

bytes-again : (bytes own : List ℕ) → bytes ≡ own → AreBytes bytes → bytes_cut bytes ≡ own
bytes-again bytes own same small =
    ext_get_or 0 (bytes_cut bytes) bytes (length-map bytes (λ b. b % 2 ^ 8))
    (λ k lt.
    let inside : k < length bytes = omega (arith, lt, length-map bytes (λ b. b % 2 ^ 8)) in
    get_or-map (λ b. b % 2 ^ 8) bytes k 0 0 inside ∙ mod-eq_of_lt (small k inside))
    ∙ same

queue-by : (bytes own : List ℕ) (current now : ℕ) → bytes ≡ own → current ≡ now
    → (let one : SoundQueue = record { bytes = bytes; current = current } in one)
    ≡ (let other : SoundQueue = record { bytes = own; current = now } in other)
queue-by bytes own current now p q = cc

mode-again : (m : LinkMode) (v : ℕ) → v ≡ mode_number m → numbered_mode v ≡ m
mode-again Normal8 v same = ap numbered_mode same
mode-again Normal32 v same = ap numbered_mode same
mode-again Multi v same = ap numbered_mode same
mode-again Other v same = ap numbered_mode same

current-small : (b : Core) → AreInRange b → (queue : ℕ) → is_board_field (board.QueueCurrent queue) ≡ true
    → (queue_at queue b.devices.sound).current < 2 ^ 8
unfolding board_fits board_number is_board_field
current-small b fit queue is = let h = fit (board.QueueCurrent queue) is in grind (arith, nat_tests, h)

known-again : (b : Core) (n : ConsoleNumbers) → AreNumbersOf b n → (player : ℕ) → player < 4
    → mode_poured player n ≡ known_mode b.serial.known player
unfolding board_number is_board_field
known-again b n are player inside =
    mode-again (known_mode b.serial.known player) _ (are (board.Known player) (grind (arith, nat_tests)))

pub bytes-made-again : BytesAgain
unfolding board_number is_board_field
bytes-made-again b n are fit bytes = record {
  queue_a = queue-by _ _ _ _ (bytes-again n.queue_a _ bytes.queue_a bytes.fit_a)
      (cut-again 8 _ _ (are (board.QueueCurrent 0) refl) (current-small b fit 0 refl));
  queue_b = queue-by _ _ _ _ (bytes-again n.queue_b _ bytes.queue_b bytes.fit_b)
      (cut-again 8 _ _ (are (board.QueueCurrent 1) refl) (current-small b fit 1 refl));
  wave0 = bytes-again n.wave0 _ bytes.wave0 bytes.fit0;
  wave1 = bytes-again n.wave1 _ bytes.wave1 bytes.fit1;
  known = known-again b n are;
}
