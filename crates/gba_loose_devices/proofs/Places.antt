-- The bytes of the sound queues and of the wave by their places.
use Rattle.std.proofs.Common.{◌≡◌, ℕ, zero, suc, ◌<◌, ◌≤◌, true, length, slice_index, arith, sym}
use Rattle.std.proofs.lemmas.Bool.Decides.{nat_tests}
use Rattle.gba_numbers.specs.Fields.{board_place, is_field, place_of}
use Rattle.gba_numbers.specs.Numbers.{AreWhole, ConsoleNumbers, is_there, value_at, value_of}
use Rattle.gba_numbers.specs.declared.fields.BoardField.TheVariants as board
use Rattle.gba_numbers.specs.declared.fields.Field.TheVariants.{Board, QueueByte}
use Rattle.gba_loose_devices.specs.Sound.{queue_in, wave_in}

pub wave-value : (bank place : ℕ) (n : ConsoleNumbers) → bank < 2 → place < 16
    → value_of (Board (board.WaveByte bank place)) n ≡ slice_index (wave_in bank n) place
unfolding place_of board_place value_at
wave-value zero place n two inside = grind (arith, nat_tests)
wave-value (suc zero) place n two inside = grind (arith, nat_tests)
wave-value (suc (suc bank)) place n two inside = absurd (omega (arith, two))

pub wave-length : (bank : ℕ) (n : ConsoleNumbers) → bank < 2 → AreWhole n → length (wave_in bank n) ≡ 16
wave-length zero n two whole = whole.wave0
wave-length (suc zero) n two whole = whole.wave1
wave-length (suc (suc bank)) n two whole = absurd (omega (arith, two))

pub queue-length : (queue : ℕ) (n : ConsoleNumbers) → queue < 2 → AreWhole n
    → value_of (Board (board.QueueLength queue)) n ≡ length (queue_in queue n)
unfolding place_of board_place value_at
queue-length zero n two whole = sym whole.queue_a
queue-length (suc zero) n two whole = sym whole.queue_b
queue-length (suc (suc queue)) n two whole = absurd (omega (arith, two))

pub queue-short : (queue : ℕ) (n : ConsoleNumbers) → queue < 2 → AreWhole n → length (queue_in queue n) ≤ 32
queue-short zero n two whole = whole.short_a
queue-short (suc zero) n two whole = whole.short_b
queue-short (suc (suc queue)) n two whole = absurd (omega (arith, two))

pub queue-known : (queue place : ℕ) → queue < 2 → place < 32 → is_field (QueueByte queue place) ≡ true
unfolding is_field
queue-known queue place two inside = grind (arith, nat_tests)

pub queue-there : (queue place : ℕ) (n : ConsoleNumbers) → queue < 2 → place < length (queue_in queue n)
    → place < 32 → is_there (place_of (QueueByte queue place)) n ≡ true
unfolding place_of is_there
queue-there zero place n two inside short = grind (arith, nat_tests)
queue-there (suc zero) place n two inside short = grind (arith, nat_tests)
queue-there (suc (suc queue)) place n two inside short = absurd (omega (arith, two))

pub queue-value : (queue place : ℕ) (n : ConsoleNumbers) → queue < 2 → place < 32
    → value_of (QueueByte queue place) n ≡ slice_index (queue_in queue n) place
unfolding place_of value_at
queue-value zero place n two short = grind (arith, nat_tests)
queue-value (suc zero) place n two short = grind (arith, nat_tests)
queue-value (suc (suc queue)) place n two short = absurd (omega (arith, two))
