use Rattle.std.specs.Prelude.{ℕ, ◌+◌, ◌*◌, ◌==◌, Bool, false, ◌&&◌, List, [], ◌∷◌, bit_and, if◌then◌else◌, ℤ, pos, ◌+ℤ◌, ◌*ℤ◌}
use Rattle.std.specs.Int.{w8, cast_signed}
use Rattle.gba_terms.specs.Bits.{bit}
use Rattle.gba_register.specs.Rows.{Row, row, row_at}
use Rattle.gba_sound.specs.declared.asked.Asked.{Asked}
use Rattle.gba_sound.specs.Queue.{SoundQueue, after_push, after_take, empty_queue, is_half_empty}

-- Direct sound (GBATEK, GBA Sound Control Registers): queues A and B, by the numbers 0 and 1; SOUNDCNT_H; the master
-- enable, which is bit 7 of SOUNDCNT_X; SOUNDBIAS, which has no effect (this project's profile).
pub record DirectSound : Type 0 where
  pub queue_a : SoundQueue
  pub queue_b : SoundQueue
  pub control : ℕ
  pub is_on : Bool
  pub bias : ℕ

abbrev pub queue_at : ℕ → DirectSound → SoundQueue
queue_at number s = if number == 0 then s.queue_a else s.queue_b

-- SOUNDCNT_H: bits 2 and 3 give A and B full volume instead of half; of A, bit 8 sends it right, 9 left, 10 chooses
-- timer 1 instead of 0, and a 1 written to 11 resets it; 12 to 15 are the same of B.
abbrev pub has_full_volume : ℕ → DirectSound → Bool
has_full_volume number s = bit s.control (2 + number)

abbrev pub goes_right : ℕ → DirectSound → Bool
goes_right number s = bit s.control (8 + 4 * number)

abbrev pub goes_left : ℕ → DirectSound → Bool
goes_left number s = bit s.control (9 + 4 * number)

abbrev pub timer_of : ℕ → DirectSound → ℕ
timer_of number s = if bit s.control (10 + 4 * number) then 1 else 0

abbrev pub is_reset_by : ℕ → ℕ → Bool
is_reset_by value number = bit value (11 + 4 * number)

-- a word comes to one of the queues
abbrev pub after_word : ℕ → ℕ → DirectSound → DirectSound
after_word number word s = record s {
  queue_a = if number == 0 then after_push word s.queue_a else s.queue_a;
  queue_b = if number == 1 then after_push word s.queue_b else s.queue_b;
}

-- A timer overflows: each queue that chose it takes a byte, and asks for DMA where 16 bytes or fewer are then left.
-- This is so while the sound is off, too (this project's profile).
abbrev pub chose : ℕ → ℕ → DirectSound → Bool
chose timer number s = timer == timer_of number s

abbrev pub after_overflow : ℕ → DirectSound → DirectSound
after_overflow timer s = record s {
  queue_a = if chose timer 0 s then after_take s.queue_a else s.queue_a;
  queue_b = if chose timer 1 s then after_take s.queue_b else s.queue_b;
}

abbrev pub asked : ℕ → DirectSound → Asked
asked timer s = record {
  a = chose timer 0 s && is_half_empty (after_take s.queue_a);
  b = chose timer 1 s && is_half_empty (after_take s.queue_b);
}

-- What a queue gives to a side to which it is sent: its current byte as a signed number, times 64 at full and 32 at
-- half volume. A side is the sum of both queues, and 0 where the sound is off (this project's profile).
abbrev pub loudness : Bool → ℕ → ℤ
loudness is_full byte = if is_full then cast_signed w8 byte *ℤ pos 64 else cast_signed w8 byte *ℤ pos 32

abbrev pub amount : Bool → ℕ → DirectSound → ℤ
amount is_sent number s =
    if is_sent then loudness (has_full_volume number s) (queue_at number s).current else pos 0

abbrev pub side : Bool → Bool → DirectSound → ℤ
side has_a has_b s = if s.is_on then amount has_a 0 s +ℤ amount has_b 1 s else pos 0

abbrev pub left_sample : DirectSound → ℤ
left_sample s = side (goes_left 0 s) (goes_left 1 s) s

abbrev pub right_sample : DirectSound → ℤ
right_sample s = side (goes_right 0 s) (goes_right 1 s) s

-- SOUNDCNT_H, SOUNDCNT_X and SOUNDBIAS
unfoldable pub sound_rows : List Row
sound_rows = row 0x082 0x770f 0x770f ∷ row 0x084 0x0080 0x0080 ∷ row 0x088 0xc3fe 0xc3fe ∷ []

abbrev pub sound_shown : ℕ → DirectSound → ℕ
sound_shown offset s =
    if offset == 0x082 then s.control
    else if offset == 0x084 then (if s.is_on then 0x80 else 0)
    else if offset == 0x088 then s.bias
    else 0

-- what a halfword reads, and what a byte write keeps of its other byte: no reset bits
abbrev pub sound_read : ℕ → DirectSound → ℕ
sound_read offset s = bit_and (sound_shown offset s) (row_at sound_rows offset).read_mask

-- what a halfword write leaves
abbrev pub sound_written : ℕ → ℕ → DirectSound → DirectSound
sound_written offset value s = record s {
  queue_a = if (offset == 0x082) && is_reset_by value 0 then empty_queue else s.queue_a;
  queue_b = if (offset == 0x082) && is_reset_by value 1 then empty_queue else s.queue_b;
  control = if offset == 0x082 then bit_and value (row_at sound_rows 0x082).write_mask else s.control;
  is_on = if offset == 0x084 then bit value 7 else s.is_on;
  bias = if offset == 0x088 then bit_and value (row_at sound_rows 0x088).write_mask else s.bias;
}

-- direct sound at reset
abbrev pub sound_at_reset : DirectSound
sound_at_reset = record { queue_a = empty_queue; queue_b = empty_queue; control = 0; is_on = false; bias = 0x0200 }
