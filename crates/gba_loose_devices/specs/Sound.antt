use Rattle.std.specs.Prelude.{ℕ, ◌+◌, ◌-◌, ◌/◌, ◌%◌, ◌==◌, List, [], ◌∷◌, map, if◌then◌else◌}
use Rattle.std.specs.List.{range_with_len}
use Rattle.gba_terms.specs.Bits.{bit, field}
use Rattle.gba_numbers.specs.Numbers.{ConsoleNumbers}
use Rattle.gba_numbers.specs.declared.fields.BoardField.{BoardField}
use Rattle.gba_numbers.specs.declared.fields.BoardField.TheVariants as board
use Rattle.gba_psg.specs.Numbers.{tones_of}
use Rattle.gba_psg.specs.declared.four.FourTones.{FourTones}
use Rattle.gba_sound.specs.Queue.{SoundQueue}
use Rattle.gba_sound.specs.Queues.{DirectSound}
use Rattle.gba_loose_devices.specs.Values.{bytes_cut, half_at, number_cut}

-- The sound of a console's numbers and of the bytes of its I/O registers (GBATEK, GBA Sound Controller).

-- the bytes that a sound queue holds, 0 for A and 1 for B, and the bytes of a bank of the wave
abbrev pub queue_in : ℕ → ConsoleNumbers → List ℕ
queue_in queue n = if queue == 0 then n.queue_a else n.queue_b

abbrev pub wave_in : ℕ → ConsoleNumbers → List ℕ
wave_in bank n = if bank == 0 then n.wave0 else n.wave1

-- a sound queue
abbrev pub queue_poured : ℕ → ConsoleNumbers → SoundQueue
queue_poured queue n = record {
  bytes = bytes_cut (queue_in queue n);
  current = number_cut 8 (board.QueueCurrent queue) n;
}

-- direct sound, with SOUNDCNT_H 082h, the master enable, which is bit 7 of SOUNDCNT_X 084h, and SOUNDBIAS 088h
abbrev pub sound_poured : ConsoleNumbers → List ℕ → DirectSound
sound_poured n io = record {
  queue_a = queue_poured 0 n;
  queue_b = queue_poured 1 n;
  control = half_at 0x082 io;
  is_on = bit (half_at 0x084 io) 7;
  bias = half_at 0x088 io;
}

-- which of a console's numbers is which of the tones' 33: the sequencer, and then the eight of each channel
unfoldable pub tone_field : ℕ → BoardField
tone_field place = if place == 0 then board.Sequencer else board.Tone ((place - 1) / 8 + 1) ((place - 1) % 8)

abbrev pub tone_numbers : ConsoleNumbers → List ℕ
tone_numbers n = map (λ place. number_cut 32 (tone_field place) n) (range_with_len 0 33)

-- What is stored at the tones' halfwords, in their order: SOUND1CNT_L, H and X, SOUND2CNT_L and H, SOUND3CNT_L, H and
-- X, SOUND4CNT_L and H, SOUNDCNT_L, of SOUNDCNT_H the bits 0 and 1, and SOUNDCNT_X.
unfoldable pub tone_halves : List ℕ → List ℕ
tone_halves io =
    half_at 0x060 io ∷ half_at 0x062 io ∷ half_at 0x064 io ∷ half_at 0x068 io ∷ half_at 0x06c io
    ∷ half_at 0x070 io ∷ half_at 0x072 io ∷ half_at 0x074 io ∷ half_at 0x078 io ∷ half_at 0x07c io
    ∷ half_at 0x080 io ∷ field (half_at 0x082 io) 0 2 ∷ half_at 0x084 io ∷ []

-- the tone channels, with both banks of the wave
abbrev pub tones_poured : ConsoleNumbers → List ℕ → FourTones
tones_poured n io = tones_of (tone_numbers n) (bytes_cut n.wave0) (bytes_cut n.wave1) (tone_halves io)
