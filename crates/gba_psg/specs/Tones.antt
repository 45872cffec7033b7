use Rattle.std.specs.Prelude.{ℕ, zero, suc, ◌+◌, ◌%◌, ◌==◌, false, if◌then◌else◌}
use Rattle.gba_word.specs.Weights.{weight}
use Rattle.gba_psg.specs.declared.tone.Tone.{Tone}
use Rattle.gba_psg.specs.declared.four.FourTones.{FourTones}
use Rattle.gba_psg.specs.Tone.{after_envelope, after_length}
use Rattle.gba_psg.specs.Square.{after_sweep, square_at_reset, square_moved, square_timed}
use Rattle.gba_psg.specs.Wave.{wave_at_reset, wave_moved, wave_timed}
use Rattle.gba_psg.specs.Noise.{noise_at_reset, noise_moved, noise_timed}

-- The four tone channels (GBATEK, GBA Sound Controller; the model of cycles is this project's profile): the master
-- enable, which is bit 7 of SOUNDCNT_X; the sequencer, which counts cycles modulo 262,144; the sweep of channel 1;
-- channels 1 to 4; SOUNDCNT_L as it is stored; and bits 0 and 1 of SOUNDCNT_H.

-- what comes in a cycle, by the sequencer that has moved: lengths at 256 Hz, the sweep at 128 Hz, envelopes at 64 Hz
abbrev pub counted : FourTones → FourTones
counted ts = record ts { sequencer = (ts.sequencer + 1) % 0x40000 }

abbrev pub after_lengths : FourTones → FourTones
after_lengths ts = record ts {
  square1 = record ts.square1 { tone = after_length (square_timed ts.square1) ts.square1.tone };
  square2 = record ts.square2 { tone = after_length (square_timed ts.square2) ts.square2.tone };
  wave = record ts.wave { tone = after_length (wave_timed ts.wave) ts.wave.tone };
  noise = record ts.noise { tone = after_length (noise_timed ts.noise) ts.noise.tone };
}

abbrev pub after_sweeps : FourTones → FourTones
after_sweeps ts = record ts { square1 = after_sweep ts.sweep ts.square1 }

abbrev pub after_envelopes : FourTones → FourTones
after_envelopes ts = record ts {
  square1 = record ts.square1 { tone = after_envelope ts.square1.shape ts.square1.tone };
  square2 = record ts.square2 { tone = after_envelope ts.square2.shape ts.square2.tone };
  noise = record ts.noise { tone = after_envelope ts.noise.shape ts.noise.tone };
}

abbrev pub with_lengths : FourTones → FourTones
with_lengths ts = if ts.sequencer % 0x10000 == 0 then after_lengths ts else ts

abbrev pub with_sweeps : FourTones → FourTones
with_sweeps ts = if ts.sequencer % 0x20000 == 0 then after_sweeps ts else ts

abbrev pub with_envelopes : FourTones → FourTones
with_envelopes ts = if ts.sequencer == 0 then after_envelopes ts else ts

unfoldable pub ticked : FourTones → FourTones
ticked ts = with_envelopes (with_sweeps (with_lengths ts))

-- then each channel moves by a cycle
abbrev pub moved : FourTones → FourTones
moved ts = record ts {
  square1 = square_moved ts.square1;
  square2 = square_moved ts.square2;
  wave = wave_moved ts.wave;
  noise = noise_moved ts.noise;
}

-- One cycle. While the master enable is 0 nothing moves.
unfoldable pub cycle : FourTones → FourTones
cycle ts = if ts.is_on then moved (ticked (counted ts)) else ts

-- so many cycles
unfoldable pub after_cycles : ℕ → FourTones → FourTones
after_cycles zero ts = ts
after_cycles (suc count) ts = cycle (after_cycles count ts)

-- a channel's tone by the channel's number less 1, that of channel 4 for any above
abbrev pub tone_at : ℕ → FourTones → Tone
tone_at number ts =
    if number == 0 then ts.square1.tone
    else if number == 1 then ts.square2.tone
    else if number == 2 then ts.wave.tone
    else ts.noise.tone

-- the channels that are on, in bits 0 to 3
abbrev pub channels_on : FourTones → ℕ
channels_on ts =
    weight 1 ts.square1.tone.on + weight 2 ts.square2.tone.on + weight 4 ts.wave.tone.on + weight 8 ts.noise.tone.on

-- the tones at reset
abbrev pub tones_at_reset : FourTones
tones_at_reset = record {
  is_on = false;
  sequencer = 0;
  sweep = 0;
  square1 = square_at_reset;
  square2 = square_at_reset;
  wave = wave_at_reset;
  noise = noise_at_reset;
  mixer = 0;
  ratio = 0;
}
