use Rattle.std.specs.Prelude.{ℕ, zero, suc, ◌+◌, ◌-◌, ◌/◌, ◌%◌, nat_lt, if◌then◌else◌}
use Rattle.gba_psg.specs.declared.tone.Tone.{Tone}
use Rattle.gba_psg.specs.declared.square.Square.{Square}
use Rattle.gba_psg.specs.declared.wave.Wave.{Wave}
use Rattle.gba_psg.specs.declared.noise.Noise.{Noise}
use Rattle.gba_psg.specs.Square.{next_eighth, square_period}
use Rattle.gba_psg.specs.Wave.{next_digit, wave_period}
use Rattle.gba_psg.specs.Noise.{is_narrow, next_noise, noise_period}
use Rattle.gba_psg.specs.declared.four.FourTones.{FourTones}

-- The cycles between two ticks by arithmetic; only private functions cite it.

-- so many moves of a place
unfoldable pub repeated : (ℕ → ℕ) → ℕ → ℕ → ℕ
repeated next zero place = place
repeated next (suc count) place = next (repeated next count place)

-- how often a channel that is on moves in so many cycles, and its wait after them
abbrev pub moves_in : ℕ → ℕ → ℕ → ℕ
moves_in period count wait = if nat_lt count wait then 0 else (count - wait) / period + 1

abbrev pub wait_after : ℕ → ℕ → ℕ → ℕ
wait_after period count wait = if nat_lt count wait then wait - count else period - (count - wait) % period

abbrev pub moves_of : ℕ → ℕ → Tone → ℕ
moves_of period count t = if t.on then moves_in period count t.wait else 0

abbrev pub wait_of : ℕ → ℕ → Tone → ℕ
wait_of period count t = if t.on then wait_after period count t.wait else t.wait

abbrev pub tone_run : (ℕ → ℕ) → ℕ → ℕ → Tone → Tone
tone_run next period count t = record t {
  place = repeated next (moves_of period count t) t.place;
  wait = wait_of period count t;
}

abbrev pub square_run : ℕ → Square → Square
square_run count c = record c { tone = tone_run next_eighth (square_period c) count c.tone }

abbrev pub wave_run : ℕ → Wave → Wave
wave_run count c = record c { tone = tone_run (next_digit c) (wave_period c) count c.tone }

abbrev pub noise_run : ℕ → Noise → Noise
noise_run count c = record c { tone = tone_run (next_noise (is_narrow c)) (noise_period c) count c.tone }

unfoldable pub run : ℕ → FourTones → FourTones
run count ts = record ts {
  square1 = square_run count ts.square1;
  square2 = square_run count ts.square2;
  wave = wave_run count ts.wave;
  noise = noise_run count ts.noise;
}
