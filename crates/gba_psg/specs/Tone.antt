use Rattle.std.specs.Prelude.{ℕ, ◌+◌, ◌-◌, ◌==◌, Bool, false, ◌&&◌, not, min, if◌then◌else◌}
use Rattle.gba_terms.specs.Bits.{bit, field}
use Rattle.gba_psg.specs.declared.tone.Tone.{Tone}

-- What each of the four tone channels has (GBATEK, GBA Sound Controller; the model of cycles is this project's
-- profile): whether it is on; its place in its pattern; the cycles that it waits before it moves on; the length that is
-- left; its volume; the envelope's ticks before the volume moves; the sweep's ticks before the frequency moves, and the
-- frequency from which the sweep goes on. A number that is 0 stays 0 when it is lowered.
abbrev pub lowered : ℕ → ℕ
lowered n = n - 1

-- A tick of the length: a timed channel that is on has a tick less left, and with none left it is off.
abbrev pub runs_out : Bool → Tone → Bool
runs_out timed t = timed && (lowered t.left == 0)

abbrev pub after_length : Bool → Tone → Tone
after_length timed t = record t {
  on = t.on && not (runs_out timed t);
  left = if timed && t.on then lowered t.left else t.left;
}

-- The envelope's halfword: bits 8 to 10 are its time in ticks, 0 for none, bit 11 goes up instead of down, bits 12 to
-- 15 are the first volume.
abbrev pub envelope_time : ℕ → ℕ
envelope_time shape = field shape 8 3

abbrev pub goes_up : ℕ → Bool
goes_up shape = bit shape 11

abbrev pub first_volume : ℕ → ℕ
first_volume shape = field shape 12 4

-- A tick of the envelope, also of a channel that is off: at the last tick of its time the volume moves by 1
-- within 0 to 15.
abbrev pub next_volume : ℕ → ℕ → ℕ
next_volume shape volume = if goes_up shape then min (volume + 1) 15 else lowered volume

abbrev pub has_envelope : ℕ → Bool
has_envelope shape = not (envelope_time shape == 0)

abbrev pub fades : ℕ → Tone → Bool
fades shape t = has_envelope shape && (lowered t.fade == 0)

abbrev pub after_envelope : ℕ → Tone → Tone
after_envelope shape t = record t {
  volume = if fades shape t then next_volume shape t.volume else t.volume;
  fade = if fades shape t then envelope_time shape else if has_envelope shape then lowered t.fade else t.fade;
}

-- A cycle of a channel that is on lowers its wait. Where it becomes 0 the place moves and the wait becomes the period.
abbrev pub is_due : Tone → Bool
is_due t = t.on && (lowered t.wait == 0)

abbrev pub next_wait : ℕ → Tone → ℕ
next_wait period t = if is_due t then period else if t.on then lowered t.wait else t.wait

abbrev pub after_wait : (ℕ → ℕ) → ℕ → Tone → Tone
after_wait next period t = record t {
  place = if is_due t then next t.place else t.place;
  wait = next_wait period t;
}

abbrev pub tone_at_reset : Tone
tone_at_reset = record { on = false; place = 0; wait = 0; left = 0; volume = 0; fade = 0; sweep = 0; shadow = 0 }
