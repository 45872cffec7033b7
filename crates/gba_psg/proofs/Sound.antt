-- The numbers stay in range, and a channel that is on goes on with cycles to wait and a length that is left.
use Rattle.std.proofs.Common.{◌≡◌, ℕ, zero, suc, ◌+◌, ◌-◌, ◌/◌, ◌%◌, ◌^◌, ◌<◌, ◌≤◌, Bool, true, false, refl, ap, subst, sym, ◌∙◌, arith}
use Rattle.std.specs.Prelude.{nat_eq, nat_lt, ◌==◌, ◌&&◌, not, min, bit_and, bit_xor, if◌then◌else◌}
use Rattle.std.proofs.lemmas.Nat.{mod_below, xor_lt}
use Rattle.gba_terms.specs.Bits.{bit}
use Rattle.gba_register.specs.Rows.{row_at}
use Rattle.gba_psg.specs.declared.tone.Tone.{Tone}
use Rattle.gba_psg.specs.declared.square.Square.{Square}
use Rattle.gba_psg.specs.declared.wave.Wave.{Wave}
use Rattle.gba_psg.specs.declared.noise.Noise.{Noise}
use Rattle.gba_psg.specs.declared.four.FourTones.{FourTones}
use Rattle.gba_psg.specs.Tone.{after_envelope, after_length, after_wait, envelope_time, fades, is_due, lowered, next_volume, tone_at_reset}
use Rattle.gba_psg.specs.Square.{after_sweep, is_too_high, next_eighth, square_controlled, square_moved, square_period, square_started, square_swept, square_timed, sweep_shift, sweep_time, swept, with_sweep_left}
use Rattle.gba_psg.specs.Wave.{next_digit, wave_controlled, wave_moved, wave_period, wave_cleared, wave_started, wave_timed, with_wave_half}
use Rattle.gba_psg.specs.Noise.{is_narrow, next_noise, noise_controlled, noise_moved, noise_period, noise_started, noise_timed, tap}
use Rattle.gba_psg.specs.Tones.{after_cycles, after_envelopes, after_lengths, after_sweeps, counted, cycle, moved, ticked, tones_at_reset, with_lengths, with_sweeps}
use Rattle.gba_psg.specs.Registers.{tone_set, cleared, is_wave_offset, mastered, tone_rows, tones_set, tones_written, wave_place}
use Rattle.gba_psg.specs.Soundness.{AreSound, IsSoundTone, StaysSound}
use Rattle.gba_psg.proofs.Cycling.{cycle-off, cycle-on, square-period-positive, wave-period-positive}
use Rattle.gba_psg.proofs.Fields.{field-below, noise-period-below, noise-period-positive}

pub either : {A : Type 0} (P : A → Type 0) (first : Bool) (a b : A) → P a → P b → P (if first then a else b)
either P true a b h k = h
either P false a b h k = k

-- a tick of the length
on-left : (timed on : Bool) (left : ℕ) → (on ≡ true → 0 < left) → (on && not (timed && nat_eq (left - 1) 0)) ≡ true
    → 0 < (if timed && on then left - 1 else left)
on-left false true left h e = h refl
on-left true true left h e = grind (arith, e)
on-left timed false left h e = grind (arith, e)

stays-on : (on other : Bool) → (on && other) ≡ true → on ≡ true
stays-on true other e = refl
stays-on false other e = e

length-sound : (p : ℕ) (timed : Bool) (t : Tone) → IsSoundTone p t → IsSoundTone p (after_length timed t)
length-sound p timed t h = record {
  place = h.place;
  wait = h.wait;
  left = either (λ n. n ≤ 256) (timed && t.on) (lowered t.left) t.left (omega (arith, h.left)) h.left;
  volume = h.volume;
  fade = h.fade;
  sweep = h.sweep;
  shadow = h.shadow;
  waits = λ e. h.waits (stays-on t.on _ e);
  lasts = λ e. on-left timed t.on t.left h.lasts e;
}

-- a tick of the envelope
volume-below : (up : Bool) (volume : ℕ) → volume < 16 → (if up then min (volume + 1) 15 else volume - 1) < 16
volume-below true volume h = grind arith
volume-below false volume h = omega (arith, h)

envelope-sound : (p shape : ℕ) (t : Tone) → IsSoundTone p t → IsSoundTone p (after_envelope shape t)
envelope-sound p shape t h = record {
  place = h.place;
  wait = h.wait;
  left = h.left;
  volume =
      either (λ n. n < 16) (fades shape t) (next_volume shape t.volume) t.volume
      (volume-below (bit shape 11) t.volume h.volume) h.volume;
  fade =
      either (λ n. n < 8) (fades shape t) (envelope_time shape) _ (field-below shape 8 3)
      (either (λ n. n < 8) _ (lowered t.fade) t.fade (omega (arith, h.fade)) h.fade);
  sweep = h.sweep;
  shadow = h.shadow;
  waits = h.waits;
  lasts = h.lasts;
}

-- a cycle
wait-left : (on : Bool) (wait period : ℕ) → 0 < period → (on ≡ true → 0 < wait) → on ≡ true
    → 0 < (if on && nat_eq (wait - 1) 0 then period else if on then wait - 1 else wait)
wait-left on wait period some h e = (let waits = h e in grind (arith, e, some, waits))

moved-sound : (p : ℕ) (next : ℕ → ℕ) (period : ℕ) (t : Tone) → ((x : ℕ) → x < p → next x < p) → 0 < period
    → period < 2 ^ 24 → IsSoundTone p t → IsSoundTone p (after_wait next period t)
moved-sound p next period t keeps some below h = record {
  place = either (λ n. n < p) (is_due t) (next t.place) t.place (keeps t.place h.place) h.place;
  wait =
      either (λ n. n < 2 ^ 24) (is_due t) period _ below
      (either (λ n. n < 2 ^ 24) t.on (lowered t.wait) t.wait (omega (arith, h.wait)) h.wait);
  left = h.left;
  volume = h.volume;
  fade = h.fade;
  sweep = h.sweep;
  shadow = h.shadow;
  waits = λ e. wait-left t.on t.wait period some h.waits e;
  lasts = h.lasts;
}

square-period-below : (c : Square) → square_period c < 2 ^ 24
square-period-below c = omega arith

wave-period-below : (c : Wave) → wave_period c < 2 ^ 24
wave-period-below c = omega arith

digit-below : (two : Bool) (x : ℕ) → (x + 1) % (if two then 64 else 32) < 64
digit-below true x = grind arith
digit-below false x = grind arith

xor-below : (narrow lost : Bool) (x : ℕ) → x < 0x8000 → (if lost then bit_xor (x / 2) (tap narrow) else x / 2) < 0x8000
xor-below true true x h = xor_lt 15 (x / 2) 0x60 (grind (arith, h)) (omega arith)
xor-below false true x h = xor_lt 15 (x / 2) 0x6000 (grind (arith, h)) (omega arith)
xor-below narrow false x h = grind (arith, h)

square-moved-sound : (c : Square) → IsSoundTone 8 c.tone → IsSoundTone 8 (square_moved c).tone
square-moved-sound c h =
    moved-sound 8 next_eighth (square_period c) c.tone (λ x low. mod_below (x + 1) 8 (omega arith))
    (square-period-positive c) (square-period-below c) h

wave-moved-sound : (c : Wave) → IsSoundTone 64 c.tone → IsSoundTone 64 (wave_moved c).tone
wave-moved-sound c h =
    moved-sound 64 (next_digit c) (wave_period c) c.tone (λ x low. digit-below (bit c.select 5) x)
    (wave-period-positive c) (wave-period-below c) h

noise-moved-sound : (c : Noise) → IsSoundTone 0x8000 c.tone → IsSoundTone 0x8000 (noise_moved c).tone
noise-moved-sound c h =
    moved-sound 0x8000 (next_noise (is_narrow c)) (noise_period c) c.tone
    (λ x low. xor-below (is_narrow c) (nat_eq (x % 2) 1) x low) (noise-period-positive c) (noise-period-below c) h

-- a tick of the sweep
swept-low : (high none : Bool) (n shadow : ℕ) → nat_lt 2047 n ≡ high → shadow < 2048
    → (if not high && none then n else shadow) < 2048
swept-low true none n shadow e h = h
swept-low false true n shadow e h = grind (arith, e)
swept-low false false n shadow e h = h

swept-sound : (sweep : ℕ) (c : Square) → IsSoundTone 8 c.tone → IsSoundTone 8 (square_swept sweep c).tone
swept-sound sweep c h = record {
  place = h.place;
  wait = h.wait;
  left = h.left;
  volume = h.volume;
  fade = h.fade;
  sweep = h.sweep;
  shadow =
      swept-low (is_too_high sweep c.tone) (not (sweep_shift sweep == 0)) (swept sweep c.tone) c.tone.shadow refl
      h.shadow;
  waits = λ e. h.waits (stays-on c.tone.on _ e);
  lasts = λ e. h.lasts (stays-on c.tone.on _ e);
}

with-left-sound : (left : ℕ) (c : Square) → left < 8 → IsSoundTone 8 c.tone
    → IsSoundTone 8 (with_sweep_left left c).tone
with-left-sound left c low h = record {
  place = h.place;
  wait = h.wait;
  left = h.left;
  volume = h.volume;
  fade = h.fade;
  sweep = low;
  shadow = h.shadow;
  waits = h.waits;
  lasts = h.lasts;
}

sweep-sound : (sweep : ℕ) (c : Square) → IsSoundTone 8 c.tone → IsSoundTone 8 (after_sweep sweep c).tone
sweep-sound sweep c h =
    either (λ (d : Square). IsSoundTone 8 d.tone) (sweep_time sweep == 0) c _ h
    (either (λ (d : Square). IsSoundTone 8 d.tone) (lowered c.tone.sweep == 0) _ _
    (swept-sound sweep (with_sweep_left (sweep_time sweep) c)
    (with-left-sound (sweep_time sweep) c (field-below sweep 4 3) h))
    (with-left-sound (lowered c.tone.sweep) c (omega (arith, h.sweep)) h))

-- a start
square-started-sound : (sweep : ℕ) (c : Square) → IsSoundTone 8 (square_started sweep c).tone
square-started-sound sweep c =
    let length = field-below c.shape 0 6 in
    record {
      place = omega arith;
      wait = square-period-below c;
      left = omega arith;
      volume = field-below c.shape 12 4;
      fade = field-below c.shape 8 3;
      sweep = field-below sweep 4 3;
      shadow = field-below c.control 0 11;
      waits = λ e. square-period-positive c;
      lasts = λ e. omega (arith, length);
    }

wave-started-sound : (c : Wave) → IsSoundTone 64 (wave_started c).tone
wave-started-sound c =
    let length = field-below c.level 0 8 in
    let volume = field-below c.level 13 2 in
    record {
      place = omega arith;
      wait = wave-period-below c;
      left = omega arith;
      volume = omega (arith, volume);
      fade = omega arith;
      sweep = omega arith;
      shadow = field-below c.control 0 11;
      waits = λ e. wave-period-positive c;
      lasts = λ e. omega (arith, length);
    }

noise-started-sound : (c : Noise) → IsSoundTone 0x8000 (noise_started c).tone
noise-started-sound c =
    let length = field-below c.shape 0 6 in
    record {
      place = either (λ n. n < 0x8000) (is_narrow c) 0x40 0x4000 (omega arith) (omega arith);
      wait = noise-period-below c;
      left = omega arith;
      volume = field-below c.shape 12 4;
      fade = field-below c.shape 8 3;
      sweep = omega arith;
      shadow = omega arith;
      waits = λ e. noise-period-positive c;
      lasts = λ e. omega (arith, length);
    }

square-controlled-sound : (sweep value : ℕ) (starts : Bool) (c : Square) → IsSoundTone 8 c.tone
    → IsSoundTone 8 (square_controlled sweep value starts c).tone
square-controlled-sound sweep value true c h = square-started-sound sweep (record c { control = value })
square-controlled-sound sweep value false c h = h

wave-controlled-sound : (value : ℕ) (starts : Bool) (c : Wave) → IsSoundTone 64 c.tone
    → IsSoundTone 64 (wave_controlled value starts c).tone
wave-controlled-sound value true c h = wave-started-sound (record c { control = value })
wave-controlled-sound value false c h = h

noise-controlled-sound : (value : ℕ) (starts : Bool) (c : Noise) → IsSoundTone 0x8000 c.tone
    → IsSoundTone 0x8000 (noise_controlled value starts c).tone
noise-controlled-sound value true c h = noise-started-sound (record c { control = value })
noise-controlled-sound value false c h = h

pub reset-sound : (p : ℕ) → 0 < p → IsSoundTone p tone_at_reset
reset-sound p some = record {
  place = some;
  wait = omega arith;
  left = omega arith;
  volume = omega arith;
  fade = omega arith;
  sweep = omega arith;
  shadow = omega arith;
  waits = λ e. cc;
  lasts = λ e. cc;
}

-- the four of tones that are on
record AreFour (ts : FourTones) : Type 0 where
  is_on : ts.is_on ≡ true
  sequencer : ts.sequencer < 0x40000
  square1 : IsSoundTone 8 ts.square1.tone
  square2 : IsSoundTone 8 ts.square2.tone
  wave : IsSoundTone 64 ts.wave.tone
  noise : IsSoundTone 0x8000 ts.noise.tone

pub differ : true ≡ false → ⊥
differ e = cc

four-sound : (ts : FourTones) → AreFour ts → AreSound ts
four-sound ts h = record {
  sequencer = h.sequencer;
  square1 = h.square1;
  square2 = h.square2;
  wave = h.wave;
  noise = h.noise;
  off = λ e. absurd (differ (sym h.is_on ∙ e));
}

sound-four : (ts : FourTones) → ts.is_on ≡ true → AreSound ts → AreFour ts
sound-four ts on h = record {
  is_on = on;
  sequencer = h.sequencer;
  square1 = h.square1;
  square2 = h.square2;
  wave = h.wave;
  noise = h.noise;
}

counted-four : (ts : FourTones) → AreFour ts → AreFour (counted ts)
counted-four ts h = record {
  is_on = h.is_on;
  sequencer = mod_below (ts.sequencer + 1) 0x40000 (omega arith);
  square1 = h.square1;
  square2 = h.square2;
  wave = h.wave;
  noise = h.noise;
}

lengths-four : (ts : FourTones) → AreFour ts → AreFour (after_lengths ts)
lengths-four ts h = record {
  is_on = h.is_on;
  sequencer = h.sequencer;
  square1 = length-sound 8 (square_timed ts.square1) ts.square1.tone h.square1;
  square2 = length-sound 8 (square_timed ts.square2) ts.square2.tone h.square2;
  wave = length-sound 64 (wave_timed ts.wave) ts.wave.tone h.wave;
  noise = length-sound 0x8000 (noise_timed ts.noise) ts.noise.tone h.noise;
}

sweeps-four : (ts : FourTones) → AreFour ts → AreFour (after_sweeps ts)
sweeps-four ts h = record {
  is_on = h.is_on;
  sequencer = h.sequencer;
  square1 = sweep-sound ts.sweep ts.square1 h.square1;
  square2 = h.square2;
  wave = h.wave;
  noise = h.noise;
}

envelopes-four : (ts : FourTones) → AreFour ts → AreFour (after_envelopes ts)
envelopes-four ts h = record {
  is_on = h.is_on;
  sequencer = h.sequencer;
  square1 = envelope-sound 8 ts.square1.shape ts.square1.tone h.square1;
  square2 = envelope-sound 8 ts.square2.shape ts.square2.tone h.square2;
  wave = h.wave;
  noise = envelope-sound 0x8000 ts.noise.shape ts.noise.tone h.noise;
}

moved-four : (ts : FourTones) → AreFour ts → AreFour (moved ts)
moved-four ts h = record {
  is_on = h.is_on;
  sequencer = h.sequencer;
  square1 = square-moved-sound ts.square1 h.square1;
  square2 = square-moved-sound ts.square2 h.square2;
  wave = wave-moved-sound ts.wave h.wave;
  noise = noise-moved-sound ts.noise h.noise;
}

ticked-four : (ts : FourTones) → AreFour ts → AreFour (ticked ts)
unfolding ticked
ticked-four ts h =
    let lengths = either AreFour (nat_eq (ts.sequencer % 0x10000) 0) (after_lengths ts) ts (lengths-four ts h) h in
    let first = with_lengths ts in
    let sweeps =
    either AreFour (nat_eq (first.sequencer % 0x20000) 0) (after_sweeps first) first (sweeps-four first lengths)
    lengths in
    let second = with_sweeps first in
    either AreFour (nat_eq second.sequencer 0) (after_envelopes second) second (envelopes-four second sweeps) sweeps

pub counted-sound : (ts : FourTones) → ts.is_on ≡ true → AreSound ts → AreSound (counted ts)
counted-sound ts on h = four-sound (counted ts) (counted-four ts (sound-four ts on h))

pub ticked-sound : (ts : FourTones) → ts.is_on ≡ true → AreSound ts → AreSound (ticked ts)
ticked-sound ts on h = four-sound (ticked ts) (ticked-four ts (sound-four ts on h))

cycle-sound-by : (ts : FourTones) (on : Bool) → ts.is_on ≡ on → AreSound ts → AreSound (cycle ts)
cycle-sound-by ts true on h =
    subst AreSound (sym (cycle-on ts on))
    (four-sound (moved (ticked (counted ts)))
    (moved-four (ticked (counted ts)) (ticked-four (counted ts) (counted-four ts (sound-four ts on h)))))
cycle-sound-by ts false off h = subst AreSound (sym (cycle-off ts off)) h

pub cycle-sound : (ts : FourTones) → AreSound ts → AreSound (cycle ts)
cycle-sound ts h = cycle-sound-by ts ts.is_on refl h

pub cycles-sound : (count : ℕ) (ts : FourTones) → AreSound ts → AreSound (after_cycles count ts)
unfolding after_cycles
cycles-sound zero ts h = h
cycles-sound (suc count) ts h = cycle-sound (after_cycles count ts) (cycles-sound count ts h)

-- a write
same-tones : (ts after : FourTones) → AreFour ts → after.is_on ≡ ts.is_on → after.sequencer ≡ ts.sequencer
    → after.square1.tone ≡ ts.square1.tone → after.square2.tone ≡ ts.square2.tone
    → after.wave.tone ≡ ts.wave.tone → after.noise.tone ≡ ts.noise.tone → AreFour after
same-tones ts after h on s a b c d = record {
  is_on = on ∙ h.is_on;
  sequencer = subst (λ n. n < 0x40000) (sym s) h.sequencer;
  square1 = subst (IsSoundTone 8) (sym a) h.square1;
  square2 = subst (IsSoundTone 8) (sym b) h.square2;
  wave = subst (IsSoundTone 64) (sym c) h.wave;
  noise = subst (IsSoundTone 0x8000) (sym d) h.noise;
}

channel-four : (offset value : ℕ) (starts : Bool) (ts : FourTones) → AreFour ts
    → AreFour (tone_set offset value starts ts)
channel-four offset value starts ts h =
    either AreFour (nat_eq offset 0x060) (record ts { sweep = value }) _
    (same-tones ts (record ts { sweep = value }) h refl refl refl refl refl refl)
    (either AreFour (nat_eq offset 0x062) (record ts { square1 = record ts.square1 { shape = value } }) _
    (same-tones ts (record ts { square1 = record ts.square1 { shape = value } }) h refl refl refl refl refl refl)
    (either AreFour (nat_eq offset 0x064) (record ts { square1 = square_controlled ts.sweep value starts ts.square1 }) _
    (record {
      is_on = h.is_on;
      sequencer = h.sequencer;
      square1 = square-controlled-sound ts.sweep value starts ts.square1 h.square1;
      square2 = h.square2;
      wave = h.wave;
      noise = h.noise;
    })
    (either AreFour (nat_eq offset 0x068) (record ts { square2 = record ts.square2 { shape = value } }) _
    (same-tones ts (record ts { square2 = record ts.square2 { shape = value } }) h refl refl refl refl refl refl)
    (either AreFour (nat_eq offset 0x06c) (record ts { square2 = square_controlled 0 value starts ts.square2 }) _
    (record {
      is_on = h.is_on;
      sequencer = h.sequencer;
      square1 = h.square1;
      square2 = square-controlled-sound 0 value starts ts.square2 h.square2;
      wave = h.wave;
      noise = h.noise;
    })
    (either AreFour (nat_eq offset 0x070) (record ts { wave = record ts.wave { select = value } }) _
    (same-tones ts (record ts { wave = record ts.wave { select = value } }) h refl refl refl refl refl refl)
    (either AreFour (nat_eq offset 0x072) (record ts { wave = record ts.wave { level = value } }) _
    (same-tones ts (record ts { wave = record ts.wave { level = value } }) h refl refl refl refl refl refl)
    (either AreFour (nat_eq offset 0x074) (record ts { wave = wave_controlled value starts ts.wave }) _
    (record {
      is_on = h.is_on;
      sequencer = h.sequencer;
      square1 = h.square1;
      square2 = h.square2;
      wave = wave-controlled-sound value starts ts.wave h.wave;
      noise = h.noise;
    })
    (either AreFour (nat_eq offset 0x078) (record ts { noise = record ts.noise { shape = value } }) _
    (same-tones ts (record ts { noise = record ts.noise { shape = value } }) h refl refl refl refl refl refl)
    (either AreFour (nat_eq offset 0x07c) (record ts { noise = noise_controlled value starts ts.noise }) _
    (record {
      is_on = h.is_on;
      sequencer = h.sequencer;
      square1 = h.square1;
      square2 = h.square2;
      wave = h.wave;
      noise = noise-controlled-sound value starts ts.noise h.noise;
    })
    (either AreFour (nat_eq offset 0x080) (record ts { mixer = value }) ts
    (same-tones ts (record ts { mixer = value }) h refl refl refl refl refl refl) h))))))))))

channel-sound-by : (offset value : ℕ) (starts on : Bool) (ts : FourTones) → ts.is_on ≡ on → AreSound ts
    → AreSound (if on then tone_set offset value starts ts else ts)
channel-sound-by offset value starts true ts on h =
    four-sound (tone_set offset value starts ts) (channel-four offset value starts ts (sound-four ts on h))
channel-sound-by offset value starts false ts off h = h

-- bytes of the wave, and the ratio
wave-stays-clear : (place value : ℕ) (w : Wave) → w ≡ wave_cleared w
    → with_wave_half place value w ≡ wave_cleared (with_wave_half place value w)
wave-stays-clear place value w e =
    λ i. record (with_wave_half place value w) {
      tone = (e i).tone;
      select = (e i).select;
      level = (e i).level;
      control = (e i).control;
    }

wave-stored-sound : (place value : ℕ) (ts : FourTones) → AreSound ts
    → AreSound (record ts { wave = with_wave_half place value ts.wave })
wave-stored-sound place value ts h = record {
  sequencer = h.sequencer;
  square1 = h.square1;
  square2 = h.square2;
  wave = h.wave;
  noise = h.noise;
  off = λ e.
      let clear = wave-stays-clear place value ts.wave (ap (λ (t : FourTones). t.wave) (h.off e)) in
      λ i. record (h.off e i) { wave = clear i };
}

ratio-sound : (value : ℕ) (ts : FourTones) → AreSound ts → AreSound (record ts { ratio = value })
ratio-sound value ts h = record {
  sequencer = h.sequencer;
  square1 = h.square1;
  square2 = h.square2;
  wave = h.wave;
  noise = h.noise;
  off = λ e. λ i. record (h.off e i) { ratio = value };
}

-- the master enable
cleared-sound : (ts : FourTones) → AreSound (cleared ts)
cleared-sound ts = record {
  sequencer = omega arith;
  square1 = reset-sound 8 (omega arith);
  square2 = reset-sound 8 (omega arith);
  wave = reset-sound 64 (omega arith);
  noise = reset-sound 0x8000 (omega arith);
  off = λ e. refl;
}

mastered-sound : (on : Bool) (ts : FourTones) → AreSound ts → AreSound (mastered on ts)
mastered-sound true ts h = record {
  sequencer = h.sequencer;
  square1 = h.square1;
  square2 = h.square2;
  wave = h.wave;
  noise = h.noise;
  off = λ e. absurd (differ e);
}
mastered-sound false ts h = cleared-sound ts

pub stored-sound : (offset value : ℕ) (starts : Bool) (ts : FourTones) → AreSound ts
    → AreSound (tones_set offset value starts ts)
stored-sound offset value starts ts h =
    either AreSound (is_wave_offset offset) (record ts { wave = with_wave_half (wave_place offset) value ts.wave }) _
    (wave-stored-sound (wave_place offset) value ts h)
    (either AreSound (nat_eq offset 0x082) (record ts { ratio = value }) _ (ratio-sound value ts h)
    (either AreSound (nat_eq offset 0x084) (mastered (bit value 7) ts) _ (mastered-sound (bit value 7) ts h)
    (channel-sound-by offset value starts ts.is_on ts refl h)))

written-sound : (offset value : ℕ) (ts : FourTones) → AreSound ts → AreSound (tones_written offset value ts)
unfolding tones_written
written-sound offset value ts h =
    stored-sound offset (bit_and value (row_at tone_rows offset).write_mask) (bit value 15) ts h

pub reset-is-sound : AreSound tones_at_reset
reset-is-sound = cleared-sound tones_at_reset

pub stays-sound : StaysSound
stays-sound = record { reset = reset-is-sound; write = written-sound; cycle = cycle-sound; cycles = cycles-sound }
