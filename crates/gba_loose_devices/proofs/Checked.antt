-- What tests that answer true say.
use Rattle.std.proofs.Common.{◌≡◌, Bool, ℕ, ◌<◌, true, false, List, slice_index, arith}
use Rattle.std.proofs.lemmas.Bool.Decides.{nat_tests}
use Rattle.gba_dma.specs.Channels.{FourChannels}
use Rattle.gba_dma.specs.Consistency.{IsEnabledRun, RunsAreEnabled}
use Rattle.gba_dma.specs.declared.channel.Channel.{Channel}
use Rattle.gba_ppu_reg.specs.Position.{IsPosition}
use Rattle.gba_ppu_reg.specs.declared.position.Position.{Position}
use Rattle.gba_terms.specs.Bits.{bit}
use Rattle.gba_psg.specs.Numbers.{tone_of, tones_of}
use Rattle.gba_psg.specs.Registers.{cleared}
use Rattle.gba_psg.specs.Soundness.{AreSound, IsSoundTone}
use Rattle.gba_psg.specs.Tone.{tone_at_reset}
use Rattle.gba_psg.specs.declared.four.FourTones.{FourTones}
use Rattle.gba_psg.specs.declared.tone.Tone.{Tone}
use Rattle.gba_psr.specs.Status.{IsStatus}
use Rattle.gba_loose_devices.specs.Checks.{are_cleared, are_enabled_runs, are_in_range, are_silent, are_sound_tones, is_enabled_run, is_position, is_silent_tone, is_sound_tone, is_status}

enabled-run : (c : Channel) → is_enabled_run c ≡ true → IsEnabledRun c
enabled-run c test = λ active. grind (arith, nat_tests, test, active)

pub enabled-runs : (cs : FourChannels) → are_enabled_runs cs ≡ true → RunsAreEnabled cs
enabled-runs cs test = record {
  channel0 = enabled-run cs.channel0 (grind (arith, nat_tests));
  channel1 = enabled-run cs.channel1 (grind (arith, nat_tests));
  channel2 = enabled-run cs.channel2 (grind (arith, nat_tests));
  channel3 = enabled-run cs.channel3 (grind (arith, nat_tests));
}

sound-tone : (places : ℕ) (t : Tone) → is_sound_tone places t ≡ true → IsSoundTone places t
unfolding is_sound_tone
sound-tone places t test = record {
  place = grind (arith, nat_tests);
  wait = grind (arith, nat_tests);
  left = grind (arith, nat_tests);
  volume = grind (arith, nat_tests);
  fade = grind (arith, nat_tests);
  sweep = grind (arith, nat_tests);
  shadow = grind (arith, nat_tests);
  waits = λ on. grind (arith, nat_tests, on);
  lasts = λ on. grind (arith, nat_tests, on);
}

tone-by : (on : Bool) (place wait left volume fade sweep shadow : ℕ) → on ≡ false → place ≡ 0 → wait ≡ 0 → left ≡ 0
    → volume ≡ 0 → fade ≡ 0 → sweep ≡ 0 → shadow ≡ 0
    → (let t : Tone =
    record {
      on = on;
      place = place;
      wait = wait;
      left = left;
      volume = volume;
      fade = fade;
      sweep = sweep;
      shadow = shadow;
    } in t)
    ≡ tone_at_reset
tone-by on place wait left volume fade sweep shadow a b c d e f g h = cc

silent-tone : (t : Tone) → is_silent_tone t ≡ true → t ≡ tone_at_reset
unfolding is_silent_tone
silent-tone t test =
    tone-by t.on t.place t.wait t.left t.volume t.fade t.sweep t.shadow (grind (arith, nat_tests))
    (grind (arith, nat_tests))
    (grind (arith, nat_tests)) (grind (arith, nat_tests)) (grind (arith, nat_tests)) (grind (arith, nat_tests))
    (grind (arith, nat_tests)) (grind (arith, nat_tests))

tones-by : (is_on : Bool)
    (sequencer sweep shape1 control1 shape2 control2 select level control3 shape4 control4 mixer ratio : ℕ)
    (tone1 tone2 tone3 tone4 : Tone) (bank0 bank1 : List ℕ) → is_on ≡ false → sequencer ≡ 0 → sweep ≡ 0 → shape1 ≡ 0
    → control1 ≡ 0 → shape2 ≡ 0 → control2 ≡ 0 → select ≡ 0 → level ≡ 0 → control3 ≡ 0 → shape4 ≡ 0 → control4 ≡ 0
    → mixer ≡ 0 → tone1 ≡ tone_at_reset → tone2 ≡ tone_at_reset → tone3 ≡ tone_at_reset → tone4 ≡ tone_at_reset
    → (let ts : FourTones = record {
      is_on = is_on;
      sequencer = sequencer;
      sweep = sweep;
      square1 = record { tone = tone1; shape = shape1; control = control1 };
      square2 = record { tone = tone2; shape = shape2; control = control2 };
      wave = record { tone = tone3; select = select; level = level; control = control3; bank0 = bank0; bank1 = bank1 };
      noise = record { tone = tone4; shape = shape4; control = control4 };
      mixer = mixer;
      ratio = ratio;
    } in ts ≡ cleared ts)
tones-by is_on sequencer sweep shape1 control1 shape2 control2 select level control3 shape4 control4 mixer ratio tone1
    tone2 tone3 tone4 bank0 bank1 a b c d e f g h i j k l m n o p q = cc

record AreZero (halves : List ℕ) : Type 0 where
  pub h0 : slice_index halves 0 ≡ 0
  pub h1 : slice_index halves 1 ≡ 0
  pub h2 : slice_index halves 2 ≡ 0
  pub h3 : slice_index halves 3 ≡ 0
  pub h4 : slice_index halves 4 ≡ 0
  pub h5 : slice_index halves 5 ≡ 0
  pub h6 : slice_index halves 6 ≡ 0
  pub h7 : slice_index halves 7 ≡ 0
  pub h8 : slice_index halves 8 ≡ 0
  pub h9 : slice_index halves 9 ≡ 0
  pub h10 : slice_index halves 10 ≡ 0

cleared-zero : (halves : List ℕ) → are_cleared halves ≡ true → AreZero halves
unfolding are_cleared
cleared-zero halves test = record {
  h0 = grind (arith, nat_tests);
  h1 = grind (arith, nat_tests);
  h2 = grind (arith, nat_tests);
  h3 = grind (arith, nat_tests);
  h4 = grind (arith, nat_tests);
  h5 = grind (arith, nat_tests);
  h6 = grind (arith, nat_tests);
  h7 = grind (arith, nat_tests);
  h8 = grind (arith, nat_tests);
  h9 = grind (arith, nat_tests);
  h10 = grind (arith, nat_tests);
}

record AreStill (numbers : List ℕ) : Type 0 where
  pub sequencer : slice_index numbers 0 ≡ 0
  pub square1 : tone_of 1 numbers ≡ tone_at_reset
  pub square2 : tone_of 9 numbers ≡ tone_at_reset
  pub wave : tone_of 17 numbers ≡ tone_at_reset
  pub noise : tone_of 25 numbers ≡ tone_at_reset

silent-still : (numbers : List ℕ) → are_silent numbers ≡ true → AreStill numbers
unfolding are_silent
silent-still numbers test = record {
  sequencer = grind (arith, nat_tests);
  square1 = silent-tone (tone_of 1 numbers) (grind (arith, nat_tests));
  square2 = silent-tone (tone_of 9 numbers) (grind (arith, nat_tests));
  wave = silent-tone (tone_of 17 numbers) (grind (arith, nat_tests));
  noise = silent-tone (tone_of 25 numbers) (grind (arith, nat_tests));
}

silent-again : (numbers bank0 bank1 halves : List ℕ) → bit (slice_index halves 12) 7 ≡ false → are_silent numbers ≡ true
    → are_cleared halves ≡ true → tones_of numbers bank0 bank1 halves ≡ cleared (tones_of numbers bank0 bank1 halves)
unfolding tones_of
silent-again numbers bank0 bank1 halves off silent cleared =
    let still = silent-still numbers silent in
    let h = cleared-zero halves cleared in
    tones-by _ _ _ _ _ _ _ _ _ _ _ _ _ (slice_index halves 11) _ _ _ _ bank0 bank1 off still.sequencer h.h0 h.h1 h.h2
    h.h3 h.h4 h.h5 h.h6 h.h7 h.h8 h.h9 h.h10 still.square1 still.square2 still.wave still.noise

record AreRanged (numbers : List ℕ) : Type 0 where
  pub sequencer : slice_index numbers 0 < 0x40000
  pub square1 : IsSoundTone 8 (tone_of 1 numbers)
  pub square2 : IsSoundTone 8 (tone_of 9 numbers)
  pub wave : IsSoundTone 64 (tone_of 17 numbers)
  pub noise : IsSoundTone 0x8000 (tone_of 25 numbers)

in-range : (numbers : List ℕ) → are_in_range numbers ≡ true → AreRanged numbers
unfolding are_in_range
in-range numbers test = record {
  sequencer = grind (arith, nat_tests);
  square1 = sound-tone 8 (tone_of 1 numbers) (grind (arith, nat_tests));
  square2 = sound-tone 8 (tone_of 9 numbers) (grind (arith, nat_tests));
  wave = sound-tone 64 (tone_of 17 numbers) (grind (arith, nat_tests));
  noise = sound-tone 0x8000 (tone_of 25 numbers) (grind (arith, nat_tests));
}

pub sound-tones : (numbers bank0 bank1 halves : List ℕ) → are_sound_tones numbers halves ≡ true
    → AreSound (tones_of numbers bank0 bank1 halves)
unfolding are_sound_tones tones_of
sound-tones numbers bank0 bank1 halves test =
    let range = in-range numbers (grind (arith, nat_tests)) in
    record {
      sequencer = range.sequencer;
      square1 = range.square1;
      square2 = range.square2;
      wave = range.wave;
      noise = range.noise;
      off =
          λ off. silent-again numbers bank0 bank1 halves off (grind (arith, nat_tests, off))
          (grind (arith, nat_tests, off));
    }

pub sound-position : (p : Position) → is_position p ≡ true → IsPosition p
sound-position p test = record { line = grind (arith, nat_tests); dot = grind (arith, nat_tests) }

pub sound-status : (status : ℕ) → is_status status ≡ true → IsStatus status
sound-status status test = record { stored = grind (arith, nat_tests); mode = grind (arith, nat_tests) }
