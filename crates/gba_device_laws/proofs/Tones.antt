-- What the tone channels keep.
use Rattle.std.proofs.Common.{◌≡◌, ◌≢◌, ℕ, ◌^◌, ◌<◌, ◌+◌, ◌/◌, ◌%◌, ◌==◌, Bool, true, false, not, List, set, refl, ap, subst, sym, ◌∙◌, arith, mod-eq_of_lt, if◌then◌else◌}
use Rattle.std.specs.Prelude.{bit_and}
use lib.Bits.{and_zero_l}
use Rattle.std.proofs.lemmas.Bool.Decides.{nat_tests}
use Rattle.std.proofs.lemmas.Nat.{and_mask, and_mod, and_shr}
use Rattle.gba_terms.specs.Bits.{bit, field}
use Rattle.gba_terms.specs.Bytes.{AreBytes}
use Rattle.gba_register.specs.Rows.{row_at}
use Rattle.gba_psg.specs.Noise.{noise_controlled}
use Rattle.gba_psg.specs.Registers.{tone_set, is_wave_offset, mastered, tone_rows, tones_kept, tones_set, tones_written, wave_place}
use Rattle.gba_psg.specs.Tone.{lowered}
use Rattle.gba_psg.specs.Soundness.{AreSound, StaysSound}
use Rattle.gba_psg.specs.Square.{after_sweep, square_controlled, square_swept, sweep_time, swept, takes_swept, with_frequency, with_sweep_left}
use Rattle.gba_psg.specs.Tones.{after_envelopes, after_lengths, after_sweeps, counted, cycle, moved, ticked, tones_at_reset, with_lengths, with_sweeps}
use Rattle.gba_psg.specs.Wave.{half_set, other_bank, wave_controlled, wave_half, with_wave_half}
use Rattle.gba_psg.specs.declared.four.FourTones.{FourTones}
use Rattle.gba_psg.specs.declared.square.Square.{Square}
use Rattle.gba_psg.specs.declared.wave.Wave.{Wave}
use Rattle.gba_device_laws.specs.Holding.{HasBytes, HasStoredBits, TonesHold}
use Rattle.gba_device_laws.proofs.Bytes.{byte-at, has-replicate, has-set}
use Rattle.gba_device_laws.proofs.Masks.{and-twice, at-place, nothing-stored}

-- another frequency leaves whether the length is timed
frequency-bits : (frequency control : ℕ) → frequency < 2048 → bit_and control 0x47ff ≡ control
    → bit_and (with_frequency frequency control) 0x47ff ≡ with_frequency frequency control
frequency-bits frequency control small stored =
    let whole = with_frequency frequency control in
    let high_is : whole / 2 ^ 11 ≡ control / 2 ^ 11 = omega (arith, small) in
    let low_is : whole % 2 ^ 11 ≡ frequency = omega (arith, small) in
    let high : bit_and whole 0x47ff / 2 ^ 11 ≡ control / 2 ^ 11 =
    and_shr whole 0x47ff 11 ∙ ap (λ n. bit_and n (0x47ff / 2 ^ 11)) high_is ∙ sym (and_shr control 0x47ff 11)
    ∙ ap (λ n. n / 2 ^ 11) stored in
    let low : bit_and whole 0x47ff % 2 ^ 11 ≡ frequency =
    and_mod whole 0x47ff 11 ∙ ap (λ n. bit_and n (0x47ff % 2 ^ 11)) low_is ∙ and_mask frequency 11
    ∙ mod-eq_of_lt small in
    omega (arith, high, low, small)

-- the halfwords of the channels, as they are stored
record AreRegisters (ts : FourTones) : Type 0 where
  sweep : bit_and ts.sweep 0x007f ≡ ts.sweep
  shape1 : bit_and ts.square1.shape 0xffff ≡ ts.square1.shape
  control1 : bit_and ts.square1.control 0x47ff ≡ ts.square1.control
  shape2 : bit_and ts.square2.shape 0xffff ≡ ts.square2.shape
  control2 : bit_and ts.square2.control 0x47ff ≡ ts.square2.control
  select : bit_and ts.wave.select 0x00e0 ≡ ts.wave.select
  level : bit_and ts.wave.level 0xe0ff ≡ ts.wave.level
  control3 : bit_and ts.wave.control 0x47ff ≡ ts.wave.control
  shape4 : bit_and ts.noise.shape 0xff3f ≡ ts.noise.shape
  control4 : bit_and ts.noise.control 0x40ff ≡ ts.noise.control
  mixer : bit_and ts.mixer 0xff77 ≡ ts.mixer
  ratio : bit_and ts.ratio 0x0003 ≡ ts.ratio
  bank0 : HasBytes 16 ts.wave.bank0
  bank1 : HasBytes 16 ts.wave.bank1

abbrev registers_kept : FourTones → ℕ → ℕ
registers_kept ts at = if at == 0x084 then 0 else tones_kept at ts

are-registers : (ts : FourTones) → HasBytes 16 ts.wave.bank0 → HasBytes 16 ts.wave.bank1
    → HasStoredBits tone_rows (registers_kept ts) → AreRegisters ts
unfolding tone_rows row_at
are-registers ts bank0 bank1 stored = record {
  sweep = stored 0x060;
  shape1 = stored 0x062;
  control1 = stored 0x064;
  shape2 = stored 0x068;
  control2 = stored 0x06c;
  select = stored 0x070;
  level = stored 0x072;
  control3 = stored 0x074;
  shape4 = stored 0x078;
  control4 = stored 0x07c;
  mixer = stored 0x080;
  ratio = stored 0x082;
  bank0 = bank0;
  bank1 = bank1;
}

other-bytes : (second : Bool) (w : Wave) → AreBytes w.bank0 → AreBytes w.bank1
    → AreBytes (if second then w.bank1 else w.bank0)
other-bytes true w bank0 bank1 = bank1
other-bytes false w bank0 bank1 = bank0

wave-half-stored : (place : ℕ) (w : Wave) → AreBytes w.bank0 → AreBytes w.bank1
    → bit_and (wave_half place w) 0xffff ≡ wave_half place w
wave-half-stored place w bank0 bank1 =
    let bytes = other-bytes (not (bit w.select 6)) w bank0 bank1 in
    let low = byte-at (other_bank w) place bytes in
    let high = byte-at (other_bank w) (place + 1) bytes in
    and_mask (wave_half place w) 16 ∙ mod-eq_of_lt (omega (arith, low, high))

registers-stored : (ts : FourTones) → AreRegisters ts → HasStoredBits tone_rows (registers_kept ts)
unfolding tone_rows row_at
registers-stored ts is at =
    let holds : ℕ → Type 0 = λ k. bit_and (registers_kept ts k) (row_at tone_rows k).write_mask ≡ registers_kept ts k in
    let wave : (place : ℕ) → bit_and (wave_half place ts.wave) 0xffff ≡ wave_half place ts.wave =
    λ place. wave-half-stored place ts.wave is.bank0.bytes is.bank1.bytes in
    at-place holds 0x060 at is.sweep (λ n0. at-place holds 0x062 at is.shape1 (λ n1. at-place holds 0x064 at is.control1
    (λ n2. at-place holds 0x068 at is.shape2
    (λ n3. at-place holds 0x06c at is.control2 (λ n4. at-place holds 0x070 at is.select
    (λ n5. at-place holds 0x072 at is.level
    (λ n6. at-place holds 0x074 at is.control3 (λ n7. at-place holds 0x078 at is.shape4
    (λ n8. at-place holds 0x07c at is.control4
    (λ n9. at-place holds 0x080 at is.mixer (λ n10. at-place holds 0x082 at is.ratio
    (λ n11. at-place holds 0x084 at (and_zero_l 0x0080) (λ n12. at-place holds 0x090 at (wave 0x0)
    (λ n13. at-place holds 0x092 at (wave 0x2)
    (λ n14. at-place holds 0x094 at (wave 0x4) (λ n15. at-place holds 0x096 at (wave 0x6)
    (λ n16. at-place holds 0x098 at (wave 0x8)
    (λ n17. at-place holds 0x09a at (wave 0xa) (λ n18. at-place holds 0x09c at (wave 0xc)
    (λ n19. at-place holds 0x09e at (wave 0xe)
    (λ n20. nothing-stored (registers_kept ts at) (row_at tone_rows at).write_mask
    (none at n0 n1 n2 n3 n4 n5 n6 n7 n8 n9 n10 n11 n12 n13 n14 n15 n16 n17 n18 n19 n20))))))))))))))))))))))
  where
    none : (k : ℕ) → k ≢ 0x060 → k ≢ 0x062 → k ≢ 0x064 → k ≢ 0x068 → k ≢ 0x06c → k ≢ 0x070 → k ≢ 0x072 → k ≢ 0x074
        → k ≢ 0x078 → k ≢ 0x07c → k ≢ 0x080 → k ≢ 0x082 → k ≢ 0x084 → k ≢ 0x090 → k ≢ 0x092 → k ≢ 0x094 → k ≢ 0x096
        → k ≢ 0x098 → k ≢ 0x09a → k ≢ 0x09c → k ≢ 0x09e → registers_kept ts k ≡ 0
    none k n0 n1 n2 n3 n4 n5 n6 n7 n8 n9 n10 n11 n12 n13 n14 n15 n16 n17 n18 n19 n20 =
        grind (
          arith,
          nat_tests,
          n0,
          n1,
          n2,
          n3,
          n4,
          n5,
          n6,
          n7,
          n8,
          n9,
          n10,
          n11,
          n12,
          n13,
          n14,
          n15,
          n16,
          n17,
          n18,
          n19,
          n20,
        )

either-registers : (test : Bool) (one other : FourTones) → AreRegisters one → AreRegisters other
    → AreRegisters (if test then one else other)
either-registers true one other first second = first
either-registers false one other first second = second

half-bytes : (place value : ℕ) (bank : List ℕ) → HasBytes 16 bank → HasBytes 16 (half_set place value bank)
half-bytes place value bank has =
    has-set 16 (set bank place (field value 0 8)) (place + 1) (field value 8 8)
    (has-set 16 bank place (field value 0 8) has (omega arith)) (omega arith)

either-bytes : (test : Bool) (one other : List ℕ) → HasBytes 16 one → HasBytes 16 other
    → HasBytes 16 (if test then one else other)
either-bytes true one other first second = first
either-bytes false one other first second = second

module _ (ts : FourTones) (is : AreRegisters ts) where
  wave-registers : (place value : ℕ) → AreRegisters (record ts { wave = with_wave_half place value ts.wave })
  wave-registers place value = record {
    sweep = is.sweep;
    shape1 = is.shape1;
    control1 = is.control1;
    shape2 = is.shape2;
    control2 = is.control2;
    select = is.select;
    level = is.level;
    control3 = is.control3;
    shape4 = is.shape4;
    control4 = is.control4;
    mixer = is.mixer;
    ratio = is.ratio;
    bank0 =
        either-bytes (bit ts.wave.select 6) (half_set place value ts.wave.bank0) ts.wave.bank0
        (half-bytes place value ts.wave.bank0 is.bank0) is.bank0;
    bank1 =
        either-bytes (bit ts.wave.select 6) ts.wave.bank1 (half_set place value ts.wave.bank1) is.bank1
        (half-bytes place value ts.wave.bank1 is.bank1);
  }

  sweep-registers : (value : ℕ) → AreRegisters (record ts { sweep = bit_and value 0x007f })
  sweep-registers value = record {
    sweep = and-twice value 0x007f;
    shape1 = is.shape1;
    control1 = is.control1;
    shape2 = is.shape2;
    control2 = is.control2;
    select = is.select;
    level = is.level;
    control3 = is.control3;
    shape4 = is.shape4;
    control4 = is.control4;
    mixer = is.mixer;
    ratio = is.ratio;
    bank0 = is.bank0;
    bank1 = is.bank1;
  }

  shape1-registers : (value : ℕ)
      → AreRegisters (record ts { square1 = record ts.square1 { shape = bit_and value 0xffff } })
  shape1-registers value = record {
    shape1 = and-twice value 0xffff;
    sweep = is.sweep;
    control1 = is.control1;
    shape2 = is.shape2;
    control2 = is.control2;
    select = is.select;
    level = is.level;
    control3 = is.control3;
    shape4 = is.shape4;
    control4 = is.control4;
    mixer = is.mixer;
    ratio = is.ratio;
    bank0 = is.bank0;
    bank1 = is.bank1;
  }

  control1-registers : (value : ℕ) (starts : Bool)
      → AreRegisters (record ts { square1 = square_controlled ts.sweep (bit_and value 0x47ff) starts ts.square1 })
  control1-registers value true = record {
    control1 = and-twice value 0x47ff;
    sweep = is.sweep;
    shape1 = is.shape1;
    shape2 = is.shape2;
    control2 = is.control2;
    select = is.select;
    level = is.level;
    control3 = is.control3;
    shape4 = is.shape4;
    control4 = is.control4;
    mixer = is.mixer;
    ratio = is.ratio;
    bank0 = is.bank0;
    bank1 = is.bank1;
  }
  control1-registers value false = record {
    control1 = and-twice value 0x47ff;
    sweep = is.sweep;
    shape1 = is.shape1;
    shape2 = is.shape2;
    control2 = is.control2;
    select = is.select;
    level = is.level;
    control3 = is.control3;
    shape4 = is.shape4;
    control4 = is.control4;
    mixer = is.mixer;
    ratio = is.ratio;
    bank0 = is.bank0;
    bank1 = is.bank1;
  }

  shape2-registers : (value : ℕ)
      → AreRegisters (record ts { square2 = record ts.square2 { shape = bit_and value 0xffff } })
  shape2-registers value = record {
    shape2 = and-twice value 0xffff;
    sweep = is.sweep;
    shape1 = is.shape1;
    control1 = is.control1;
    control2 = is.control2;
    select = is.select;
    level = is.level;
    control3 = is.control3;
    shape4 = is.shape4;
    control4 = is.control4;
    mixer = is.mixer;
    ratio = is.ratio;
    bank0 = is.bank0;
    bank1 = is.bank1;
  }

  control2-registers : (value : ℕ) (starts : Bool)
      → AreRegisters (record ts { square2 = square_controlled 0 (bit_and value 0x47ff) starts ts.square2 })
  control2-registers value true = record {
    control2 = and-twice value 0x47ff;
    sweep = is.sweep;
    shape1 = is.shape1;
    control1 = is.control1;
    shape2 = is.shape2;
    select = is.select;
    level = is.level;
    control3 = is.control3;
    shape4 = is.shape4;
    control4 = is.control4;
    mixer = is.mixer;
    ratio = is.ratio;
    bank0 = is.bank0;
    bank1 = is.bank1;
  }
  control2-registers value false = record {
    control2 = and-twice value 0x47ff;
    sweep = is.sweep;
    shape1 = is.shape1;
    control1 = is.control1;
    shape2 = is.shape2;
    select = is.select;
    level = is.level;
    control3 = is.control3;
    shape4 = is.shape4;
    control4 = is.control4;
    mixer = is.mixer;
    ratio = is.ratio;
    bank0 = is.bank0;
    bank1 = is.bank1;
  }

  select-registers : (value : ℕ) → AreRegisters (record ts { wave = record ts.wave { select = bit_and value 0x00e0 } })
  select-registers value = record {
    select = and-twice value 0x00e0;
    sweep = is.sweep;
    shape1 = is.shape1;
    control1 = is.control1;
    shape2 = is.shape2;
    control2 = is.control2;
    level = is.level;
    control3 = is.control3;
    shape4 = is.shape4;
    control4 = is.control4;
    mixer = is.mixer;
    ratio = is.ratio;
    bank0 = is.bank0;
    bank1 = is.bank1;
  }

  level-registers : (value : ℕ) → AreRegisters (record ts { wave = record ts.wave { level = bit_and value 0xe0ff } })
  level-registers value = record {
    level = and-twice value 0xe0ff;
    sweep = is.sweep;
    shape1 = is.shape1;
    control1 = is.control1;
    shape2 = is.shape2;
    control2 = is.control2;
    select = is.select;
    control3 = is.control3;
    shape4 = is.shape4;
    control4 = is.control4;
    mixer = is.mixer;
    ratio = is.ratio;
    bank0 = is.bank0;
    bank1 = is.bank1;
  }

  control3-registers : (value : ℕ) (starts : Bool)
      → AreRegisters (record ts { wave = wave_controlled (bit_and value 0x47ff) starts ts.wave })
  control3-registers value true = record {
    control3 = and-twice value 0x47ff;
    sweep = is.sweep;
    shape1 = is.shape1;
    control1 = is.control1;
    shape2 = is.shape2;
    control2 = is.control2;
    select = is.select;
    level = is.level;
    shape4 = is.shape4;
    control4 = is.control4;
    mixer = is.mixer;
    ratio = is.ratio;
    bank0 = is.bank0;
    bank1 = is.bank1;
  }
  control3-registers value false = record {
    control3 = and-twice value 0x47ff;
    sweep = is.sweep;
    shape1 = is.shape1;
    control1 = is.control1;
    shape2 = is.shape2;
    control2 = is.control2;
    select = is.select;
    level = is.level;
    shape4 = is.shape4;
    control4 = is.control4;
    mixer = is.mixer;
    ratio = is.ratio;
    bank0 = is.bank0;
    bank1 = is.bank1;
  }

  shape4-registers : (value : ℕ) → AreRegisters (record ts { noise = record ts.noise { shape = bit_and value 0xff3f } })
  shape4-registers value = record {
    shape4 = and-twice value 0xff3f;
    sweep = is.sweep;
    shape1 = is.shape1;
    control1 = is.control1;
    shape2 = is.shape2;
    control2 = is.control2;
    select = is.select;
    level = is.level;
    control3 = is.control3;
    control4 = is.control4;
    mixer = is.mixer;
    ratio = is.ratio;
    bank0 = is.bank0;
    bank1 = is.bank1;
  }

  control4-registers : (value : ℕ) (starts : Bool)
      → AreRegisters (record ts { noise = noise_controlled (bit_and value 0x40ff) starts ts.noise })
  control4-registers value true = record {
    control4 = and-twice value 0x40ff;
    sweep = is.sweep;
    shape1 = is.shape1;
    control1 = is.control1;
    shape2 = is.shape2;
    control2 = is.control2;
    select = is.select;
    level = is.level;
    control3 = is.control3;
    shape4 = is.shape4;
    mixer = is.mixer;
    ratio = is.ratio;
    bank0 = is.bank0;
    bank1 = is.bank1;
  }
  control4-registers value false = record {
    control4 = and-twice value 0x40ff;
    sweep = is.sweep;
    shape1 = is.shape1;
    control1 = is.control1;
    shape2 = is.shape2;
    control2 = is.control2;
    select = is.select;
    level = is.level;
    control3 = is.control3;
    shape4 = is.shape4;
    mixer = is.mixer;
    ratio = is.ratio;
    bank0 = is.bank0;
    bank1 = is.bank1;
  }

  mixer-registers : (value : ℕ) → AreRegisters (record ts { mixer = bit_and value 0xff77 })
  mixer-registers value = record {
    mixer = and-twice value 0xff77;
    sweep = is.sweep;
    shape1 = is.shape1;
    control1 = is.control1;
    shape2 = is.shape2;
    control2 = is.control2;
    select = is.select;
    level = is.level;
    control3 = is.control3;
    shape4 = is.shape4;
    control4 = is.control4;
    ratio = is.ratio;
    bank0 = is.bank0;
    bank1 = is.bank1;
  }

  ratio-registers : (value : ℕ) → AreRegisters (record ts { ratio = bit_and value 0x0003 })
  ratio-registers value = record {
    ratio = and-twice value 0x0003;
    sweep = is.sweep;
    shape1 = is.shape1;
    control1 = is.control1;
    shape2 = is.shape2;
    control2 = is.control2;
    select = is.select;
    level = is.level;
    control3 = is.control3;
    shape4 = is.shape4;
    control4 = is.control4;
    mixer = is.mixer;
    bank0 = is.bank0;
    bank1 = is.bank1;
  }

  mastered-registers : (on : Bool) → AreRegisters (mastered on ts)
  mastered-registers true = record {
    sweep = is.sweep;
    shape1 = is.shape1;
    control1 = is.control1;
    shape2 = is.shape2;
    control2 = is.control2;
    select = is.select;
    level = is.level;
    control3 = is.control3;
    shape4 = is.shape4;
    control4 = is.control4;
    mixer = is.mixer;
    ratio = is.ratio;
    bank0 = is.bank0;
    bank1 = is.bank1;
  }
  mastered-registers false = record {
    sweep = refl;
    shape1 = refl;
    control1 = refl;
    shape2 = refl;
    control2 = refl;
    select = refl;
    level = refl;
    control3 = refl;
    shape4 = refl;
    control4 = refl;
    mixer = refl;
    ratio = is.ratio;
    bank0 = is.bank0;
    bank1 = is.bank1;
  }

  registers-write : (offset value : ℕ) → AreRegisters (tones_written offset value ts)
  unfolding tones_written tone_rows row_at
  registers-write offset value =
      let after : ℕ → Type 0 = λ k. AreRegisters (tones_written k value ts) in
      let on : (one : FourTones) → AreRegisters one → AreRegisters (if ts.is_on then one else ts) =
      λ one first. either-registers ts.is_on one ts first is in
      let starts = bit value 15 in
      at-place after 0x060 offset (on _ (sweep-registers value))
      (λ n0. at-place after 0x062 offset (on _ (shape1-registers value))
      (λ n1. at-place after 0x064 offset (on _ (control1-registers value starts))
      (λ n2. at-place after 0x068 offset (on _ (shape2-registers value))
      (λ n3. at-place after 0x06c offset (on _ (control2-registers value starts))
      (λ n4. at-place after 0x070 offset (on _ (select-registers value))
      (λ n5. at-place after 0x072 offset (on _ (level-registers value))
      (λ n6. at-place after 0x074 offset (on _ (control3-registers value starts))
      (λ n7. at-place after 0x078 offset (on _ (shape4-registers value))
      (λ n8. at-place after 0x07c offset (on _ (control4-registers value starts))
      (λ n9. at-place after 0x080 offset (on _ (mixer-registers value))
      (λ n10. at-place after 0x082 offset (ratio-registers value)
      (λ n11. at-place after 0x084 offset (mastered-registers (bit (bit_and value 0x0080) 7))
      (λ n12. elsewhere (is_wave_offset offset) (bit_and value (row_at tone_rows offset).write_mask) refl
      n0 n1 n2 n3 n4 n5 n6 n7 n8 n9 n10 n11 n12)))))))))))))
    where
      elsewhere : (wave : Bool) (number : ℕ) → is_wave_offset offset ≡ wave → offset ≢ 0x060 → offset ≢ 0x062
          → offset ≢ 0x064 → offset ≢ 0x068 → offset ≢ 0x06c → offset ≢ 0x070 → offset ≢ 0x072 → offset ≢ 0x074
          → offset ≢ 0x078 → offset ≢ 0x07c → offset ≢ 0x080 → offset ≢ 0x082 → offset ≢ 0x084
          → AreRegisters (tones_set offset number (bit value 15) ts)
      elsewhere true number here n0 n1 n2 n3 n4 n5 n6 n7 n8 n9 n10 n11 n12 =
          subst (λ t. AreRegisters (if t then record ts { wave = with_wave_half (wave_place offset) number ts.wave }
          else if offset == 0x082 then record ts { ratio = number }
          else if offset == 0x084 then mastered (bit number 7) ts
          else if ts.is_on then tone_set offset number (bit value 15) ts else ts)) (sym here)
          (wave-registers (wave_place offset) number)
      elsewhere false number none n0 n1 n2 n3 n4 n5 n6 n7 n8 n9 n10 n11 n12 = rw same is
        where
          same : tones_set offset number (bit value 15) ts ≡ ts
          same = grind (arith, nat_tests, none, n0, n1, n2, n3, n4, n5, n6, n7, n8, n9, n10, n11, n12)

-- a tick of the sweep
after-sweep-control : (sweep : ℕ) (c : Square) → bit_and c.control 0x47ff ≡ c.control
    → bit_and (after_sweep sweep c).control 0x47ff ≡ (after_sweep sweep c).control
after-sweep-control sweep c is = by_time (sweep_time sweep == 0) (lowered c.tone.sweep == 0)
  where
    swept-control : (d : Square) → bit_and d.control 0x47ff ≡ d.control
        → bit_and (square_swept sweep d).control 0x47ff ≡ (square_swept sweep d).control
    swept-control d was = by_taken (takes_swept sweep d.tone) refl
      where
        by_taken : (test : Bool) → takes_swept sweep d.tone ≡ test
            → bit_and (if test then with_frequency (swept sweep d.tone) d.control else d.control) 0x47ff
            ≡ (if test then with_frequency (swept sweep d.tone) d.control else d.control)
        by_taken true takes =
            let small : swept sweep d.tone < 2048 = grind (arith, nat_tests, takes) in
            frequency-bits (swept sweep d.tone) d.control small was
        by_taken false stays = was

    by_time : (none last : Bool)
        → bit_and (if none then c else if last then square_swept sweep (with_sweep_left (sweep_time sweep) c)
        else with_sweep_left (lowered c.tone.sweep) c).control 0x47ff
        ≡ (if none then c else if last then square_swept sweep (with_sweep_left (sweep_time sweep) c)
        else with_sweep_left (lowered c.tone.sweep) c).control
    by_time true last = is
    by_time false true = swept-control (with_sweep_left (sweep_time sweep) c) is
    by_time false false = is

after-sweep-shape : (sweep : ℕ) (c : Square) → (after_sweep sweep c).shape ≡ c.shape
after-sweep-shape sweep c = by_time (sweep_time sweep == 0) (lowered c.tone.sweep == 0)
  where
    by_time : (none last : Bool)
        → (if none then c else if last then square_swept sweep (with_sweep_left (sweep_time sweep) c)
        else with_sweep_left (lowered c.tone.sweep) c).shape ≡ c.shape
    by_time true last = refl
    by_time false true = refl
    by_time false false = refl

sweeps-registers : (ts : FourTones) → AreRegisters ts → AreRegisters (after_sweeps ts)
sweeps-registers ts is = record {
  shape1 = rw (after-sweep-shape ts.sweep ts.square1) is.shape1;
  control1 = after-sweep-control ts.sweep ts.square1 is.control1;
  sweep = is.sweep;
  shape2 = is.shape2;
  control2 = is.control2;
  select = is.select;
  level = is.level;
  control3 = is.control3;
  shape4 = is.shape4;
  control4 = is.control4;
  mixer = is.mixer;
  ratio = is.ratio;
  bank0 = is.bank0;
  bank1 = is.bank1;
}

lengths-registers : (ts : FourTones) → AreRegisters ts → AreRegisters (after_lengths ts)
lengths-registers ts is = record {
  sweep = is.sweep;
  shape1 = is.shape1;
  control1 = is.control1;
  shape2 = is.shape2;
  control2 = is.control2;
  select = is.select;
  level = is.level;
  control3 = is.control3;
  shape4 = is.shape4;
  control4 = is.control4;
  mixer = is.mixer;
  ratio = is.ratio;
  bank0 = is.bank0;
  bank1 = is.bank1;
}

envelopes-registers : (ts : FourTones) → AreRegisters ts → AreRegisters (after_envelopes ts)
envelopes-registers ts is = record {
  sweep = is.sweep;
  shape1 = is.shape1;
  control1 = is.control1;
  shape2 = is.shape2;
  control2 = is.control2;
  select = is.select;
  level = is.level;
  control3 = is.control3;
  shape4 = is.shape4;
  control4 = is.control4;
  mixer = is.mixer;
  ratio = is.ratio;
  bank0 = is.bank0;
  bank1 = is.bank1;
}

moved-registers : (ts : FourTones) → AreRegisters ts → AreRegisters (moved ts)
moved-registers ts is = record {
  sweep = is.sweep;
  shape1 = is.shape1;
  control1 = is.control1;
  shape2 = is.shape2;
  control2 = is.control2;
  select = is.select;
  level = is.level;
  control3 = is.control3;
  shape4 = is.shape4;
  control4 = is.control4;
  mixer = is.mixer;
  ratio = is.ratio;
  bank0 = is.bank0;
  bank1 = is.bank1;
}

counted-registers : (ts : FourTones) → AreRegisters ts → AreRegisters (counted ts)
counted-registers ts is = record {
  sweep = is.sweep;
  shape1 = is.shape1;
  control1 = is.control1;
  shape2 = is.shape2;
  control2 = is.control2;
  select = is.select;
  level = is.level;
  control3 = is.control3;
  shape4 = is.shape4;
  control4 = is.control4;
  mixer = is.mixer;
  ratio = is.ratio;
  bank0 = is.bank0;
  bank1 = is.bank1;
}

ticked-registers : (ts : FourTones) → AreRegisters ts → AreRegisters (ticked ts)
unfolding ticked
ticked-registers ts is =
    let lengths = either-registers (ts.sequencer % 0x10000 == 0) (after_lengths ts) ts (lengths-registers ts is) is in
    let one = with_lengths ts in
    let sweeps =
    either-registers (one.sequencer % 0x20000 == 0) (after_sweeps one) one (sweeps-registers one lengths) lengths in
    let two = with_sweeps one in
    either-registers (two.sequencer == 0) (after_envelopes two) two (envelopes-registers two sweeps) sweeps

cycle-registers : (ts : FourTones) → AreRegisters ts → AreRegisters (cycle ts)
unfolding cycle
cycle-registers ts is =
    either-registers ts.is_on (moved (ticked (counted ts))) ts
    (moved-registers (ticked (counted ts)) (ticked-registers (counted ts) (counted-registers ts is))) is

tones-of : (ts : FourTones) → AreSound ts → AreRegisters ts → TonesHold ts
tones-of ts sound is = record { sound = sound; bank0 = is.bank0; bank1 = is.bank1; stored = registers-stored ts is }

registers-of : (ts : FourTones) → TonesHold ts → AreRegisters ts
registers-of ts hold = are-registers ts hold.bank0 hold.bank1 hold.stored

module _ (soundly : StaysSound) where
  pub tones-write : (offset value : ℕ) (ts : FourTones) → TonesHold ts → TonesHold (tones_written offset value ts)
  tones-write offset value ts hold =
      tones-of (tones_written offset value ts) (soundly.write offset value ts hold.sound)
      (registers-write ts (registers-of ts hold) offset value)

  pub tones-cycle : (ts : FourTones) → TonesHold ts → TonesHold (cycle ts)
  tones-cycle ts hold = tones-of (cycle ts) (soundly.cycle ts hold.sound) (cycle-registers ts (registers-of ts hold))

  pub tones-reset : TonesHold tones_at_reset
  tones-reset =
      tones-of tones_at_reset soundly.reset (record {
        sweep = refl;
        shape1 = refl;
        control1 = refl;
        shape2 = refl;
        control2 = refl;
        select = refl;
        level = refl;
        control3 = refl;
        shape4 = refl;
        control4 = refl;
        mixer = refl;
        ratio = refl;
        bank0 = has-replicate 16 0 (omega arith);
        bank1 = has-replicate 16 0 (omega arith);
      })
