use Rattle.std.specs.Prelude.{◌≡◌, ℕ, ◌+◌, ◌-◌, ◌*◌, ◌/◌, ◌%◌, true, false}
use Rattle.gba_terms.specs.Bits.{bit, field}
use Rattle.gba_psg.specs.declared.four.FourTones.{FourTones}
use Rattle.gba_psg.specs.Tones.{after_cycles}
use Rattle.gba_psg.specs.Registers.{tones_written}
use Rattle.gba_psg.specs.Square.{sweep_time}
use Rattle.gba_psg.specs.Amount.{left_amount, right_amount}
use Rattle.gba_psg.specs.Soundness.{AreSound}

-- A square wave keeps time. Where a write starts channel 1 or 2 and its length isn't timed, and channel 1 has no sweep,
-- then after so many cycles without a write its place is as many periods as have gone by, modulo 8. The period is 16
-- cycles times what the written frequency leaves of 2,048.
pub record KeepsTime : Type 0 where
  pub square1 : (ts : FourTones) (value count : ℕ) → ts.is_on ≡ true → bit value 15 ≡ true → bit value 14 ≡ false
      → sweep_time ts.sweep ≡ 0
      → (after_cycles count (tones_written 0x064 value ts)).square1.tone.place
      ≡ count / (16 * (2048 - field value 0 11)) % 8
  pub square2 : (ts : FourTones) (value count : ℕ) → ts.is_on ≡ true → bit value 15 ≡ true → bit value 14 ≡ false
      → (after_cycles count (tones_written 0x06c value ts)).square2.tone.place
      ≡ count / (16 * (2048 - field value 0 11)) % 8

-- cycles and more cycles are all of them
abbrev pub CyclesAdd : Type 0
CyclesAdd =
    (count more : ℕ) (ts : FourTones) → after_cycles (count + more) ts ≡ after_cycles more (after_cycles count ts)

-- while the master enable is 0 nothing moves and nothing sounds
pub record IsStill : Type 0 where
  pub cycles : (count : ℕ) (ts : FourTones) → ts.is_on ≡ false → after_cycles count ts ≡ ts
  pub left : (ts : FourTones) → AreSound ts → ts.is_on ≡ false → left_amount ts ≡ 0
  pub right : (ts : FourTones) → AreSound ts → ts.is_on ≡ false → right_amount ts ≡ 0
