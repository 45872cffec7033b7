use Rattle.std.specs.Prelude.{◌≡◌, ℕ, ◌<◌, ◌≤◌, ◌^◌, true, false}
use Rattle.gba_psg.specs.declared.tone.Tone.{Tone}
use Rattle.gba_psg.specs.declared.four.FourTones.{FourTones}
use Rattle.gba_psg.specs.Tones.{after_cycles, cycle, tones_at_reset}
use Rattle.gba_psg.specs.Registers.{cleared, tones_written}

-- The numbers of a tone are in range, and one that is on has cycles to wait and a length that is left. A pattern has so
-- many places.
pub record IsSoundTone (places : ℕ) (t : Tone) : Type 0 where
  pub place : t.place < places
  pub wait : t.wait < 2 ^ 24
  pub left : t.left ≤ 256
  pub volume : t.volume < 16
  pub fade : t.fade < 8
  pub sweep : t.sweep < 8
  pub shadow : t.shadow < 2048
  pub waits : t.on ≡ true → 0 < t.wait
  pub lasts : t.on ≡ true → 0 < t.left

-- So are the four, and while the master enable is 0 everything is 0 that is to be.
pub record AreSound (ts : FourTones) : Type 0 where
  pub sequencer : ts.sequencer < 0x40000
  pub square1 : IsSoundTone 8 ts.square1.tone
  pub square2 : IsSoundTone 8 ts.square2.tone
  pub wave : IsSoundTone 64 ts.wave.tone
  pub noise : IsSoundTone 0x8000 ts.noise.tone
  pub off : ts.is_on ≡ false → ts ≡ cleared ts

-- So they are at reset, and so they stay at each write and in each cycle.
pub record StaysSound : Type 0 where
  pub reset : AreSound tones_at_reset
  pub write : (offset value : ℕ) (ts : FourTones) → AreSound ts → AreSound (tones_written offset value ts)
  pub cycle : (ts : FourTones) → AreSound ts → AreSound (cycle ts)
  pub cycles : (count : ℕ) (ts : FourTones) → AreSound ts → AreSound (after_cycles count ts)
