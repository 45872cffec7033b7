use Rattle.std.specs.Prelude.{ℕ, ◌+◌, ◌-◌, ◌*◌, ◌/◌, ◌%◌, ◌^◌, ◌==◌, Bool, true, ◌&&◌, bit_xor, if◌then◌else◌}
use Rattle.gba_terms.specs.Bits.{bit, field}
use Rattle.gba_psg.specs.declared.noise.Noise.{Noise}
use Rattle.gba_psg.specs.Tone.{envelope_time, first_volume, after_wait, tone_at_reset}

-- Channel 4, noise (GBATEK, GBA Sound Channel 4). It has a tone and two halfwords as they are stored: the shape's is
-- that of channel 1 without duty; the control has the ratio in bits 0 to 2, in bit 3 whether the register is 7 bits
-- wide instead of 15, the shift in bits 4 to 7, and in bit 14 whether the length is timed. Its place is the register of
-- the noise.
abbrev pub is_narrow : Noise → Bool
is_narrow c = bit c.control 3

abbrev pub noise_timed : Noise → Bool
noise_timed c = bit c.control 14

abbrev pub noise_period : Noise → ℕ
noise_period c =
    if field c.control 0 3 == 0
    then 2 ^ (field c.control 4 4 + 5)
    else field c.control 0 3 * 2 ^ (field c.control 4 4 + 6)

-- one cycle: the register is halved, and where the bit lost is 1 its two highest bits change
abbrev pub tap : Bool → ℕ
tap narrow = if narrow then 0x60 else 0x6000

abbrev pub next_noise : Bool → ℕ → ℕ
next_noise narrow place = if place % 2 == 1 then bit_xor (place / 2) (tap narrow) else place / 2

abbrev pub noise_moved : Noise → Noise
noise_moved c = record c { tone = after_wait (next_noise (is_narrow c)) (noise_period c) c.tone }

abbrev pub noise_started : Noise → Noise
noise_started c = record c {
  tone = record {
    on = true;
    place = if is_narrow c then 0x40 else 0x4000;
    wait = noise_period c;
    left = 64 - field c.shape 0 6;
    volume = first_volume c.shape;
    fade = envelope_time c.shape;
    sweep = 0;
    shadow = 0;
  };
}

abbrev pub noise_controlled : ℕ → Bool → Noise → Noise
noise_controlled value starts c =
    if starts then noise_started (record c { control = value }) else record c { control = value }

-- What it gives: its volume where the register's highest bit is 1.
abbrev pub is_high : Noise → Bool
is_high c = bit c.tone.place (if is_narrow c then 6 else 14)

abbrev pub noise_amount : Noise → ℕ
noise_amount c = if c.tone.on && is_high c then c.tone.volume else 0

abbrev pub noise_at_reset : Noise
noise_at_reset = record { tone = tone_at_reset; shape = 0; control = 0 }
