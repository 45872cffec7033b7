use Rattle.std.specs.Prelude.{ℕ, ◌+◌, ◌-◌, ◌*◌, ◌/◌, ◌%◌, ◌^◌, ◌==◌, Bool, true, ◌&&◌, not, nat_lt, if◌then◌else◌}
use Rattle.gba_terms.specs.Bits.{bit, field}
use Rattle.gba_psg.specs.declared.square.Square.{Square}
use Rattle.gba_psg.specs.declared.tone.Tone.{Tone}
use Rattle.gba_psg.specs.Tone.{envelope_time, first_volume, after_wait, lowered, tone_at_reset}

-- Channels 1 and 2, square waves (GBATEK, GBA Sound Channel 1, 2). Each has a tone and two halfwords as they are
-- stored: the shape's has the length in bits 0 to 5, the duty in bits 6 and 7, and the envelope; the control has the
-- frequency in bits 0 to 10 and in bit 14 whether the length is timed. Channel 1 also has the halfword of the sweep,
-- which is 0 below where channel 2 is meant: its shift is in bits 0 to 2, bit 3 goes down, and its time in ticks is in
-- bits 4 to 6, 0 for none.
abbrev pub sweep_shift : ℕ → ℕ
sweep_shift sweep = field sweep 0 3

abbrev pub goes_down : ℕ → Bool
goes_down sweep = bit sweep 3

abbrev pub sweep_time : ℕ → ℕ
sweep_time sweep = field sweep 4 3

abbrev pub square_frequency : Square → ℕ
square_frequency c = field c.control 0 11

abbrev pub square_timed : Square → Bool
square_timed c = bit c.control 14

abbrev pub square_period : Square → ℕ
square_period c = 16 * (2048 - square_frequency c)

-- one cycle of a channel: its pattern has eight places
abbrev pub next_eighth : ℕ → ℕ
next_eighth place = (place + 1) % 8

abbrev pub square_moved : Square → Square
square_moved c = record c { tone = after_wait next_eighth (square_period c) c.tone }

-- a start takes the numbers of the registers
abbrev pub square_started : ℕ → Square → Square
square_started sweep c = record c {
  tone = record {
    on = true;
    place = 0;
    wait = square_period c;
    left = 64 - field c.shape 0 6;
    volume = first_volume c.shape;
    fade = envelope_time c.shape;
    sweep = sweep_time sweep;
    shadow = square_frequency c;
  };
}

-- a write of the control, which starts or not
abbrev pub square_controlled : ℕ → ℕ → Bool → Square → Square
square_controlled sweep value starts c =
    if starts then square_started sweep (record c { control = value }) else record c { control = value }

-- A tick of the sweep, also of a channel that is off: at the last tick of its time the new frequency is the shadow plus
-- or minus its part by the shift. Above 2,047 the channel is off; else, where the shift isn't 0, frequency and shadow
-- become it.
abbrev pub swept : ℕ → Tone → ℕ
swept sweep t =
    if goes_down sweep then t.shadow - t.shadow / 2 ^ sweep_shift sweep else t.shadow + t.shadow / 2 ^ sweep_shift sweep

abbrev pub is_too_high : ℕ → Tone → Bool
is_too_high sweep t = nat_lt 2047 (swept sweep t)

abbrev pub takes_swept : ℕ → Tone → Bool
takes_swept sweep t = not (is_too_high sweep t) && not (sweep_shift sweep == 0)

abbrev pub with_frequency : ℕ → ℕ → ℕ
with_frequency frequency control = control / 2048 * 2048 + frequency

abbrev pub square_swept : ℕ → Square → Square
square_swept sweep c = record c {
  tone = record c.tone {
    on = c.tone.on && not (is_too_high sweep c.tone);
    shadow = if takes_swept sweep c.tone then swept sweep c.tone else c.tone.shadow;
  };
  control = if takes_swept sweep c.tone then with_frequency (swept sweep c.tone) c.control else c.control;
}

abbrev pub with_sweep_left : ℕ → Square → Square
with_sweep_left left c = record c { tone = record c.tone { sweep = left } }

abbrev pub after_sweep : ℕ → Square → Square
after_sweep sweep c =
    if sweep_time sweep == 0 then c
    else if lowered c.tone.sweep == 0 then square_swept sweep (with_sweep_left (sweep_time sweep) c)
    else with_sweep_left (lowered c.tone.sweep) c

-- What it gives: its volume at the first places of the pattern, as many as the duty says, and 0 at the others.
abbrev pub high_places : ℕ → ℕ
high_places duty = if duty == 0 then 1 else if duty == 1 then 2 else if duty == 2 then 4 else 6

abbrev pub square_amount : Square → ℕ
square_amount c = if c.tone.on && nat_lt c.tone.place (high_places (field c.shape 6 2)) then c.tone.volume else 0

abbrev pub square_at_reset : Square
square_at_reset = record { tone = tone_at_reset; shape = 0; control = 0 }
