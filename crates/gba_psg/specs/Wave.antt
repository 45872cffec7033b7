use Rattle.std.specs.Prelude.{ℕ, ◌+◌, ◌-◌, ◌*◌, ◌/◌, ◌%◌, ◌^◌, ◌==◌, Bool, not, ◌||◌, nat_lt, replicate, slice_index, slice_set, List, if◌then◌else◌}
use Rattle.gba_terms.specs.Bits.{bit, field}
use Rattle.gba_psg.specs.declared.wave.Wave.{Wave}
use Rattle.gba_psg.specs.Tone.{after_wait, tone_at_reset}

-- Channel 3, a wave of digits (GBATEK, GBA Sound Channel 3). It has a tone, two banks of 16 bytes, and three halfwords
-- as they are stored: the selection has in bit 5 whether both banks play, in bit 6 which bank is the first, and in bit
-- 7 whether a start makes the channel on; the level has the length in bits 0 to 7, the volume in bits 13 and 14, and in
-- bit 15 whether three quarters are given instead; the control is as that of channel 1.
abbrev pub has_two_banks : Wave → Bool
has_two_banks c = bit c.select 5

abbrev pub is_playing : Wave → Bool
is_playing c = bit c.select 7

abbrev pub wave_frequency : Wave → ℕ
wave_frequency c = field c.control 0 11

abbrev pub wave_timed : Wave → Bool
wave_timed c = bit c.control 14

abbrev pub wave_period : Wave → ℕ
wave_period c = 8 * (2048 - wave_frequency c)

-- one cycle: a bank has 32 digits
abbrev pub digit_count : Wave → ℕ
digit_count c = if has_two_banks c then 64 else 32

abbrev pub next_digit : Wave → ℕ → ℕ
next_digit c place = (place + 1) % digit_count c

abbrev pub wave_moved : Wave → Wave
wave_moved c = record c { tone = after_wait (next_digit c) (wave_period c) c.tone }

-- A start while nothing plays makes every number but `on`, which stays. It has no envelope and no sweep.
abbrev pub wave_started : Wave → Wave
wave_started c = record c {
  tone = record {
    on = c.tone.on || is_playing c;
    place = 0;
    wait = wave_period c;
    left = 256 - field c.level 0 8;
    volume = field c.level 13 2;
    fade = 0;
    sweep = 0;
    shadow = wave_frequency c;
  };
}

abbrev pub wave_controlled : ℕ → Bool → Wave → Wave
wave_controlled value starts c =
    if starts then wave_started (record c { control = value }) else record c { control = value }

-- The bank that is the first by bit 6, and the other, which the registers of the wave read and write.
abbrev pub bank_at : Bool → Wave → List ℕ
bank_at second c = if second then c.bank1 else c.bank0

abbrev pub first_bank : Wave → List ℕ
first_bank c = bank_at (bit c.select 6) c

abbrev pub other_bank : Wave → List ℕ
other_bank c = bank_at (not (bit c.select 6)) c

-- the halfword of the other bank that begins at a byte, and a write of it
abbrev pub wave_half : ℕ → Wave → ℕ
wave_half place c = slice_index (other_bank c) place + 2 ^ 8 * slice_index (other_bank c) (place + 1)

abbrev pub half_set : ℕ → ℕ → List ℕ → List ℕ
half_set place value bank = slice_set (slice_set bank place (field value 0 8)) (place + 1) (field value 8 8)

abbrev pub with_wave_half : ℕ → ℕ → Wave → Wave
with_wave_half place value c = record c {
  bank0 = if bit c.select 6 then half_set place value c.bank0 else c.bank0;
  bank1 = if bit c.select 6 then c.bank1 else half_set place value c.bank1;
}

-- What it gives: the digit at its place, the high half of a byte first, from the first bank on to the other.
abbrev pub digit_of : ℕ → List ℕ → ℕ
digit_of place bank =
    if place % 2 == 0
    then field (slice_index bank (place / 2)) 4 4
    else field (slice_index bank (place / 2)) 0 4

abbrev pub wave_digit : Wave → ℕ
wave_digit c =
    if nat_lt c.tone.place 32
    then digit_of c.tone.place (first_bank c)
    else digit_of (c.tone.place - 32) (other_bank c)

-- times 0, 1, a half or a quarter by the volume, or times three quarters, rounded down
abbrev pub scaled : ℕ → Wave → ℕ
scaled digit c =
    if bit c.level 15 then 3 * digit / 4
    else if c.tone.volume == 0 then 0
    else if c.tone.volume == 1 then digit
    else if c.tone.volume == 2 then digit / 2
    else digit / 4

abbrev pub wave_amount : Wave → ℕ
wave_amount c = if c.tone.on then scaled (wave_digit c) c else 0

-- the channel with the bytes of its banks and nothing else
abbrev pub wave_cleared : Wave → Wave
wave_cleared c = record c { tone = tone_at_reset; select = 0; level = 0; control = 0 }

abbrev pub wave_at_reset : Wave
wave_at_reset = record {
  tone = tone_at_reset;
  select = 0;
  level = 0;
  control = 0;
  bank0 = replicate 16 0;
  bank1 = replicate 16 0;
}
