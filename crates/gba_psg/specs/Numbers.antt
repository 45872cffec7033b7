use Rattle.std.specs.Prelude.{◌≡◌, ℕ, ◌+◌, ◌==◌, List, [], ◌∷◌, ◌++◌, slice_index}
use Rattle.gba_terms.specs.Bits.{bit}
use Rattle.gba_word.specs.Weights.{weight}
use Rattle.gba_psg.specs.declared.tone.Tone.{Tone}
use Rattle.gba_psg.specs.declared.four.FourTones.{FourTones}
use Rattle.gba_psg.specs.Registers.{tones_kept}

-- What the tones say of themselves: 33 numbers, which are the sequencer and then eight of each channel; the bytes of
-- the two banks of the wave; and what is stored at thirteen halfwords.
abbrev pub tone_numbers : Tone → List ℕ
tone_numbers t =
    weight 1 t.on ∷ t.place ∷ t.wait ∷ t.left ∷ t.volume ∷ t.fade ∷ t.sweep ∷ t.shadow ∷ []

unfoldable pub numbers_of : FourTones → List ℕ
numbers_of ts =
    ts.sequencer
    ∷ tone_numbers ts.square1.tone ++ tone_numbers ts.square2.tone ++ tone_numbers ts.wave.tone
    ++ tone_numbers ts.noise.tone

unfoldable pub halves_of : FourTones → List ℕ
halves_of ts =
    tones_kept 0x060 ts ∷ tones_kept 0x062 ts ∷ tones_kept 0x064 ts ∷ tones_kept 0x068 ts ∷ tones_kept 0x06c ts
    ∷ tones_kept 0x070 ts ∷ tones_kept 0x072 ts ∷ tones_kept 0x074 ts ∷ tones_kept 0x078 ts ∷ tones_kept 0x07c ts
    ∷ tones_kept 0x080 ts ∷ tones_kept 0x082 ts ∷ tones_kept 0x084 ts ∷ []

-- the tones of such numbers, bytes and halfwords; a tone's numbers begin at a place of the list
abbrev pub tone_of : ℕ → List ℕ → Tone
tone_of first numbers = record {
  on = slice_index numbers first == 1;
  place = slice_index numbers (first + 1);
  wait = slice_index numbers (first + 2);
  left = slice_index numbers (first + 3);
  volume = slice_index numbers (first + 4);
  fade = slice_index numbers (first + 5);
  sweep = slice_index numbers (first + 6);
  shadow = slice_index numbers (first + 7);
}

unfoldable pub tones_of : List ℕ → List ℕ → List ℕ → List ℕ → FourTones
tones_of numbers bank0 bank1 halves = record {
  is_on = bit (slice_index halves 12) 7;
  sequencer = slice_index numbers 0;
  sweep = slice_index halves 0;
  square1 = record { tone = tone_of 1 numbers; shape = slice_index halves 1; control = slice_index halves 2 };
  square2 = record { tone = tone_of 9 numbers; shape = slice_index halves 3; control = slice_index halves 4 };
  wave = record {
    tone = tone_of 17 numbers;
    select = slice_index halves 5;
    level = slice_index halves 6;
    control = slice_index halves 7;
    bank0 = bank0;
    bank1 = bank1;
  };
  noise = record { tone = tone_of 25 numbers; shape = slice_index halves 8; control = slice_index halves 9 };
  mixer = slice_index halves 10;
  ratio = slice_index halves 11;
}

-- what the tones say of themselves makes them again
abbrev pub MadeAgain : Type 0
MadeAgain = (ts : FourTones) → tones_of (numbers_of ts) ts.wave.bank0 ts.wave.bank1 (halves_of ts) ≡ ts
