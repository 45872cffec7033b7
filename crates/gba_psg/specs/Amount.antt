use Rattle.std.specs.Prelude.{ℕ, ◌+◌, ◌*◌, ◌≤◌, ◌==◌, Bool, if◌then◌else◌}
use Rattle.gba_terms.specs.Bits.{bit, field}
use Rattle.gba_psg.specs.Square.{square_amount}
use Rattle.gba_psg.specs.Wave.{wave_amount}
use Rattle.gba_psg.specs.Noise.{noise_amount}
use Rattle.gba_psg.specs.declared.four.FourTones.{FourTones}
use Rattle.gba_psg.specs.declared.four.Given.{Given}

-- What the channels give to a side: the sum of those that SOUNDCNT_L sends there, channel 1 by the first of four bits,
-- times the side's volume plus 1, times 1, 2, 4 or 0 by SOUNDCNT_H (GBATEK, GBA Sound Control Registers; the times 8 is
-- this project's profile).
abbrev pub sent : Bool → ℕ → ℕ
sent is_sent amount = if is_sent then amount else 0

abbrev pub given_of : FourTones → Given
given_of ts = record {
  square1 = square_amount ts.square1;
  square2 = square_amount ts.square2;
  wave = wave_amount ts.wave;
  noise = noise_amount ts.noise;
}

abbrev pub sum_of : ℕ → ℕ → Given → ℕ
sum_of first mixer given =
    sent (bit mixer first) given.square1
    + sent (bit mixer (first + 1)) given.square2
    + sent (bit mixer (first + 2)) given.wave
    + sent (bit mixer (first + 3)) given.noise

-- each gives 15 at most
pub record IsFew (given : Given) : Type 0 where
  pub square1 : given.square1 ≤ 15
  pub square2 : given.square2 ≤ 15
  pub wave : given.wave ≤ 15
  pub noise : given.noise ≤ 15

abbrev pub factor : ℕ → ℕ
factor ratio = if ratio == 0 then 1 else if ratio == 1 then 2 else if ratio == 2 then 4 else 0

abbrev pub side_amount : ℕ → ℕ → FourTones → ℕ
side_amount first volume ts = sum_of first ts.mixer (given_of ts) * (volume + 1) * factor ts.ratio * 8

unfoldable pub left_amount : FourTones → ℕ
left_amount ts = side_amount 12 (field ts.mixer 4 3) ts

unfoldable pub right_amount : FourTones → ℕ
right_amount ts = side_amount 8 (field ts.mixer 0 3) ts
