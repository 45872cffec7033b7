use Rattle.std.specs.Prelude.{ℕ, ◌+◌, ◌-◌, ◌*◌, ◌/◌, ◌^◌, ◌<◌, ◌≤◌, nat_le, if◌then◌else◌}
use Rattle.gba_io.specs.declared.base.Base.{Base}

-- Where the lists of what a board makes begin: at reset, or where they were emptied last.
abbrev pub at_reset : Base
at_reset = record { clock = 0; pairs = 0; frames = 0; words = 0; cycles = 0 }

-- They begin at a later clock: nothing was made before it.
abbrev pub begun_at : ℕ → Base → Base
begun_at clock base = record base { clock = clock }

-- of a frame that is whole already after so many of its cycles, all the cycles of the next one: the last line is drawn
-- in cycle 196,894
abbrev pub early_at : ℕ → ℕ
early_at cycles = if nat_le 196894 cycles then 280896 else 0

-- The most that the lists hold of what is made in the steps that begin below a clock: the pairs, one each 512 cycles,
-- the whole frames, one each 280,896 cycles, and the transfers. Of these two may end before 512 cycles have passed,
-- since the last step before may have begun as many cycles earlier, and each further one takes 512 cycles.
abbrev pub pairs_from : Base → ℕ → ℕ
pairs_from base until = (until + 511) / 512 - base.clock / 512

abbrev pub frames_from : Base → ℕ → ℕ
frames_from base until = (until + 84513 + base.cycles - (base.clock + early_at base.cycles)) / 280896

abbrev pub words_from : Base → ℕ → ℕ
words_from base until = 2 + (until - base.clock) / 512

-- what holds where lists begin: the counts are no more than the clock allows that began below 2^40
pub record IsBase (base : Base) : Type 0 where
  pub clock : base.clock ≤ 2 ^ 39 + 511
  pub cycles : base.cycles < 280896
  pub pairs : base.pairs ≤ 2 ^ 40 + base.clock / 512
  pub frames : 280896 * base.frames + base.cycles ≤ 2 ^ 59 + base.clock + early_at base.cycles
  pub words : base.words ≤ 2 ^ 41
