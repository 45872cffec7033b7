use Rattle.std.specs.Prelude.{ℕ, ◌/◌, ◌%◌, List, Option, None, Some, option_map, slice_get}
use Rattle.gba_arm_exec.specs.declared.decoded.Decoded.{Decoded as DecodedWord}
use Rattle.gba_console.specs.declared.doing.Told.{Told}
use Rattle.gba_console.specs.declared.doing.Told.TheVariants as told
use Rattle.gba_console.specs.declared.doing.What.{What}
use Rattle.gba_console.specs.declared.doing.What.TheVariants.{Nothing, Arm, Thumb}
use Rattle.gba_console.specs.declared.fixed.KeptHalf.{KeptHalf}

-- Where the body keeps what the last step did; only private functions and the console's view cite this. An instruction's
-- word or halfword stands in the table of decoded ones, at the place of its address.

abbrev pub word_place : ℕ → ℕ
word_place address = address / 4 % 4096

abbrev pub half_place : ℕ → ℕ
half_place address = address / 2 % 4096

abbrev pub word_told : ℕ → Option ℕ → What
word_told address (Some word) = Arm address word
word_told address None = Nothing

abbrev pub half_told : ℕ → Option ℕ → What
half_told address (Some half) = Thumb address half
half_told address None = Nothing

abbrev pub word_at : List DecodedWord → ℕ → Option ℕ
word_at words place = option_map (λ one. one.word) (slice_get words place)

abbrev pub half_at : List KeptHalf → ℕ → Option ℕ
half_at halves place = option_map (λ one. one.decoded.half) (slice_get halves place)

abbrev pub told_by : Told → ℕ → What → List DecodedWord → List KeptHalf → What
told_by told.Word address aside words halves = word_told address (word_at words (word_place address))
told_by told.Half address aside words halves = half_told address (half_at halves (half_place address))
told_by told.Aside address aside words halves = aside
