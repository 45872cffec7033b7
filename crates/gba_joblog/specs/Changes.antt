-- Changes of the pressed keys, as a line says one, by itself or after a keyword.
use Rattle.std.specs.Prelude.{ℕ, ◌^◌, ◌-◌, List, length, nat_le, nat_lt, Option, Some, None, Result, Ok, slice_get}
use Rattle.gba_text.specs.Steps.{◌>>=◌, holds}
use Rattle.gba_joblog.specs.Operands.{LineWords, number_at, keys_at, end_at}
use Rattle.gba_joblog.specs.declared.job.KeyChange.{KeyChange}
use Rattle.gba_joblog.specs.declared.kinds.JobKind.{JobKind}
use Rattle.gba_joblog.specs.declared.kinds.JobKind.TheVariants as kind

-- the most changes of a console
abbrev pub most_changes : ℕ
most_changes = 1000000

abbrev pub clock_or_start : Option KeyChange → ℕ
clock_or_start None = 0
clock_or_start (Some change) = change.clock

-- the least clock of a change after these: that of the last one
unfoldable pub least_clock : List KeyChange → ℕ
least_clock changes = clock_or_start (slice_get changes (length changes - 1))

-- A change after those before it: its clock below 2^38, which doesn't fall, and its keys; then nothing follows, and
-- there is room for it.
unfoldable pub change_at : List KeyChange → LineWords → Result KeyChange JobKind
change_at before words = do
  clock ← number_at 0 (2 ^ 38 - 1) words
  _ ← holds (nat_le (least_clock before) clock.value) kind.Order
  keys ← keys_at clock.left
  _ ← end_at keys.left
  _ ← holds (nat_lt (length before) most_changes) kind.Long
  Ok (record { clock = clock.value; keys = keys.value })
