-- What each line of a frozen file says, and why it is refused, if it is: Spelling before Number before Job.
use Rattle.std.specs.Prelude.{ℕ, ◌/◌, ◌%◌, ◌==◌, Bool, not, ◌&&◌, nat_le, nat_lt, List, [], length, codes, decimal, Option, Some, None, Result, Ok, Err, if◌then◌else◌}
use Rattle.std.specs.List.{list_all}
use Rattle.std.specs.Str.{bytes_eq}
use Rattle.gba_text.specs.Steps.{◌>>=◌, holds}
use Rattle.link_node.specs.Packing.{signal_in}
use Rattle.link_node.specs.declared.signal.Signal.{Signal}
use Rattle.gba_image.specs.declared.backup.Backup.{Backup}
use Rattle.gba_frozen.specs.Places.{backup_of, is_behind, is_below, is_row_place}
use Rattle.gba_frozen.specs.Rows.{all_fit, count_of, keyword_of, number_of_row, spelling_of}
use Rattle.gba_frozen.specs.Spelling.{is_digit, numbers_in, pieces}
use Rattle.gba_frozen.specs.Words.{LineWords, decimal_at, end_at, exact, hex_at, memory_at, number_behind, numbers_at, values_at, word_at}
use Rattle.gba_frozen.specs.declared.kinds.Setup.{Setup}
use Rattle.gba_frozen.specs.declared.kinds.ThawKind.{ThawKind}
use Rattle.gba_frozen.specs.declared.kinds.ThawKind.TheVariants as kind
use Rattle.gba_frozen.specs.declared.places.MemoryPlace.{MemoryPlace}
use Rattle.gba_frozen.specs.declared.places.Place.{Place}
use Rattle.gba_frozen.specs.declared.places.Slot.{Slot}
use Rattle.gba_frozen.specs.declared.places.Slot.TheVariants.{Version, Digest, Fixed, Queue, Wave, Memory, Drawn, Signals, End, Past}
use Rattle.gba_frozen.specs.declared.rows.Row.{Row}

-- what a line says: nothing beyond itself; the values of a row; of a queue its number, its current byte and its bytes;
-- of a bank of the wave its number and its bytes; 32 bytes of a memory; a drawn line and its colours; or a player and
-- its live signal
pub data Said : Type 0 where
  Nothing : Said
  Values : Row → List ℕ → Said
  QueueBytes : ℕ → ℕ → List ℕ → Said
  WaveBytes : ℕ → List ℕ → Said
  MemoryBytes : MemoryPlace → List ℕ → Said
  Colours : ℕ → List ℕ → Said
  Live : ℕ → Signal → Said

abbrev pub Line : Type 0
Line = Result Said ThawKind

-- the first line, and the last one
unfoldable pub version_line : LineWords → Line
version_line words = do
  k ← exact (codes "gbalink-frozen") words
  n ← exact (codes "1") k.left
  _ ← end_at n.left
  Ok Nothing

unfoldable pub end_line : LineWords → Line
end_line words = do
  k ← exact (codes "end") words
  _ ← end_at k.left
  Ok Nothing

-- the digest of the job
unfoldable pub digest_line : List ℕ → LineWords → Line
digest_line digest words = do
  k ← exact (codes "job") words
  d ← numbers_at 2 32 k.left
  _ ← end_at d.left
  _ ← holds (bytes_eq d.value digest) kind.Job
  Ok Nothing

-- a row
unfoldable pub row_said : ℕ → Row → LineWords → Line
row_said until which words = do
  k ← exact (keyword_of which) words
  n ← number_behind (number_of_row which) k.left
  v ← values_at (spelling_of which) (count_of which) [] n.left
  _ ← end_at v.left
  _ ← holds (all_fit until which 0 v.value) kind.Number
  Ok (Values which v.value)

-- a sound queue: its letter, its current byte, how many bytes it holds, and these, or a dash
abbrev pub queue_name : ℕ → List ℕ
queue_name queue = if queue == 0 then codes "A" else codes "B"

abbrev pub most_of_queue : ℕ
most_of_queue = 32

unfoldable pub are_bytes : ℕ → List ℕ → Bool
are_bytes count word =
    if count == 0 then bytes_eq word (codes "-")
    else length word % 2 == 0 && length word / 2 == count && list_all is_digit word

unfoldable pub queue_said : ℕ → LineWords → Line
queue_said queue words = do
  k ← exact (codes "queue") words
  l ← exact (queue_name queue) k.left
  c ← hex_at 2 l.left
  n ← decimal_at c.left
  w ← word_at n.left
  _ ← end_at w.left
  _ ← holds (are_bytes n.value w.value) kind.Spelling
  _ ← holds (nat_le n.value most_of_queue) kind.Number
  Ok (QueueBytes queue c.value (numbers_in 2 n.value w.value))

-- a bank of the wave
unfoldable pub wave_said : ℕ → LineWords → Line
wave_said bank words = do
  k ← exact (codes "wave") words
  n ← exact (decimal bank) k.left
  b ← numbers_at 2 16 n.left
  _ ← end_at b.left
  Ok (WaveBytes bank b.value)

-- 32 bytes of a memory: they aren't all 0, and stand behind those of the line before
abbrev pub all_zero : List ℕ → Bool
all_zero bytes = list_all (λ byte. byte == 0) bytes

unfoldable pub memory_said : Backup → Option MemoryPlace → LineWords → Line
memory_said backup last words = do
  k ← exact (codes "mem") words
  m ← memory_at k.left
  o ← hex_at 6 m.left
  b ← numbers_at 2 32 o.left
  _ ← end_at b.left
  _ ← holds (is_behind last (record { name = m.value; offset = o.value })) kind.Spelling
  _ ← holds (not (all_zero b.value)) kind.Spelling
  _ ← holds (is_row_place backup (record { name = m.value; offset = o.value })) kind.Number
  Ok (MemoryBytes (record { name = m.value; offset = o.value }) b.value)

-- a drawn line of the present frame, of which the last one is never kept
abbrev pub drawn_end : ℕ
drawn_end = 159

unfoldable pub drawn_said : Option ℕ → LineWords → Line
drawn_said last words = do
  k ← exact (codes "drawn") words
  y ← decimal_at k.left
  c ← numbers_at 4 240 y.left
  _ ← end_at c.left
  _ ← holds (is_below last y.value) kind.Spelling
  _ ← holds (nat_lt y.value drawn_end) kind.Number
  Ok (Colours y.value c.value)

-- a live signal: who sent it, and its two numbers
abbrev pub live_of : ℕ → Option Signal → Line
live_of sender None = Err kind.Number
live_of sender (Some signal) = Ok (Live sender signal)

unfoldable pub signal_said : ℕ → LineWords → Line
signal_said consoles words = do
  k ← exact (codes "signal") words
  s ← decimal_at k.left
  a ← hex_at 16 s.left
  b ← hex_at 16 a.left
  _ ← end_at b.left
  _ ← holds (nat_lt s.value consoles) kind.Number
  live_of s.value (signal_in a.value b.value)

-- what the line at a place says
unfoldable pub slot_said : Setup → ℕ → Slot → LineWords → Line
slot_said setup player Version words = version_line words
slot_said setup player Digest words = digest_line setup.digest words
slot_said setup player (Fixed which) words = row_said setup.until which words
slot_said setup player (Queue queue) words = queue_said queue words
slot_said setup player (Wave bank) words = wave_said bank words
slot_said setup player (Memory last) words = memory_said (backup_of setup player) last words
slot_said setup player (Drawn last) words = drawn_said last words
slot_said setup player Signals words = signal_said setup.consoles words
slot_said setup player End words = end_line words
slot_said setup player Past words = Err kind.Spelling

abbrev pub line_said : Setup → Place → List ℕ → Line
line_said setup at line = slot_said setup at.player at.slot (pieces line)
