-- The lines of a console that are printed, read one after another.
use Rattle.std.proofs.Common.{◌≡◌, ◌<◌, ◌≤◌, ℕ, suc, ◌+◌, ◌-◌, ◌*◌, ◌==◌, Bool, true, false, cond, not, nat_lt, List, [], ◌∷◌, ◌++◌, length, Option, Some, None, refl, ap, ◌∙◌, arith}
use Rattle.std.specs.Prelude.{codes, decimal, map, slice_index}
use Rattle.std.specs.List.{list_all}
use Rattle.std.specs.Str.{bytes_eq}
use Rattle.std.proofs.lemmas.Bool.{lt-ltb}
use Rattle.std.proofs.lemmas.Bool.Decides.{nat_tests}
use Rattle.std.proofs.lemmas.List.{append-nil}
use Rattle.gba_terms.specs.Hexadecimal.{hex}
use Rattle.gba_flash.specs.Flash.{is_flash}
use Rattle.gba_image.specs.declared.backup.Backup.{Backup}
use Rattle.gba_numbers.specs.Fields.{board_place, is_board_field, is_field, place_of}
use Rattle.gba_numbers.specs.Numbers.{ConsoleNumbers, value_at, value_of}
use Rattle.gba_numbers.specs.Ranges.{board_fits, field_fits}
use Rattle.gba_numbers.specs.declared.fields.BoardField.TheVariants as board
use Rattle.gba_numbers.specs.declared.fields.Field.TheVariants as console
use Rattle.gba_frozen.specs.Lines.{Said, Values, QueueBytes, WaveBytes, slot_said}
use Rattle.gba_frozen.specs.Places.{after_row, backup_of, first_word, is_left, next_by, place_for, placed}
use Rattle.gba_frozen.specs.Reading.{ConsoleDraft, after_said}
use Rattle.gba_frozen.specs.Rows.{count_of, is_row, keyword_of, row_line, row_words}
use Rattle.gba_frozen.specs.Spelling.{hex_all, joined, pieces}
use Rattle.gba_frozen.specs.Words.{memory_name}
use Rattle.gba_frozen.specs.declared.kinds.Setup.{Setup}
use Rattle.gba_frozen.specs.declared.places.MemoryPlace.{MemoryPlace}
use Rattle.gba_frozen.specs.declared.places.Place.{Place}
use Rattle.gba_frozen.specs.declared.places.Slot.TheVariants.{Fixed, Queue, Wave, Memory, Drawn}
use Rattle.gba_frozen.specs.declared.rows.Row.{Row}
use Rattle.gba_frozen.specs.declared.rows.Row.TheVariants as row
use Rattle.gba_frozen.proofs.LinePieces.{no_space, pieces-last, pieces-more}
use Rattle.gba_frozen_print.specs.Laws.{AreBelow}
use Rattle.gba_frozen_print.specs.Printed.{memory_text, drawn_text}
use Rattle.gba_frozen_print.proofs.LinesAgain.{drawn-again, memory-again, queues-again, waves-again}
use Rattle.gba_frozen_text.specs.Laws.{AreDrawn, AreRows, IsConsole}
use Rattle.gba_frozen_text.specs.Text.{board_rows, drawn_of, last_rows, memory_of, processor_rows, queue_of, row_of, row_values, rows_behind, said_line, tone_rows}
use Rattle.gba_frozen_text.proofs.Feeds.{drawn-fed, memory-fed, queue-fed, wave-fed}
use Rattle.gba_frozen_text.proofs.Chain.{Reads, Step, reads_both, reads_more, reads_none, step}
use Rattle.gba_frozen_text.proofs.Ranges.{Fit}
use Rattle.gba_frozen_text.proofs.RowChains.{Follow, board-follow, last-follow, processor-follow, row-step, rows-read, tones-follow}

-- the first word of a line
pub first-joined : (word : List ℕ) (words : List (List ℕ)) → list_all no_space word ≡ true
    → first_word (pieces (joined word words)) ≡ word
first-joined word [] h = ap first_word (ap pieces (append-nil word) ∙ pieces-last word h)
first-joined word (next ∷ words) h = ap first_word (pieces-more word (joined next words) h)

-- lines of queues and of the wave
small_byte : (n : ConsoleNumbers) (until queue : ℕ) → Fit until n → queue < 2
    → value_of (console.Board (board.QueueCurrent queue)) n < 256
unfolding is_field is_board_field field_fits board_fits
small_byte n until queue fit two =
    let fits = fit (console.Board (board.QueueCurrent queue)) (lt-ltb queue 2 two) in grind (arith, nat_tests)

queue-step : (setup : Setup) (player queue : ℕ) (n : ConsoleNumbers) (bytes : List ℕ) → Fit setup.until n → queue < 2
    → length bytes ≤ 32 → AreBelow 2 bytes
    → Step setup (placed player (Queue queue)) (said_line (queue_of n queue bytes)) (queue_of n queue bytes)
    (placed player (cond (queue == 0) (Queue 1) (Fixed row.Sequencer)))
unfolding slot_said after_said next_by said_line is_left
queue-step setup player queue n bytes fit two few are =
    let current = value_of (console.Board (board.QueueCurrent queue)) n in
    step setup (placed player (Queue queue)) (placed player (Queue queue)) _ (QueueBytes queue current bytes) _
    (queue-fed queue current bytes few) refl
    (queues-again queue current bytes two (small_byte n setup.until queue fit two) few are) refl

wave-step : (setup : Setup) (player bank : ℕ) (bytes : List ℕ) → bank < 2 → length bytes ≡ 16 → AreBelow 2 bytes
    → Step setup (placed player (Wave bank)) (said_line (WaveBytes bank bytes)) (WaveBytes bank bytes)
    (placed player (cond (bank == 0) (Wave 1) (Fixed row.Position)))
unfolding slot_said after_said next_by said_line is_left
wave-step setup player bank bytes two long are =
    step setup (placed player (Wave bank)) (placed player (Wave bank)) _ (WaveBytes bank bytes) _
    (wave-fed bank bytes two) refl (waves-again bank bytes two long are) refl

-- lines of memories and drawn lines
pub last_row : Option MemoryPlace → List (MemoryPlace × List ℕ) → Option MemoryPlace
last_row last [] = last
last_row last (line ∷ lines) = last_row (Some line.0) lines

pub last_drawn : Option ℕ → List (ℕ × List ℕ) → Option ℕ
last_drawn last [] = last
last_drawn last (line ∷ lines) = last_drawn (Some line.0) lines

memory-stays : (setup : Setup) (player : ℕ) (last : Option MemoryPlace) (place : MemoryPlace) (bytes : List ℕ)
    → place_for setup (pieces (memory_text place bytes)) (placed player (Memory last)) ≡ placed player (Memory last)
unfolding is_left
memory-stays setup player last place bytes =
    let first = first-joined (codes "mem") (memory_name place.name ∷ hex 6 place.offset ∷ hex_all 2 bytes ∷ []) refl in
    rw (first, first) refl

drawn-stays : (setup : Setup) (player : ℕ) (last : Option ℕ) (line : ℕ) (colours : List ℕ)
    → place_for setup (pieces (drawn_text line colours)) (placed player (Drawn last)) ≡ placed player (Drawn last)
unfolding is_left
drawn-stays setup player last line colours =
    let first = first-joined (codes "drawn") (decimal line ∷ hex_all 4 colours ∷ []) refl in
    rw (first, first) refl

memory-read : (setup : Setup) (player : ℕ) (last : Option MemoryPlace) (lines : List (MemoryPlace × List ℕ))
    → AreRows (backup_of setup player) last lines
    → Reads setup (placed player (Memory last)) (map memory_of lines) (placed player (Memory (last_row last lines)))
unfolding AreRows last_row slot_said after_said said_line
memory-read setup player last [] h = reads_none setup (placed player (Memory last))
memory-read setup player last (line ∷ lines) h =
    reads_more setup (placed player (Memory last)) (placed player (Memory (Some line.0))) _ (memory_of line)
    (map memory_of lines)
    (step setup (placed player (Memory last)) (placed player (Memory last)) (memory_text line.0 line.1) (memory_of line)
    (placed player (Memory (Some line.0))) (memory-fed line.0 line.1) (memory-stays setup player last line.0 line.1)
    (memory-again (backup_of setup player) last line.0 line.1 h.0 h.1 h.2 h.3 h.4 h.5) refl)
    (memory-read setup player (Some line.0) lines h.6)

drawn-read : (setup : Setup) (player : ℕ) (last : Option ℕ) (lines : List (ℕ × List ℕ)) → AreDrawn last lines
    → Reads setup (placed player (Drawn last)) (map drawn_of lines) (placed player (Drawn (last_drawn last lines)))
unfolding AreDrawn last_drawn slot_said after_said said_line
drawn-read setup player last [] h = reads_none setup (placed player (Drawn last))
drawn-read setup player last (line ∷ lines) h =
    reads_more setup (placed player (Drawn last)) (placed player (Drawn (Some line.0))) _ (drawn_of line)
    (map drawn_of lines)
    (step setup (placed player (Drawn last)) (placed player (Drawn last)) (drawn_text line.0 line.1) (drawn_of line)
    (placed player (Drawn (Some line.0))) (drawn-fed line.0 line.1 h.2) (drawn-stays setup player last line.0 line.1)
    (drawn-again last line.0 line.1 h.0 h.1 h.2 h.3) refl)
    (drawn-read setup player (Some line.0) lines h.4)

-- the bytes of queues and of the wave are bytes
below-all : (xs : List ℕ) → ((i : ℕ) → i < length xs → slice_index xs i < 256) → AreBelow 2 xs
unfolding AreBelow
below-all [] h = tt
below-all (x ∷ xs) h = (h 0 (omega arith), below-all xs (λ i below. h (suc i) (omega arith)))

-- behind the memories stands the first one of the last rows
behind-memory : (setup : Setup) (player : ℕ) (last : Option MemoryPlace) (which : Row) (values : List ℕ)
    → list_all no_space (keyword_of which) ≡ true → not (bytes_eq (keyword_of which) (codes "mem")) ≡ true
    → cond (is_flash (backup_of setup player)) row.Flash row.Was ≡ which
    → place_for setup (pieces (row_line which values)) (placed player (Memory last)) ≡ placed player (Fixed which)
unfolding is_left next_by
behind-memory setup player last which values plain other same =
    let first = first-joined (keyword_of which) (row_words which values) plain in
    rw (first, other, same) refl

last-read : (setup : Setup) (player : ℕ) (n : ConsoleNumbers) (last : Option MemoryPlace) → Fit setup.until n
    → Reads setup (placed player (Memory last)) (map (row_of n) (rows_behind (backup_of setup player)))
    (placed player (Drawn None))
unfolding Follow last_rows is_row keyword_of after_row count_of
last-read setup player n last fit = by_kind (is_flash (backup_of setup player)) refl where
  by_kind : (b : Bool) → is_flash (backup_of setup player) ≡ b
      → Reads setup (placed player (Memory last)) (map (row_of n) (cond b (row.Flash ∷ last_rows) last_rows))
      (placed player (Drawn None))
  by_kind true e =
      reads_more setup (placed player (Memory last)) (placed player (Fixed row.Was)) (placed player (Drawn None))
      (row_of n row.Flash) _ (row-step setup (placed player (Memory last)) player row.Flash n fit refl
      (behind-memory setup player last row.Flash _ refl refl (rw e refl)))
      (rows-read setup player n (Fixed row.Was) (Drawn None) 133 138 last_rows fit (last-follow player))
  by_kind false e =
      reads_more setup (placed player (Memory last)) (placed player (Fixed row.Applied)) (placed player (Drawn None))
      (row_of n row.Was) _ (row-step setup (placed player (Memory last)) player row.Was n fit refl
      (behind-memory setup player last row.Was _ refl refl (rw e refl)))
      (rows-read setup player n (Fixed row.Applied) (Drawn None) 134 138 (row.Applied ∷ row.Counts ∷ []) fit
      (last-follow player).4)

queue_byte-small : (n : ConsoleNumbers) (until queue place : ℕ) → Fit until n → queue < 2 → place < 32
    → value_of (console.QueueByte queue place) n < 256
unfolding is_field field_fits
queue_byte-small n until queue place fit two few =
    let low = lt-ltb queue 2 two in
    let inside = lt-ltb place 32 few in
    let is : is_field (console.QueueByte queue place) ≡ true = rw (low, inside) refl in
    let fits = fit (console.QueueByte queue place) is in
    grind (arith, nat_tests)

wave_byte-small : (n : ConsoleNumbers) (until bank place : ℕ) → Fit until n → bank < 2 → place < 16
    → value_of (console.Board (board.WaveByte bank place)) n < 256
unfolding is_field is_board_field field_fits board_fits
wave_byte-small n until bank place fit two few =
    let low = lt-ltb bank 2 two in
    let inside = lt-ltb place 16 few in
    let is : is_field (console.Board (board.WaveByte bank place)) ≡ true = rw (low, inside) refl in
    let fits = fit (console.Board (board.WaveByte bank place)) is in
    grind (arith, nat_tests)

-- where the bytes of a queue and of a bank stand
queue_a-at : (n : ConsoleNumbers) (place : ℕ) → place < 32
    → value_of (console.QueueByte 0 place) n ≡ slice_index n.queue_a place
unfolding value_at place_of
queue_a-at n place few =
    let no : nat_lt (138 + 32 * 0 + place) 138 ≡ false = grind (arith, nat_tests) in
    let yes : nat_lt (138 + 32 * 0 + place) 170 ≡ true = grind (arith, nat_tests) in
    let at : 138 + 32 * 0 + place - 138 ≡ place = omega arith in
    rw (no, yes, at) refl

queue_b-at : (n : ConsoleNumbers) (place : ℕ) → place < 32
    → value_of (console.QueueByte 1 place) n ≡ slice_index n.queue_b place
unfolding value_at place_of
queue_b-at n place few =
    let no : nat_lt (138 + 32 * 1 + place) 138 ≡ false = grind (arith, nat_tests) in
    let nor : nat_lt (138 + 32 * 1 + place) 170 ≡ false = grind (arith, nat_tests) in
    let yes : nat_lt (138 + 32 * 1 + place) 202 ≡ true = grind (arith, nat_tests) in
    let at : 138 + 32 * 1 + place - 170 ≡ place = omega arith in
    rw (no, nor, yes, at) refl

wave0-at : (n : ConsoleNumbers) (place : ℕ) → place < 16
    → value_of (console.Board (board.WaveByte 0 place)) n ≡ slice_index n.wave0 place
unfolding value_at place_of board_place
wave0-at n place few =
    let p1 : nat_lt (202 + 16 * 0 + place) 138 ≡ false = grind (arith, nat_tests) in
    let p2 : nat_lt (202 + 16 * 0 + place) 170 ≡ false = grind (arith, nat_tests) in
    let p3 : nat_lt (202 + 16 * 0 + place) 202 ≡ false = grind (arith, nat_tests) in
    let p4 : nat_lt (202 + 16 * 0 + place) 218 ≡ true = grind (arith, nat_tests) in
    let at : 202 + 16 * 0 + place - 202 ≡ place = omega arith in
    rw (p1, p2, p3, p4, at) refl

wave1-at : (n : ConsoleNumbers) (place : ℕ) → place < 16
    → value_of (console.Board (board.WaveByte 1 place)) n ≡ slice_index n.wave1 place
unfolding value_at place_of board_place
wave1-at n place few =
    let p1 : nat_lt (202 + 16 * 1 + place) 138 ≡ false = grind (arith, nat_tests) in
    let p2 : nat_lt (202 + 16 * 1 + place) 170 ≡ false = grind (arith, nat_tests) in
    let p3 : nat_lt (202 + 16 * 1 + place) 202 ≡ false = grind (arith, nat_tests) in
    let p4 : nat_lt (202 + 16 * 1 + place) 218 ≡ false = grind (arith, nat_tests) in
    let at : 202 + 16 * 1 + place - 218 ≡ place = omega arith in
    rw (p1, p2, p3, p4, at) refl

queue_a-below : (n : ConsoleNumbers) (until : ℕ) → Fit until n → length n.queue_a ≤ 32 → AreBelow 2 n.queue_a
queue_a-below n until fit few = below-all n.queue_a (λ i inside.
    let at = queue_a-at n i (omega arith) in let small = queue_byte-small n until 0 i fit (omega arith) (omega arith) in
    omega arith)

queue_b-below : (n : ConsoleNumbers) (until : ℕ) → Fit until n → length n.queue_b ≤ 32 → AreBelow 2 n.queue_b
queue_b-below n until fit few = below-all n.queue_b (λ i inside.
    let at = queue_b-at n i (omega arith) in let small = queue_byte-small n until 1 i fit (omega arith) (omega arith) in
    omega arith)

wave0-below : (n : ConsoleNumbers) (until : ℕ) → Fit until n → length n.wave0 ≡ 16 → AreBelow 2 n.wave0
wave0-below n until fit long = below-all n.wave0 (λ i inside.
    let at = wave0-at n i (omega arith) in let small = wave_byte-small n until 0 i fit (omega arith) (omega arith) in
    omega arith)

wave1-below : (n : ConsoleNumbers) (until : ℕ) → Fit until n → length n.wave1 ≡ 16 → AreBelow 2 n.wave1
wave1-below n until fit long = below-all n.wave1 (λ i inside.
    let at = wave1-at n i (omega arith) in let small = wave_byte-small n until 1 i fit (omega arith) (omega arith) in
    omega arith)

-- what a console says behind its first line
abbrev pub behind_heading : Backup → ℕ → ConsoleDraft → List Said
behind_heading backup player c =
    let n = c.numbers in
    Values (row.Console player) []
    ∷ (map (row_of n) processor_rows
    ++ queue_of n 0 n.queue_a ∷ queue_of n 1 n.queue_b ∷ []
    ++ map (row_of n) tone_rows
    ++ WaveBytes 0 n.wave0 ∷ WaveBytes 1 n.wave1 ∷ []
    ++ map (row_of n) board_rows
    ++ map memory_of c.memory
    ++ map (row_of n) (rows_behind backup)
    ++ map drawn_of c.drawn)

console_row-step : (setup : Setup) (player : ℕ) (n : ConsoleNumbers) → Fit setup.until n → player < 4
    → Step setup (placed player (Fixed (row.Console player))) (said_line (Values (row.Console player) []))
    (Values (row.Console player) []) (placed player (Fixed row.Clock))
unfolding row_values count_of is_row is_left after_row
console_row-step setup player n fit few =
    row-step setup (placed player (Fixed (row.Console player))) player (row.Console player) n fit
    (lt-ltb player 4 few) refl

pub heading-step : (setup : Setup) (from : Place) (player : ℕ) (n : ConsoleNumbers) → Fit setup.until n
    → place_for setup (pieces (row_line row.Heading [])) from ≡ placed player (Fixed row.Heading)
    → Step setup from (said_line (Values row.Heading [])) (Values row.Heading [])
    (placed player (Fixed (row.Console player)))
unfolding row_values count_of is_row after_row
heading-step setup from player n fit place = row-step setup from player row.Heading n fit refl place

pub body-read : (setup : Setup) (player : ℕ) (c : ConsoleDraft) → player < 4
    → IsConsole setup.until (backup_of setup player) c
    → Reads setup (placed player (Fixed (row.Console player))) (behind_heading (backup_of setup player) player c)
    (placed player (Drawn (last_drawn None c.drawn)))
body-read setup player c few is =
    let n = c.numbers in
    let fit = is.numbers.fit in
    let whole = is.numbers.whole in
    let queues : Reads setup (placed player (Queue 0)) (queue_of n 0 n.queue_a ∷ queue_of n 1 n.queue_b ∷ [])
    (placed player (Fixed row.Sequencer)) =
    reads_more setup (placed player (Queue 0)) (placed player (Queue 1)) _ _ _
    (queue-step setup player 0 n n.queue_a fit (omega arith) whole.short_a
    (queue_a-below n setup.until fit whole.short_a))
    (reads_more setup (placed player (Queue 1)) (placed player (Fixed row.Sequencer)) _ _ _
    (queue-step setup player 1 n n.queue_b fit (omega arith) whole.short_b
    (queue_b-below n setup.until fit whole.short_b))
    (reads_none setup (placed player (Fixed row.Sequencer)))) in
    let waves : Reads setup (placed player (Wave 0)) (WaveBytes 0 n.wave0 ∷ WaveBytes 1 n.wave1 ∷ [])
    (placed player (Fixed row.Position)) =
    reads_more setup (placed player (Wave 0)) (placed player (Wave 1)) _ _ _
    (wave-step setup player 0 n.wave0 (omega arith) whole.wave0 (wave0-below n setup.until fit whole.wave0))
    (reads_more setup (placed player (Wave 1)) (placed player (Fixed row.Position)) _ _ _
    (wave-step setup player 1 n.wave1 (omega arith) whole.wave1 (wave1-below n setup.until fit whole.wave1))
    (reads_none setup (placed player (Fixed row.Position)))) in
    let at = placed player in
    reads_more setup (at (Fixed (row.Console player))) (at (Fixed row.Clock)) _ (Values (row.Console player) []) _
    (console_row-step setup player n fit few)
    (reads_both setup _ (at (Drawn None)) _ _ (map drawn_of c.drawn)
    (reads_both setup _ (at (Memory (last_row None c.memory))) _ _
    (map (row_of n) (rows_behind (backup_of setup player)))
    (reads_both setup _ (at (Memory None)) _ _ (map memory_of c.memory)
    (reads_both setup _ (at (Fixed row.Position)) _ _ (map (row_of n) board_rows)
    (reads_both setup _ (at (Wave 0)) _ _ (WaveBytes 0 n.wave0 ∷ WaveBytes 1 n.wave1 ∷ [])
    (reads_both setup _ (at (Fixed row.Sequencer)) _ _ (map (row_of n) tone_rows)
    (reads_both setup _ (at (Queue 0)) _ (map (row_of n) processor_rows)
    (queue_of n 0 n.queue_a ∷ queue_of n 1 n.queue_b ∷ [])
    (rows-read setup player n (Fixed row.Clock) (Queue 0) 0 75 processor_rows fit (processor-follow player)) queues)
    (rows-read setup player n (Fixed row.Sequencer) (Wave 0) 79 112 tone_rows fit (tones-follow player))) waves)
    (rows-read setup player n (Fixed row.Position) (Memory None) 112 129 board_rows fit (board-follow player)))
    (memory-read setup player None c.memory is.memory))
    (last-read setup player n (last_row None c.memory) fit))
    (drawn-read setup player None c.drawn is.drawn))
