-- What the lines of a console that are printed come to.
use Rattle.std.proofs.Common.{◌≡◌, ◌<◌, ℕ, zero, suc, ◌+◌, ◌-◌, ◌*◌, Bool, true, false, cond, nat_lt, inl, inr, List, [], ◌∷◌, ◌++◌, length, take, drop, None, refl, ap, sym, ◌∙◌, append_assoc, arith}
use Rattle.std.specs.Prelude.{map, replicate, slice_set}
use Rattle.std.proofs.lemmas.Bool.Decides.{nat_tests}
use Rattle.std.proofs.lemmas.List.{append-nil, take_all}
use Rattle.gba_flash.specs.Flash.{is_flash}
use Rattle.gba_image.specs.declared.backup.Backup.{Backup}
use Rattle.gba_numbers.specs.Fields.{board_place, place_of}
use Rattle.gba_numbers.specs.Numbers.{AreWhole, ConsoleNumbers, numbers_at_first, resized, value_of, with_at, with_single, with_value}
use Rattle.gba_numbers.specs.declared.fields.BoardField.TheVariants as board
use Rattle.gba_numbers.specs.declared.fields.Field.TheVariants as console
use Rattle.gba_frozen.specs.Lines.{Said, Values, QueueBytes, WaveBytes}
use Rattle.gba_frozen.specs.Places.{after_row}
use Rattle.gba_frozen.specs.Reading.{ConsoleDraft, Draft, console_at_first, queue_byte, wave_byte, with_bytes, with_line_of, with_queue_line, with_said, with_values}
use Rattle.gba_frozen.specs.Rows.{count_of, flash_field_of, is_row}
use Rattle.gba_frozen.specs.declared.places.MemoryPlace.{MemoryPlace}
use Rattle.gba_frozen.specs.declared.places.Slot.TheVariants.{Drawn, Fixed, Memory, Queue, Wave}
use Rattle.gba_frozen.specs.declared.rows.Row.TheVariants as row
use Rattle.gba_frozen_text.specs.Laws.{AreFrozen}
use Rattle.gba_frozen_text.specs.Text.{board_rows, console_says, drawn_of, last_rows, memory_of, numbers_say, processor_rows, queue_of, row_of, rows_behind, tone_rows}
use Rattle.gba_frozen_text.proofs.Chain.{drafted}
use Rattle.gba_frozen_text.proofs.Consoles.{behind_heading}
use Rattle.gba_frozen_text.proofs.Filling.{bytes-filled, firsts, firsts-count, keep-one, partly, row_start, set-joined, set-one, value-single}
use Rattle.gba_frozen_text.proofs.RowChains.{AllInner, Follow, Inner, board-follow, inner-drafted, inner_both, inner_more, inner_none, last-follow, processor-follow, row-inner, rows-filled, rows-inner, tones-follow, with_lines, with_lines-both}

-- one list of lines behind another
both : (one other : List Said) (c d e : ConsoleDraft) → with_lines one c ≡ d → with_lines other d ≡ e
    → with_lines (one ++ other) c ≡ e
both one other c d e h k = with_lines-both one other c ∙ ap (with_lines other) h ∙ k

-- where a byte is filled
sets_a : (n : ConsoleNumbers) (k : ℕ) (b w0 w1 bytes : List ℕ) (place value : ℕ) → place < 32
    → with_value (queue_byte 0 place) value (partly n k bytes b w0 w1)
    ≡ partly n k (slice_set bytes place value) b w0 w1
unfolding with_at place_of
sets_a n k b w0 w1 bytes place value few =
    let no : nat_lt (138 + 32 * 0 + place) 138 ≡ false = grind (arith, nat_tests) in
    let yes : nat_lt (138 + 32 * 0 + place) 170 ≡ true = grind (arith, nat_tests) in
    let at : 138 + 32 * 0 + place - 138 ≡ place = omega arith in
    rw (no, yes, at) refl

sets_b : (n : ConsoleNumbers) (k : ℕ) (a w0 w1 bytes : List ℕ) (place value : ℕ) → place < 32
    → with_value (queue_byte 1 place) value (partly n k a bytes w0 w1)
    ≡ partly n k a (slice_set bytes place value) w0 w1
unfolding with_at place_of
sets_b n k a w0 w1 bytes place value few =
    let no : nat_lt (138 + 32 * 1 + place) 138 ≡ false = grind (arith, nat_tests) in
    let nor : nat_lt (138 + 32 * 1 + place) 170 ≡ false = grind (arith, nat_tests) in
    let yes : nat_lt (138 + 32 * 1 + place) 202 ≡ true = grind (arith, nat_tests) in
    let at : 138 + 32 * 1 + place - 170 ≡ place = omega arith in
    rw (no, nor, yes, at) refl

sets_0 : (n : ConsoleNumbers) (k : ℕ) (a b w1 bytes : List ℕ) (place value : ℕ) → place < 16
    → with_value (wave_byte 0 place) value (partly n k a b bytes w1) ≡ partly n k a b (slice_set bytes place value) w1
unfolding with_at place_of board_place
sets_0 n k a b w1 bytes place value few =
    let p1 : nat_lt (202 + 16 * 0 + place) 138 ≡ false = grind (arith, nat_tests) in
    let p2 : nat_lt (202 + 16 * 0 + place) 170 ≡ false = grind (arith, nat_tests) in
    let p3 : nat_lt (202 + 16 * 0 + place) 202 ≡ false = grind (arith, nat_tests) in
    let p4 : nat_lt (202 + 16 * 0 + place) 218 ≡ true = grind (arith, nat_tests) in
    let at : 202 + 16 * 0 + place - 202 ≡ place = omega arith in
    rw (p1, p2, p3, p4, at) refl

sets_1 : (n : ConsoleNumbers) (k : ℕ) (a b w0 bytes : List ℕ) (place value : ℕ) → place < 16
    → with_value (wave_byte 1 place) value (partly n k a b w0 bytes) ≡ partly n k a b w0 (slice_set bytes place value)
unfolding with_at place_of board_place
sets_1 n k a b w0 bytes place value few =
    let p1 : nat_lt (202 + 16 * 1 + place) 138 ≡ false = grind (arith, nat_tests) in
    let p2 : nat_lt (202 + 16 * 1 + place) 170 ≡ false = grind (arith, nat_tests) in
    let p3 : nat_lt (202 + 16 * 1 + place) 202 ≡ false = grind (arith, nat_tests) in
    let p4 : nat_lt (202 + 16 * 1 + place) 218 ≡ false = grind (arith, nat_tests) in
    let at : 202 + 16 * 1 + place - 218 ≡ place = omega arith in
    rw (p1, p2, p3, p4, at) refl

-- the length of a queue makes as many bytes 0
take_nothing : (k : ℕ) → take {A = ℕ} k [] ≡ []
take_nothing zero = refl
take_nothing (suc k) = refl

resized-nothing : (k : ℕ) → resized k [] ≡ replicate k 0
resized-nothing k =
    let none = take_nothing k in
    let all : k - length {A = ℕ} [] ≡ k = omega arith in
    rw (none, all) refl

length_a-set : (n : ConsoleNumbers) (b w0 w1 : List ℕ) → AreWhole n
    → with_value (console.Board (board.QueueLength 0)) (length n.queue_a) (partly n 76 [] b w0 w1)
    ≡ partly n 77 (replicate (length n.queue_a) 0) b w0 w1
unfolding with_at with_single place_of board_place
length_a-set n b w0 w1 whole =
    let values : slice_set (take 76 n.values ++ drop 76 firsts) 76 (length n.queue_a)
    ≡ take 77 n.values ++ drop 77 firsts =
    ap (slice_set (take 76 n.values ++ drop 76 firsts) 76) whole.queue_a
    ∙ set-joined 76 n.values firsts (omega (arith, whole.values)) (omega (arith, firsts-count, whole.values)) in
    let bytes = resized-nothing (length n.queue_a) in
    rw (values, bytes) refl

length_b-set : (n : ConsoleNumbers) (a w0 w1 : List ℕ) → AreWhole n
    → with_value (console.Board (board.QueueLength 1)) (length n.queue_b) (partly n 78 a [] w0 w1)
    ≡ partly n 79 a (replicate (length n.queue_b) 0) w0 w1
unfolding with_at with_single place_of board_place
length_b-set n a w0 w1 whole =
    let values : slice_set (take 78 n.values ++ drop 78 firsts) 78 (length n.queue_b)
    ≡ take 79 n.values ++ drop 79 firsts =
    ap (slice_set (take 78 n.values ++ drop 78 firsts) 78) whole.queue_b
    ∙ set-joined 78 n.values firsts (omega (arith, whole.values)) (omega (arith, firsts-count, whole.values)) in
    let bytes = resized-nothing (length n.queue_b) in
    rw (values, bytes) refl

-- a queue
current_a : (n : ConsoleNumbers) (b w0 w1 : List ℕ) → AreWhole n
    → with_value (console.Board (board.QueueCurrent 0)) (value_of (console.Board (board.QueueCurrent 0)) n)
    (partly n 75 [] b w0 w1)
    ≡ partly n 76 [] b w0 w1
unfolding place_of board_place
current_a n b w0 w1 whole =
    ap (λ (v : ℕ). with_at 75 v (partly n 75 [] b w0 w1)) (value-single n 75 (omega arith))
    ∙ set-one n 75 [] b w0 w1 whole.values (omega arith) refl refl

current_b : (n : ConsoleNumbers) (a w0 w1 : List ℕ) → AreWhole n
    → with_value (console.Board (board.QueueCurrent 1)) (value_of (console.Board (board.QueueCurrent 1)) n)
    (partly n 77 a [] w0 w1)
    ≡ partly n 78 a [] w0 w1
unfolding place_of board_place
current_b n a w0 w1 whole =
    ap (λ (v : ℕ). with_at 77 v (partly n 77 a [] w0 w1)) (value-single n 77 (omega arith))
    ∙ set-one n 77 a [] w0 w1 whole.values (omega arith) refl refl

queue_a-filled : (n : ConsoleNumbers) (b w0 w1 : List ℕ) → AreWhole n
    → with_queue_line 0 (value_of (console.Board (board.QueueCurrent 0)) n) n.queue_a (partly n 75 [] b w0 w1)
    ≡ partly n 77 n.queue_a b w0 w1
queue_a-filled n b w0 w1 whole =
    ap (λ (m : ConsoleNumbers). with_bytes (queue_byte 0) 0 n.queue_a
    (with_value (console.Board (board.QueueLength 0)) (length n.queue_a) m))
    (current_a n b w0 w1 whole)
    ∙ ap (with_bytes (queue_byte 0) 0 n.queue_a) (length_a-set n b w0 w1 whole)
    ∙ bytes-filled (queue_byte 0) (λ bytes. partly n 77 bytes b w0 w1) 32 (sets_a n 77 b w0 w1) [] n.queue_a
    (omega (arith, whole.short_a))

queue_b-filled : (n : ConsoleNumbers) (a w0 w1 : List ℕ) → AreWhole n
    → with_queue_line 1 (value_of (console.Board (board.QueueCurrent 1)) n) n.queue_b (partly n 77 a [] w0 w1)
    ≡ partly n 79 a n.queue_b w0 w1
queue_b-filled n a w0 w1 whole =
    ap (λ (m : ConsoleNumbers). with_bytes (queue_byte 1) 0 n.queue_b
    (with_value (console.Board (board.QueueLength 1)) (length n.queue_b) m))
    (current_b n a w0 w1 whole)
    ∙ ap (with_bytes (queue_byte 1) 0 n.queue_b) (length_b-set n a w0 w1 whole)
    ∙ bytes-filled (queue_byte 1) (λ bytes. partly n 79 a bytes w0 w1) 32 (sets_b n 79 a w0 w1) [] n.queue_b
    (omega (arith, whole.short_b))

-- a bank
wave_0-filled : (n : ConsoleNumbers) (k : ℕ) (a b w1 : List ℕ) → AreWhole n
    → with_bytes (wave_byte 0) 0 n.wave0 (partly n k a b (replicate 16 0) w1) ≡ partly n k a b n.wave0 w1
wave_0-filled n k a b w1 whole =
    ap (λ (c : ℕ). with_bytes (wave_byte 0) 0 n.wave0 (partly n k a b (replicate c 0) w1)) (sym whole.wave0)
    ∙ bytes-filled (wave_byte 0) (λ bytes. partly n k a b bytes w1) 16 (sets_0 n k a b w1) [] n.wave0
    (omega (arith, whole.wave0))

wave_1-filled : (n : ConsoleNumbers) (k : ℕ) (a b w0 : List ℕ) → AreWhole n
    → with_bytes (wave_byte 1) 0 n.wave1 (partly n k a b w0 (replicate 16 0)) ≡ partly n k a b w0 n.wave1
wave_1-filled n k a b w0 whole =
    ap (λ (c : ℕ). with_bytes (wave_byte 1) 0 n.wave1 (partly n k a b w0 (replicate c 0))) (sym whole.wave1)
    ∙ bytes-filled (wave_byte 1) (λ bytes. partly n k a b w0 bytes) 16 (sets_1 n k a b w0) [] n.wave1
    (omega (arith, whole.wave1))

-- the numbers of the flash are 0 where there is none
flash-kept : (n : ConsoleNumbers) (a b w0 w1 : List ℕ) → AreWhole n
    → ((part : ℕ) → part < 4 → value_of (flash_field_of part) n ≡ 0) → partly n 129 a b w0 w1 ≡ partly n 133 a b w0 w1
unfolding place_of firsts numbers_at_first
flash-kept n a b w0 w1 whole none =
    keep-one n 129 a b w0 w1 whole.values (omega arith) (sym (value-single n 129 (omega arith)) ∙ none 0 (omega arith))
    ∙ keep-one n 130 a b w0 w1 whole.values (omega arith)
    (sym (value-single n 130 (omega arith)) ∙ none 1 (omega arith))
    ∙ keep-one n 131 a b w0 w1 whole.values (omega arith)
    (sym (value-single n 131 (omega arith)) ∙ none 2 (omega arith))
    ∙ keep-one n 132 a b w0 w1 whole.values (omega arith)
    (sym (value-single n 132 (omega arith)) ∙ none 3 (omega arith))

flash-follow : (player : ℕ) → Follow player (Fixed row.Flash) 129 (row.Flash ∷ last_rows) (Drawn None) 138
unfolding Follow after_row row_start is_row count_of
flash-follow player = (refl, refl, refl, refl, last-follow player)

last-filled : (backup : Backup) (player : ℕ) (n : ConsoleNumbers) (c : ConsoleDraft) (a b w0 w1 : List ℕ) → AreWhole n
    → (is_flash backup ≡ false → (part : ℕ) → part < 4 → value_of (flash_field_of part) n ≡ 0)
    → with_lines (map (row_of n) (rows_behind backup)) (record c { numbers = partly n 129 a b w0 w1 })
    ≡ record c { numbers = partly n 138 a b w0 w1 }
last-filled backup player n c a b w0 w1 whole none = by_kind (is_flash backup) refl where
  by_kind : (f : Bool) → is_flash backup ≡ f
      → with_lines (map (row_of n) (cond f (row.Flash ∷ last_rows) last_rows))
      (record c { numbers = partly n 129 a b w0 w1 })
      ≡ record c { numbers = partly n 138 a b w0 w1 }
  by_kind true e =
      rows-filled player n c (Fixed row.Flash) (Drawn None) 129 138 (row.Flash ∷ last_rows) a b w0 w1 whole.values
      (omega arith) (inr (omega arith)) (flash-follow player)
  by_kind false e =
      ap (λ (m : ConsoleNumbers). with_lines (map (row_of n) last_rows) (record c { numbers = m }))
      (flash-kept n a b w0 w1 whole (none e))
      ∙ rows-filled player n c (Fixed row.Was) (Drawn None) 133 138 last_rows a b w0 w1 whole.values (omega arith)
      (inr (omega arith)) (last-follow player)

-- lines of memories and drawn lines
memory-filled : (lines : List (MemoryPlace × List ℕ)) (c : ConsoleDraft)
    → with_lines (map memory_of lines) c ≡ record c { memory = c.memory ++ lines }
unfolding with_lines with_line_of
memory-filled [] c = ap (λ (m : List (MemoryPlace × List ℕ)). record c { memory = m }) (sym (append-nil c.memory))
memory-filled (line ∷ lines) c =
    memory-filled lines (record c { memory = c.memory ++ line ∷ [] })
    ∙ ap (λ (m : List (MemoryPlace × List ℕ)). record c { memory = m }) (append_assoc c.memory (line ∷ []) lines)

drawn-filled : (lines : List (ℕ × List ℕ)) (c : ConsoleDraft)
    → with_lines (map drawn_of lines) c ≡ record c { drawn = c.drawn ++ lines }
unfolding with_lines with_line_of
drawn-filled [] c = ap (λ (m : List (ℕ × List ℕ)). record c { drawn = m }) (sym (append-nil c.drawn))
drawn-filled (line ∷ lines) c =
    drawn-filled lines (record c { drawn = c.drawn ++ line ∷ [] })
    ∙ ap (λ (m : List (ℕ × List ℕ)). record c { drawn = m }) (append_assoc c.drawn (line ∷ []) lines)

-- all numbers
numbers-whole : (n : ConsoleNumbers) → AreWhole n → partly n 138 n.queue_a n.queue_b n.wave0 n.wave1 ≡ n
unfolding firsts numbers_at_first
numbers-whole n whole =
    let all : take 138 n.values ++ drop 138 firsts ≡ n.values =
    append-nil (take 138 n.values) ∙ take_all 138 n.values (omega (arith, whole.values)) in
    ap (λ (values : List ℕ). record {
      values = values;
      queue_a = n.queue_a;
      queue_b = n.queue_b;
      wave0 = n.wave0;
      wave1 = n.wave1;
    }) all

-- a console
abbrev bare : ConsoleNumbers → ConsoleDraft
bare n = record { numbers = n; memory = []; drawn = [] }

queues-filled : (n : ConsoleNumbers) (w0 w1 : List ℕ) → AreWhole n
    → with_lines (queue_of n 0 n.queue_a ∷ queue_of n 1 n.queue_b ∷ []) (bare (partly n 75 [] [] w0 w1))
    ≡ bare (partly n 79 n.queue_a n.queue_b w0 w1)
unfolding with_lines with_line_of
queues-filled n w0 w1 whole =
    ap (λ (m : ConsoleNumbers). bare
    (with_queue_line 1 (value_of (console.Board (board.QueueCurrent 1)) n) n.queue_b m))
    (queue_a-filled n [] w0 w1 whole)
    ∙ ap bare (queue_b-filled n n.queue_a w0 w1 whole)

waves-filled : (n : ConsoleNumbers) (k : ℕ) (a b : List ℕ) → AreWhole n
    → with_lines (WaveBytes 0 n.wave0 ∷ WaveBytes 1 n.wave1 ∷ [])
    (bare (partly n k a b (replicate 16 0) (replicate 16 0)))
    ≡ bare (partly n k a b n.wave0 n.wave1)
unfolding with_lines with_line_of
waves-filled n k a b whole =
    ap (λ (m : ConsoleNumbers). bare (with_bytes (wave_byte 1) 0 n.wave1 m))
    (wave_0-filled n k a b (replicate 16 0) whole)
    ∙ ap bare (wave_1-filled n k a b n.wave0 whole)

at_first : (n : ConsoleNumbers) → console_at_first ≡ bare (partly n 0 [] [] (replicate 16 0) (replicate 16 0))
unfolding firsts numbers_at_first
at_first n = refl

body-filled : (backup : Backup) (player : ℕ) (c : ConsoleDraft) → AreWhole c.numbers
    → (is_flash backup ≡ false → (part : ℕ) → part < 4 → value_of (flash_field_of part) c.numbers ≡ 0)
    → with_lines (map (row_of c.numbers) processor_rows
    ++ queue_of c.numbers 0 c.numbers.queue_a ∷ queue_of c.numbers 1 c.numbers.queue_b ∷ []
    ++ map (row_of c.numbers) tone_rows
    ++ WaveBytes 0 c.numbers.wave0 ∷ WaveBytes 1 c.numbers.wave1 ∷ []
    ++ map (row_of c.numbers) board_rows
    ++ map memory_of c.memory
    ++ map (row_of c.numbers) (rows_behind backup)
    ++ map drawn_of c.drawn) console_at_first ≡ c
body-filled backup player c whole none =
    let n = c.numbers in
    let z : List ℕ = replicate 16 0 in
    let a = n.queue_a in
    let b = n.queue_b in
    let first = bare (partly n 0 [] [] z z) in
    let kept : ConsoleDraft = record { numbers = partly n 129 a b n.wave0 n.wave1; memory = c.memory; drawn = [] } in
    let full : ConsoleDraft = record { numbers = partly n 138 a b n.wave0 n.wave1; memory = c.memory; drawn = [] } in
    both _ (map drawn_of c.drawn) console_at_first full c
    (both _ (map (row_of n) (rows_behind backup)) console_at_first kept full
    (both _ (map memory_of c.memory) console_at_first (bare (partly n 129 a b n.wave0 n.wave1)) kept
    (both _ (map (row_of n) board_rows) console_at_first (bare (partly n 112 a b n.wave0 n.wave1))
    (bare (partly n 129 a b n.wave0 n.wave1))
    (both _ (WaveBytes 0 n.wave0 ∷ WaveBytes 1 n.wave1 ∷ []) console_at_first (bare (partly n 112 a b z z))
    (bare (partly n 112 a b n.wave0 n.wave1))
    (both _ (map (row_of n) tone_rows) console_at_first (bare (partly n 79 a b z z)) (bare (partly n 112 a b z z))
    (both (map (row_of n) processor_rows) (queue_of n 0 a ∷ queue_of n 1 b ∷ []) console_at_first
    (bare (partly n 75 [] [] z z)) (bare (partly n 79 a b z z))
    (ap (with_lines (map (row_of n) processor_rows)) (at_first n)
    ∙ rows-filled player n first (Fixed row.Clock) (Queue 0) 0 75 processor_rows [] [] z z whole.values (omega arith)
    (inl (omega arith)) (processor-follow player))
    (queues-filled n z z whole))
    (rows-filled player n first (Fixed row.Sequencer) (Wave 0) 79 112 tone_rows a b z z whole.values (omega arith)
    (inr (omega arith)) (tones-follow player)))
    (waves-filled n 112 a b whole))
    (rows-filled player n first (Fixed row.Position) (Memory None) 112 129 board_rows a b n.wave0 n.wave1 whole.values
    (omega arith) (inr (omega arith)) (board-follow player)))
    (memory-filled c.memory (bare (partly n 129 a b n.wave0 n.wave1))))
    (last-filled backup player n kept a b n.wave0 n.wave1 whole none))
    (drawn-filled c.drawn full
    ∙ ap (λ (m : ConsoleNumbers). record { numbers = m; memory = c.memory; drawn = c.drawn }) (numbers-whole n whole))

behind-filled : (backup : Backup) (player : ℕ) (c : ConsoleDraft) → AreWhole c.numbers
    → (is_flash backup ≡ false → (part : ℕ) → part < 4 → value_of (flash_field_of part) c.numbers ≡ 0)
    → with_lines (behind_heading backup player c) console_at_first ≡ c
unfolding with_lines with_line_of with_values
behind-filled backup player c whole none = body-filled backup player c whole none

-- none of its lines but the first begins a console
queue-inner : (queue current : ℕ) (bytes : List ℕ) → Inner (QueueBytes queue current bytes)
unfolding with_said
queue-inner queue current bytes d = refl

wave-inner : (bank : ℕ) (bytes : List ℕ) → Inner (WaveBytes bank bytes)
unfolding with_said
wave-inner bank bytes d = refl

memory-inner : (lines : List (MemoryPlace × List ℕ)) → AllInner (map memory_of lines)
unfolding with_said
memory-inner [] = inner_none
memory-inner (line ∷ lines) = inner_more (memory_of line) (map memory_of lines) (λ d. refl) (memory-inner lines)

drawn-inner : (lines : List (ℕ × List ℕ)) → AllInner (map drawn_of lines)
unfolding with_said
drawn-inner [] = inner_none
drawn-inner (line ∷ lines) = inner_more (drawn_of line) (map drawn_of lines) (λ d. refl) (drawn-inner lines)

last-inner : (backup : Backup) (player : ℕ) (n : ConsoleNumbers) → AllInner (map (row_of n) (rows_behind backup))
last-inner backup player n = by_kind (is_flash backup) where
  by_kind : (f : Bool) → AllInner (map (row_of n) (cond f (row.Flash ∷ last_rows) last_rows))
  by_kind true =
      rows-inner player n (Fixed row.Flash) (Drawn None) 129 138 (row.Flash ∷ last_rows) (flash-follow player)
  by_kind false = rows-inner player n (Fixed row.Was) (Drawn None) 133 138 last_rows (last-follow player)

behind-inner : (backup : Backup) (player : ℕ) (c : ConsoleDraft) → AllInner (behind_heading backup player c)
behind-inner backup player c =
    let n = c.numbers in
    inner_more (Values (row.Console player) []) _ (row-inner (row.Console player) [] refl)
    (inner_both _ (map drawn_of c.drawn)
    (inner_both _ (map (row_of n) (rows_behind backup))
    (inner_both _ (map memory_of c.memory)
    (inner_both _ (map (row_of n) board_rows)
    (inner_both _ (WaveBytes 0 n.wave0 ∷ WaveBytes 1 n.wave1 ∷ [])
    (inner_both _ (map (row_of n) tone_rows)
    (inner_both (map (row_of n) processor_rows) (queue_of n 0 n.queue_a ∷ queue_of n 1 n.queue_b ∷ [])
    (rows-inner player n (Fixed row.Clock) (Queue 0) 0 75 processor_rows (processor-follow player))
    (inner_more (queue_of n 0 n.queue_a) _ (queue-inner 0 _ n.queue_a)
    (inner_more (queue_of n 1 n.queue_b) [] (queue-inner 1 _ n.queue_b) inner_none)))
    (rows-inner player n (Fixed row.Sequencer) (Wave 0) 79 112 tone_rows (tones-follow player)))
    (inner_more (WaveBytes 0 n.wave0) _ (wave-inner 0 n.wave0)
    (inner_more (WaveBytes 1 n.wave1) [] (wave-inner 1 n.wave1) inner_none)))
    (rows-inner player n (Fixed row.Position) (Memory None) 112 129 board_rows (board-follow player)))
    (memory-inner c.memory))
    (last-inner backup player n))
    (drawn-inner c.drawn))

pub console-drafted : (until : ℕ) (backup : Backup) (player : ℕ) (c : ConsoleDraft) (d : Draft)
    → AreFrozen until backup c.numbers → drafted (console_says backup player c) d ≡ record d {
      consoles = d.consoles ++ c ∷ [];
    }
unfolding console_says numbers_say drafted with_said
console-drafted until backup player c d are =
    inner-drafted (behind_heading backup player c) d d.consoles console_at_first (behind-inner backup player c)
    ∙ ap (λ (e : ConsoleDraft). record d { consoles = d.consoles ++ e ∷ [] })
    (behind-filled backup player c are.whole are.no_flash)
