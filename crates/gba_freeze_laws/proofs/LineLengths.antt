-- How long the lines of a frozen file are, at most, whatever their numbers.
use Rattle.std.proofs.Common.{◌≡◌, ℕ, zero, suc, ◌+◌, ◌*◌, ◌/◌, ◌%◌, ◌==◌, ◌≤◌, Bool, true, false, nat_le, List, [], ◌∷◌, ◌++◌, length, Option, None, Some, refl, arith, lit≤, if◌then◌else◌}
use Rattle.std.specs.Prelude.{decimal, slice_index_or}
use Rattle.std.specs.List.{list_all}
use Rattle.std.proofs.lemmas.Bool.{and_parts}
use Rattle.std.proofs.lemmas.Bool.Decides.{nat_tests}
use Rattle.std.proofs.lemmas.List.{length-append}
use Rattle.std.specs.Fmt.{digit_glyph, digits, digits_onto}
use Rattle.gba_frozen.specs.Lines.{queue_name}
use Rattle.gba_frozen.specs.Rows.{count_of, keyword_of, number_of_row, number_words, row_line, row_words, spelled_all, spelling_of}
use Rattle.gba_frozen.specs.Spelling.{after_words, hex_all, spelled}
use Rattle.gba_frozen.specs.Words.{memory_name}
use Rattle.gba_frozen.specs.declared.places.MemoryPlace.{MemoryPlace}
use Rattle.gba_frozen.specs.declared.rows.Row.{Row}
use Rattle.gba_frozen.specs.declared.rows.Row.TheVariants as row
use Rattle.gba_frozen.specs.declared.rows.Spelling.{Spelling}
use Rattle.gba_frozen.specs.declared.rows.Spelling.TheVariants.{Decimal, Word}
use Rattle.gba_frozen.proofs.RowCounts.{count_few}
use Rattle.gba_frozen_print.proofs.SpelledAgain.{length-hex, length-hex_all}
use Rattle.gba_frozen_print.specs.Printed.{digest_text, drawn_text, ended, long_digits, memory_text, queue_text, queue_word, signal_text, wave_text}
use Rattle.gba_frozen_text.proofs.Ranges.{row-count}
use Rattle.gba_frozen_text.specs.Text.{row_values}
use Rattle.gba_numbers.specs.Numbers.{ConsoleNumbers}
use Rattle.gba_numbers.specs.declared.names.MemoryName.{MemoryName}
use Rattle.gba_numbers.specs.declared.names.MemoryName.TheVariants as memory
use Rattle.gba_terms.specs.Hexadecimal.{hex}
use Rattle.gba_terms.specs.RegisterNames.{register_names}
use Rattle.link_node.specs.Packing.{packed_head, packed_words}
use Rattle.link_node.specs.declared.signal.Signal.{Signal}

-- ---- numbers

-- so many digits at most
onto-short : (most n : ℕ) (after : List ℕ) → length (digits_onto most 10 false n after) ≤ most + length after
onto-short zero n after = omega arith
onto-short (suc most) n after =
    by_last (n / 10 == 0) (onto-short most (n / 10) (digit_glyph false (n % 10) ∷ after))
  where
    by_last : (last : Bool)
        → length (digits_onto most 10 false (n / 10) (digit_glyph false (n % 10) ∷ after)) ≤ most + suc (length after)
        → length
        (if last then digit_glyph false (n % 10) ∷ after
        else digits_onto most 10 false (n / 10) (digit_glyph false (n % 10) ∷ after))
        ≤ suc most + length after
    by_last true rest = omega arith
    by_last false rest = omega (arith, rest)

decimal-short : (n : ℕ) → length (decimal n) ≤ 64
unfolding digits
decimal-short n = onto-short 64 n []

spelled-short : (spelling : Spelling) (n : ℕ) → length (spelled spelling n) ≤ 64
spelled-short Decimal n = decimal-short n
spelled-short Word n = omega (arith, length-hex 8 n)

-- ---- rows

-- whether a first word isn't longer than any keyword
abbrev is_short : List ℕ → Bool
is_short word = nat_le (length word) 13

name-short : (names : List (List ℕ)) (place : ℕ) → list_all is_short names ≡ true
    → length (slice_index_or names place []) ≤ 13
name-short [] place are = omega arith
name-short (name ∷ names) zero are =
    let here = (and_parts (is_short name) (list_all is_short names) are).0 in
    grind (arith, nat_tests)
name-short (name ∷ names) (suc place) are =
    name-short names place (and_parts (is_short name) (list_all is_short names) are).1

registers-short : list_all is_short register_names ≡ true
unfolding register_names
registers-short = refl

keyword-short : (which : Row) → length (keyword_of which) ≤ 13
unfolding keyword_of
keyword-short row.Heading = lit≤ tt
keyword-short (row.Console player) = lit≤ tt
keyword-short row.Clock = lit≤ tt
keyword-short row.Halted = lit≤ tt
keyword-short (row.Register register) = name-short register_names register registers-short
keyword-short (row.Timer timer) = lit≤ tt
keyword-short (row.Dma channel) = lit≤ tt
keyword-short row.Sequencer = lit≤ tt
keyword-short (row.Tone tone) = lit≤ tt
keyword-short row.Position = lit≤ tt
keyword-short (row.Affine background) = lit≤ tt
keyword-short row.Serial = lit≤ tt
keyword-short row.Known = lit≤ tt
keyword-short row.Flash = lit≤ tt
keyword-short row.Was = lit≤ tt
keyword-short row.Applied = lit≤ tt
keyword-short row.Counts = lit≤ tt

number-short : (number : Option ℕ) (words : List (List ℕ))
    → length (after_words (number_words number ++ words)) ≤ 65 + length (after_words words)
number-short None words = omega arith
number-short (Some number) words =
    omega (arith, length-append (decimal number) (after_words words), decimal-short number)

values-short : (spelling : Spelling) (values : List ℕ)
    → length (after_words (spelled_all spelling values)) ≤ 65 * length values
values-short spelling [] = omega arith
values-short spelling (value ∷ values) =
    omega (
      arith,
      length-append (spelled spelling value) (after_words (spelled_all spelling values)),
      spelled-short spelling value,
      values-short spelling values,
    )

pub row-short : (which : Row) (values : List ℕ) → length values ≤ 8 → length (row_line which values) ≤ 700
row-short which values few =
    let spelling = spelling_of which in
    omega (
      arith,
      length-append (keyword_of which) (after_words (row_words which values)),
      keyword-short which,
      number-short (number_of_row which) (spelled_all spelling values),
      values-short spelling values,
      few,
    )

pub row-few : (which : Row) (n : ConsoleNumbers) → length (row_values which 0 (count_of which) n) ≤ 8
row-few which n = omega (arith, row-count which 0 (count_of which) n, count_few which)

-- ---- the other lines

queue-name_short : (queue : ℕ) → length (queue_name queue) ≤ 1
queue-name_short zero = lit≤ tt
queue-name_short (suc queue) = by_test (suc queue == 0) where
  by_test : (first : Bool) → length (if first then queue_name 0 else queue_name 1) ≤ 1
  by_test true = lit≤ tt
  by_test false = lit≤ tt

queue-word_short : (bytes : List ℕ) → length bytes ≤ 32 → length (queue_word bytes) ≤ 64
queue-word_short bytes few = by_test (length bytes == 0) where
  by_test : (none : Bool) → length (if none then 45 ∷ [] else hex_all 2 bytes) ≤ 64
  by_test true = lit≤ tt
  by_test false = omega (arith, length-hex_all 2 bytes, few)

pub queue-short : (queue current : ℕ) (bytes : List ℕ) → length bytes ≤ 32
    → length (queue_text queue current bytes) ≤ 150
queue-short queue current bytes few =
    let last = queue_word bytes ++ [] in
    let count = decimal (length bytes) ++ (32 ∷ last) in
    let now = hex 2 current ++ (32 ∷ count) in
    omega (
      arith,
      length-append (queue_name queue) (32 ∷ now),
      length-append (hex 2 current) (32 ∷ count),
      length-append (decimal (length bytes)) (32 ∷ last),
      length-append (queue_word bytes) [],
      queue-name_short queue,
      length-hex 2 current,
      decimal-short (length bytes),
      queue-word_short bytes few,
    )

pub wave-short : (bank : ℕ) (bytes : List ℕ) → length bytes ≡ 16 → length (wave_text bank bytes) ≤ 150
wave-short bank bytes long =
    omega (
      arith,
      length-append (decimal bank) (32 ∷ (hex_all 2 bytes ++ [])),
      length-append (hex_all 2 bytes) [],
      decimal-short bank,
      length-hex_all 2 bytes,
      long,
    )

memory-name_short : (name : MemoryName) → length (memory_name name) ≤ 7
memory-name_short memory.Io = lit≤ tt
memory-name_short memory.Wram = lit≤ tt
memory-name_short memory.Iwram = lit≤ tt
memory-name_short memory.Palette = lit≤ tt
memory-name_short memory.Vram = lit≤ tt
memory-name_short memory.Oam = lit≤ tt
memory-name_short memory.Backup = lit≤ tt

pub memory-short : (place : MemoryPlace) (bytes : List ℕ) → length bytes ≤ 32 → length (memory_text place bytes) ≤ 90
memory-short place bytes few =
    let digits = hex_all 2 bytes ++ [] in
    omega (
      arith,
      length-append (memory_name place.name) (32 ∷ (hex 6 place.offset ++ (32 ∷ digits))),
      length-append (hex 6 place.offset) (32 ∷ digits),
      length-append (hex_all 2 bytes) [],
      memory-name_short place.name,
      length-hex 6 place.offset,
      length-hex_all 2 bytes,
      few,
    )

pub drawn-short : (line : ℕ) (colours : List ℕ) → length colours ≡ 240 → length (drawn_text line colours) ≤ 1040
drawn-short line colours long =
    omega (
      arith,
      length-append (decimal line) (32 ∷ (hex_all 4 colours ++ [])),
      length-append (hex_all 4 colours) [],
      decimal-short line,
      length-hex_all 4 colours,
      long,
    )

pub signal-short : (sender : ℕ) (signal : Signal) → length (signal_text sender signal) ≤ 150
unfolding long_digits
signal-short sender signal =
    let parts = hex 16 (packed_words signal) ++ [] in
    let head = hex 16 (packed_head signal) ++ (32 ∷ parts) in
    omega (
      arith,
      length-append (decimal sender) (32 ∷ head),
      length-append (hex 16 (packed_head signal)) (32 ∷ parts),
      length-append (hex 16 (packed_words signal)) [],
      decimal-short sender,
      length-hex 16 (packed_head signal),
      length-hex 16 (packed_words signal),
    )

pub digest-short : (digest : List ℕ) → length digest ≡ 32 → length (digest_text digest) ≤ 70
digest-short digest long = omega (arith, length-append (hex_all 2 digest) [], length-hex_all 2 digest, long)

pub ended-long : (line : List ℕ) → length (ended line) ≡ length line + 1
ended-long line = length-append line (10 ∷ [])
