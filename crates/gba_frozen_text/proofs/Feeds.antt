-- No line has a line feed within it.
use Rattle.std.proofs.Common.{◌≡◌, ℕ, zero, suc, ◌^◌, ◌<◌, ◌≤◌, ◌==◌, Bool, true, false, ◌&&◌, List, [], ◌∷◌, ◌++◌, length, get_or, refl, ◌∙◌, arith, rules}
use Rattle.std.specs.Prelude.{codes, decimal, slice_index_or}
use Rattle.std.specs.Char.{is_ascii_digit}
use Rattle.std.specs.List.{list_all}
use Rattle.std.specs.Str.Parse.{digits_value}
use Rattle.std.proofs.lemmas.Bool.Decides.{nat_tests}
use Rattle.std.proofs.lemmas.Fmt.{digits_decimal}
use Rattle.std.proofs.lemmas.List.Folds.{list_all-append}
use Rattle.std.proofs.lemmas.Str.Parse.{IsNumeralModel, numerals_by_value}
use Rattle.gba_terms.specs.Hexadecimal.{hex}
use Rattle.gba_terms.specs.RegisterNames.{register_names}
use Rattle.gba_text.specs.Numbers.{all_digits}
use Rattle.gba_text.proofs.Spans.{first_of_all, rest_of_all}
use Rattle.link_node.specs.Packing.{packed_head, packed_words}
use Rattle.link_node.specs.declared.signal.Signal.{Signal}
use Rattle.gba_numbers.specs.declared.names.MemoryName.{MemoryName}
use Rattle.gba_numbers.specs.declared.names.MemoryName.TheVariants as memory
use Rattle.gba_frozen.specs.Lines.{queue_name}
use Rattle.gba_frozen.specs.Rows.{is_row, keyword_of, number_of_row, number_words, row_line, row_words, spelled_all, spelling_of}
use Rattle.gba_frozen.specs.Spelling.{after_words, hex_all, is_digit, joined, spelled}
use Rattle.gba_frozen.specs.Words.{memory_name}
use Rattle.gba_frozen.specs.declared.places.MemoryPlace.{MemoryPlace}
use Rattle.gba_frozen.specs.declared.rows.Row.{Row}
use Rattle.gba_frozen.specs.declared.rows.Row.TheVariants as row
use Rattle.gba_frozen.specs.declared.rows.Spelling.{Spelling}
use Rattle.gba_frozen.specs.declared.rows.Spelling.TheVariants.{Decimal, Word}
use Rattle.gba_frozen_read.proofs.FedLines.{no_feed}
use Rattle.gba_frozen_print.specs.Laws.{AreSpellable, is_spellable}
use Rattle.gba_frozen_print.specs.Printed.{digest_text, drawn_text, long_digits, memory_text, queue_text, queue_word, signal_text, wave_text}
use Rattle.gba_frozen_print.proofs.SpelledAgain.{hex-digits, hex_all-digits, list_all-weaker}

-- a word, and words, without one
abbrev pub Fed : List ℕ → Type 0
Fed word = list_all no_feed word ≡ true

unfoldable pub AreFed : List (List ℕ) → Type 0
AreFed [] = Unit {0}
AreFed (word ∷ words) = Fed word × AreFed words

fed_append : (one other : List ℕ) → Fed one → Fed other → Fed (one ++ other)
fed_append one other h k = list_all-append no_feed one other ∙ rw (h, k) refl

fed_after : (words : List (List ℕ)) → AreFed words → Fed (after_words words)
unfolding AreFed
fed_after [] h = refl
fed_after (word ∷ words) h = fed_append word (after_words words) h.0 (fed_after words h.1)

fed_joined : (word : List ℕ) (words : List (List ℕ)) → Fed word → AreFed words → Fed (joined word words)
fed_joined word words h k = fed_append word (after_words words) h (fed_after words k)

-- numbers
abbrev AllDigits : List ℕ → Type 0
AllDigits ds = all_digits ds ≡ true

own : IsNumeralModel AllDigits (digits_value 10)
own = numerals_by_value AllDigits (search rules)

digit-fed : (b : ℕ) → is_ascii_digit b ≡ true → no_feed b ≡ true
digit-fed b h = grind (arith, nat_tests)

hex-fed : (b : ℕ) → is_digit b ≡ true → no_feed b ≡ true
hex-fed b h = grind (arith, nat_tests)

fed_decimal : (n : ℕ) → n < 2 ^ 64 → Fed (decimal n)
fed_decimal n small = list_all-weaker is_ascii_digit no_feed digit-fed (decimal n) (digits_decimal own n small)

fed_hex : (count n : ℕ) → Fed (hex count n)
fed_hex count n = list_all-weaker is_digit no_feed hex-fed (hex count n) (hex-digits count n)

fed_all : (width : ℕ) (ns : List ℕ) → Fed (hex_all width ns)
fed_all width ns = list_all-weaker is_digit no_feed hex-fed (hex_all width ns) (hex_all-digits width ns)

fed_spelled : (spelling : Spelling) (n : ℕ) → is_spellable spelling n ≡ true → Fed (spelled spelling n)
fed_spelled Decimal n small = fed_decimal n (grind (arith, nat_tests))
fed_spelled Word n small = fed_hex 8 n

fed_values : (spelling : Spelling) (values : List ℕ) → AreSpellable spelling values
    → AreFed (spelled_all spelling values)
unfolding AreSpellable AreFed
fed_values spelling [] are = tt
fed_values spelling (value ∷ values) are = (fed_spelled spelling value are.0, fed_values spelling values are.1)

-- the first words of rows
abbrev names_fed : List (List ℕ) → Bool
names_fed [] = true
names_fed (name ∷ names) = list_all no_feed name && names_fed names

name-fed : (names : List (List ℕ)) (i : ℕ) → names_fed names ≡ true → Fed (get_or names i [])
name-fed [] i h = refl
name-fed (name ∷ names) zero h = first_of_all (list_all no_feed name) (names_fed names) h
name-fed (name ∷ names) (suc i) h = name-fed names i (rest_of_all (list_all no_feed name) (names_fed names) h)

register-fed : (register : ℕ) → Fed (slice_index_or register_names register [])
unfolding register_names
register-fed register = name-fed register_names register refl

fed_keyword : (which : Row) → Fed (keyword_of which)
unfolding keyword_of
fed_keyword row.Heading = refl
fed_keyword (row.Console n) = refl
fed_keyword row.Clock = refl
fed_keyword row.Halted = refl
fed_keyword (row.Register n) = register-fed n
fed_keyword (row.Timer n) = refl
fed_keyword (row.Dma n) = refl
fed_keyword row.Sequencer = refl
fed_keyword (row.Tone n) = refl
fed_keyword row.Position = refl
fed_keyword (row.Affine n) = refl
fed_keyword row.Serial = refl
fed_keyword row.Known = refl
fed_keyword row.Flash = refl
fed_keyword row.Was = refl
fed_keyword row.Applied = refl
fed_keyword row.Counts = refl

fed_number : (which : Row) → is_row which ≡ true → AreFed (number_words (number_of_row which))
unfolding number_of_row is_row AreFed
fed_number row.Heading is = (fed_decimal 1 (omega arith), tt)
fed_number (row.Console n) is = (fed_decimal n (grind (arith, nat_tests)), tt)
fed_number row.Clock is = tt
fed_number row.Halted is = tt
fed_number (row.Register n) is = tt
fed_number (row.Timer n) is = (fed_decimal n (grind (arith, nat_tests)), tt)
fed_number (row.Dma n) is = (fed_decimal n (grind (arith, nat_tests)), tt)
fed_number row.Sequencer is = tt
fed_number (row.Tone n) is = (fed_decimal n (grind (arith, nat_tests)), tt)
fed_number row.Position is = tt
fed_number (row.Affine n) is = (fed_decimal n (grind (arith, nat_tests)), tt)
fed_number row.Serial is = tt
fed_number row.Known is = tt
fed_number row.Flash is = tt
fed_number row.Was is = tt
fed_number row.Applied is = tt
fed_number row.Counts is = tt

both-fed : (one other : List (List ℕ)) → AreFed one → AreFed other → AreFed (one ++ other)
unfolding AreFed
both-fed [] other h k = k
both-fed (word ∷ one) other h k = (h.0, both-fed one other h.1 k)

-- the lines
pub row-fed : (which : Row) (values : List ℕ) → is_row which ≡ true → AreSpellable (spelling_of which) values
    → Fed (row_line which values)
row-fed which values is are =
    fed_joined (keyword_of which) (row_words which values) (fed_keyword which)
    (both-fed (number_words (number_of_row which)) (spelled_all (spelling_of which) values) (fed_number which is)
    (fed_values (spelling_of which) values are))

pub digest-fed : (digest : List ℕ) → Fed (digest_text digest)
unfolding AreFed
digest-fed digest = fed_joined (codes "job") (hex_all 2 digest ∷ []) refl (fed_all 2 digest, tt)

fed_queue_word : (bytes : List ℕ) → Fed (queue_word bytes)
fed_queue_word [] = refl
fed_queue_word (b ∷ bytes) =
    let some : (length (b ∷ bytes) == 0) ≡ false = grind (arith, nat_tests) in
    rw some (fed_all 2 (b ∷ bytes))

fed_queue_name : (queue : ℕ) → Fed (queue_name queue)
fed_queue_name zero = refl
fed_queue_name (suc queue) =
    let some : (suc queue == 0) ≡ false = grind (arith, nat_tests) in
    rw some refl

pub queue-fed : (queue current : ℕ) (bytes : List ℕ) → length bytes ≤ 32 → Fed (queue_text queue current bytes)
unfolding AreFed
queue-fed queue current bytes few =
    fed_joined (codes "queue") (queue_name queue ∷ hex 2 current ∷ decimal (length bytes) ∷ queue_word bytes ∷ []) refl
    (fed_queue_name queue, (fed_hex 2 current, (fed_decimal (length bytes) (omega arith), (fed_queue_word bytes, tt))))

pub wave-fed : (bank : ℕ) (bytes : List ℕ) → bank < 2 → Fed (wave_text bank bytes)
unfolding AreFed
wave-fed bank bytes two =
    fed_joined (codes "wave") (decimal bank ∷ hex_all 2 bytes ∷ []) refl (
      fed_decimal bank (omega arith),
      (fed_all 2 bytes, tt),
    )

fed_memory_name : (name : MemoryName) → Fed (memory_name name)
fed_memory_name memory.Io = refl
fed_memory_name memory.Wram = refl
fed_memory_name memory.Iwram = refl
fed_memory_name memory.Palette = refl
fed_memory_name memory.Vram = refl
fed_memory_name memory.Oam = refl
fed_memory_name memory.Backup = refl

pub memory-fed : (place : MemoryPlace) (bytes : List ℕ) → Fed (memory_text place bytes)
unfolding AreFed
memory-fed place bytes =
    fed_joined (codes "mem") (memory_name place.name ∷ hex 6 place.offset ∷ hex_all 2 bytes ∷ []) refl
    (fed_memory_name place.name, (fed_hex 6 place.offset, (fed_all 2 bytes, tt)))

pub drawn-fed : (line : ℕ) (colours : List ℕ) → line < 159 → Fed (drawn_text line colours)
unfolding AreFed
drawn-fed line colours low =
    fed_joined (codes "drawn") (decimal line ∷ hex_all 4 colours ∷ []) refl (
      fed_decimal line (omega arith),
      (fed_all 4 colours, tt),
    )

pub signal-fed : (sender : ℕ) (signal : Signal) → sender < 2 ^ 64 → Fed (signal_text sender signal)
unfolding AreFed long_digits
signal-fed sender signal small =
    fed_joined (codes "signal") (decimal sender ∷ hex 16 (packed_head signal) ∷ hex 16 (packed_words signal) ∷ []) refl
    (fed_decimal sender small, (fed_hex 16 (packed_head signal), (fed_hex 16 (packed_words signal), tt)))
