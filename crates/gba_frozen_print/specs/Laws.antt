-- What is printed is read as it was: each line is spelled right, and says what was printed.
use Rattle.std.specs.Prelude.{◌≡◌, ℕ, ◌*◌, ◌^◌, ◌<◌, ◌≤◌, Bool, true, false, nat_lt, List, [], ◌∷◌, length, Option, Some, Ok}
use Rattle.gba_text.specs.Steps.{◌>>=◌, holds}
use Rattle.gba_image.specs.declared.backup.Backup.{Backup}
use Rattle.link_node.specs.Packing.{packed_head, packed_words, signal_in}
use Rattle.link_node.specs.declared.signal.Signal.{Signal}
use Rattle.gba_frozen.specs.Lines.{Nothing, Values, QueueBytes, WaveBytes, MemoryBytes, Colours, Live, all_zero, digest_line, drawn_said, memory_said, queue_said, row_said, signal_said, wave_said}
use Rattle.gba_frozen.specs.Places.{is_behind, is_below, is_row_place}
use Rattle.gba_frozen_print.specs.Printed.{digest_text, drawn_text, memory_text, queue_text, signal_text, wave_text}
use Rattle.gba_frozen.specs.Rows.{all_fit, count_of, is_row, row_line, spelling_of}
use Rattle.gba_frozen.specs.Spelling.{greatest, pieces}
use Rattle.gba_frozen.specs.declared.kinds.ThawKind.TheVariants as kind
use Rattle.gba_frozen.specs.declared.places.MemoryPlace.{MemoryPlace}
use Rattle.gba_frozen.specs.declared.rows.Row.{Row}
use Rattle.gba_frozen.specs.declared.rows.Spelling.{Spelling}
use Rattle.gba_frozen.specs.declared.rows.Spelling.TheVariants.{Decimal, Word}

-- a number that can be so written
abbrev pub is_spellable : Spelling → ℕ → Bool
is_spellable Decimal value = nat_lt value (2 ^ 64)
is_spellable Word value = nat_lt value (2 ^ 32)

unfoldable pub AreSpellable : Spelling → List ℕ → Type 0
AreSpellable spelling [] = Unit {0}
AreSpellable spelling (value ∷ values) = (is_spellable spelling value ≡ true) × AreSpellable spelling values

-- numbers of so many digits
unfoldable pub AreBelow : ℕ → List ℕ → Type 0
AreBelow width [] = Unit {0}
AreBelow width (n ∷ ns) = (n < 2 ^ (4 * width)) × AreBelow width ns

-- a row is spelled right, so that it can be refused for a number's range alone
abbrev pub RowsAgain : Type 0
RowsAgain = (until : ℕ) (which : Row) (values : List ℕ) → is_row which ≡ true → length values ≡ count_of which
    → AreSpellable (spelling_of which) values
    → row_said until which (pieces (row_line which values))
    ≡ (holds (all_fit until which 0 values) kind.Number >>= (λ _. Ok (Values which values)))

-- numbers that 64 bits hold, but for the greatest, as which greater ones are read
unfoldable pub AreHeld : List ℕ → Type 0
AreHeld [] = Unit {0}
AreHeld (value ∷ values) = (value < greatest) × AreHeld values

-- a line that is read as a row is the line that is printed of what was read
abbrev pub RowsSound : Type 0
RowsSound = (until : ℕ) (which : Row) (line values : List ℕ) → AreHeld values
    → row_said until which (pieces line) ≡ Ok (Values which values) → row_line which values ≡ line

abbrev pub DigestAgain : Type 0
DigestAgain = (digest : List ℕ) → length digest ≡ 32 → AreBelow 2 digest
    → digest_line digest (pieces (digest_text digest)) ≡ Ok Nothing

abbrev pub WavesAgain : Type 0
WavesAgain = (bank : ℕ) (bytes : List ℕ) → bank < 2 → length bytes ≡ 16 → AreBelow 2 bytes
    → wave_said bank (pieces (wave_text bank bytes)) ≡ Ok (WaveBytes bank bytes)

abbrev pub QueuesAgain : Type 0
QueuesAgain = (queue current : ℕ) (bytes : List ℕ) → queue < 2 → current < 256 → length bytes ≤ 32 → AreBelow 2 bytes
    → queue_said queue (pieces (queue_text queue current bytes)) ≡ Ok (QueueBytes queue current bytes)

abbrev pub MemoryAgain : Type 0
MemoryAgain = (backup : Backup) (last : Option MemoryPlace) (place : MemoryPlace) (bytes : List ℕ) → length bytes ≡ 32
    → AreBelow 2 bytes → all_zero bytes ≡ false → place.offset < 2 ^ 24 → is_behind last place ≡ true
    → is_row_place backup place ≡ true
    → memory_said backup last (pieces (memory_text place bytes)) ≡ Ok (MemoryBytes place bytes)

abbrev pub DrawnAgain : Type 0
DrawnAgain = (last : Option ℕ) (line : ℕ) (colours : List ℕ) → length colours ≡ 240 → AreBelow 4 colours → line < 159
    → is_below last line ≡ true → drawn_said last (pieces (drawn_text line colours)) ≡ Ok (Colours line colours)

abbrev pub SignalsAgain : Type 0
SignalsAgain = (consoles sender : ℕ) (signal : Signal) → sender < consoles → consoles ≤ 4
    → packed_head signal < 2 ^ 64 → packed_words signal < 2 ^ 64
    → signal_in (packed_head signal) (packed_words signal) ≡ Some signal
    → signal_said consoles (pieces (signal_text sender signal)) ≡ Ok (Live sender signal)
