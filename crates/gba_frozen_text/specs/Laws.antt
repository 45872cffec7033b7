-- A file that is printed is read again: it comes to the draft that was printed.
use Rattle.std.specs.Prelude.{◌≡◌, ◌<◌, ◌≤◌, ℕ, ◌+◌, ◌^◌, true, false, ◌&&◌, List, [], ◌∷◌, length, Option, Some, None}
use Rattle.gba_flash.specs.Flash.{is_flash}
use Rattle.gba_image.specs.declared.backup.Backup.{Backup}
use Rattle.gba_text.specs.Languages.{answer_of}
use Rattle.link_node.specs.Packing.{packed_head, packed_words, signal_in}
use Rattle.link_node.specs.declared.signal.Signal.{Signal}
use Rattle.gba_numbers.specs.Fields.{is_field}
use Rattle.gba_numbers.specs.Numbers.{AreWhole, ConsoleNumbers, value_of}
use Rattle.gba_numbers.specs.Ranges.{field_fits}
use Rattle.gba_numbers.specs.declared.fields.Field.{Field}
use Rattle.gba_frozen.specs.Lines.{all_zero, drawn_end}
use Rattle.gba_frozen.specs.Places.{backup_of, is_behind, is_below, is_row_place, placed}
use Rattle.gba_frozen.specs.Reading.{ConsoleDraft, Draft, console_at_first, frozen_language, judged, longest_file}
use Rattle.gba_frozen.specs.Rows.{flash_field_of, in_time}
use Rattle.gba_frozen.specs.declared.kinds.Setup.{Setup}
use Rattle.gba_frozen.specs.declared.places.MemoryPlace.{MemoryPlace}
use Rattle.gba_frozen.specs.declared.places.Slot.TheVariants.{Past}
use Rattle.gba_frozen_print.specs.Laws.{AreBelow}
use Rattle.gba_frozen_text.specs.Text.{frozen_lines, frozen_text}

-- numbers of a console that may stand in a file: each is in its range, and without a flash its numbers are 0
pub record AreFrozen (until : ℕ) (backup : Backup) (n : ConsoleNumbers) : Type 0 where
  pub whole : AreWhole n
  pub fit : (field : Field) → is_field field ≡ true
      → (field_fits field (value_of field n) && in_time until field (value_of field n)) ≡ true
  pub no_flash : is_flash backup ≡ false → (part : ℕ) → part < 4 → value_of (flash_field_of part) n ≡ 0

-- lines of memories that may stand there, in their order
unfoldable pub AreRows : Backup → Option MemoryPlace → List (MemoryPlace × List ℕ) → Type 0
AreRows backup last [] = Unit {0}
AreRows backup last (line ∷ lines) =
    (length line.1 ≡ 32) × AreBelow 2 line.1 × (all_zero line.1 ≡ false) × (line.0.offset < 2 ^ 24)
    × (is_behind last line.0 ≡ true) × (is_row_place backup line.0 ≡ true) × AreRows backup (Some line.0) lines

-- drawn lines, in their order
unfoldable pub AreDrawn : Option ℕ → List (ℕ × List ℕ) → Type 0
AreDrawn last [] = Unit {0}
AreDrawn last (line ∷ lines) =
    (length line.1 ≡ 240) × AreBelow 4 line.1 × (line.0 < drawn_end) × (is_below last line.0 ≡ true)
    × AreDrawn (Some line.0) lines

pub record IsConsole (until : ℕ) (backup : Backup) (c : ConsoleDraft) : Type 0 where
  pub numbers : AreFrozen until backup c.numbers
  pub memory : AreRows backup None c.memory
  pub drawn : AreDrawn None c.drawn

unfoldable pub AreConsoles : Setup → ℕ → List ConsoleDraft → Type 0
AreConsoles setup player [] = Unit {0}
AreConsoles setup player (c ∷ consoles) =
    IsConsole setup.until (backup_of setup player) c × AreConsoles setup (player + 1) consoles

-- live signals of the job's consoles
unfoldable pub AreSent : ℕ → List (ℕ × Signal) → Type 0
AreSent consoles [] = Unit {0}
AreSent consoles (one ∷ sent) =
    (one.0 < consoles) × (packed_head one.1 < 2 ^ 64) × (packed_words one.1 < 2 ^ 64)
    × (signal_in (packed_head one.1) (packed_words one.1) ≡ Some one.1) × AreSent consoles sent

-- a draft of a whole file: all consoles of the job, and behind the last line nothing more
pub record IsWhole (setup : Setup) (d : Draft) : Type 0 where
  pub few : setup.consoles ≤ 4
  pub digest : length setup.digest ≡ 32
  pub bytes : AreBelow 2 setup.digest
  pub count : length d.consoles ≡ setup.consoles
  pub last : d.at.player + 1 ≡ setup.consoles
  pub past : d.at.slot ≡ Past
  pub consoles : AreConsoles setup 0 d.consoles
  pub sent : AreSent setup.consoles d.sent

-- whatever the test of the whole is, if the text isn't too long
abbrev pub FilesAgain : Type 0
FilesAgain = (setup : Setup) (d : Draft) (whole_of : Draft → Option Draft) → IsWhole setup d
    → length (frozen_text setup d) ≤ longest_file
    → answer_of (frozen_language setup whole_of) (frozen_text setup d)
    ≡ judged (length (frozen_lines setup d)) (whole_of d)

-- there is such a draft: one console as it is at first, without memories, drawn lines and signals
abbrev pub draft_at_first : Draft
draft_at_first = record { at = placed 0 Past; consoles = console_at_first ∷ []; sent = [] }

abbrev pub FirstIsWhole : Type 0
FirstIsWhole = (setup : Setup) → setup.consoles ≡ 1 → length setup.digest ≡ 32 → AreBelow 2 setup.digest
    → IsWhole setup draft_at_first
