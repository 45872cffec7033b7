-- The lines of memories, and the memories that lines make.
use Rattle.std.specs.Prelude.{◌≡◌, ℕ, zero, suc, ◌+◌, ◌/◌, ◌==◌, List, [], ◌∷◌, ◌++◌, length, take, drop, map, replicate, None, if◌then◌else◌}
use Rattle.gba_image.specs.declared.backup.Backup.{Backup}
use Rattle.gba_numbers.specs.declared.names.MemoryName.{MemoryName}
use Rattle.gba_numbers.specs.declared.names.MemoryName.TheVariants as memory
use Rattle.gba_frozen.specs.Lines.{all_zero}
use Rattle.gba_frozen.specs.Places.{memory_length, memory_order}
use Rattle.gba_frozen.specs.declared.places.MemoryPlace.{MemoryPlace}
use Rattle.gba_frozen_print.specs.Laws.{AreBelow}
use Rattle.gba_frozen_print.specs.Printed.{ended, memory_text}
use Rattle.gba_frozen_text.specs.Laws.{AreRows}
use Rattle.gba_frozen_text.specs.Text.{memory_of, says_text}

-- so many lines of 32 bytes of a memory, from an offset on: those of 32 bytes 0 are left out
unfoldable pub rows_in : MemoryName → ℕ → ℕ → List ℕ → List (MemoryPlace × List ℕ)
rows_in name offset zero bytes = []
rows_in name offset (suc count) bytes =
    if all_zero (take 32 bytes) then rows_in name (offset + 32) count (drop 32 bytes)
    else (record { name = name; offset = offset }, take 32 bytes) ∷ rows_in name (offset + 32) count (drop 32 bytes)

-- the line of 32 bytes with its line feed, where they aren't all 0
unfoldable pub row_text : MemoryPlace → List ℕ → List ℕ
row_text place bytes = if all_zero bytes then [] else ended (memory_text place bytes)

-- the lines of a memory
abbrev pub memory_lines_text : MemoryName → List ℕ → List ℕ
memory_lines_text name bytes = says_text (map memory_of (rows_in name 0 (length bytes / 32) bytes))

unfoldable pub rows_of : Backup → (MemoryName → List ℕ) → MemoryName → List (MemoryPlace × List ℕ)
rows_of backup bytes name = rows_in name 0 (memory_length backup name / 32) (bytes name)

-- those of memories, one after another; and of all memories of a console, in the order of the file
unfoldable pub rows_of_all : Backup → (MemoryName → List ℕ) → List MemoryName → List (MemoryPlace × List ℕ)
rows_of_all backup bytes [] = []
rows_of_all backup bytes (name ∷ names) = rows_of backup bytes name ++ rows_of_all backup bytes names

abbrev pub memories : List MemoryName
memories = memory.Io ∷ memory.Wram ∷ memory.Iwram ∷ memory.Palette ∷ memory.Vram ∷ memory.Oam ∷ memory.Backup ∷ []

abbrev pub memory_rows : Backup → (MemoryName → List ℕ) → List (MemoryPlace × List ℕ)
memory_rows backup bytes = rows_of_all backup bytes memories

-- bytes of a memory, where lines of other memories change nothing
unfoldable pub with_row : MemoryName → MemoryPlace × List ℕ → List ℕ → List ℕ
with_row name line bytes =
    if memory_order name == memory_order line.0.name
    then take line.0.offset bytes ++ line.1 ++ drop (line.0.offset + length line.1) bytes
    else bytes

unfoldable pub with_rows : MemoryName → List (MemoryPlace × List ℕ) → List ℕ → List ℕ
with_rows name [] bytes = bytes
with_rows name (line ∷ lines) bytes = with_rows name lines (with_row name line bytes)

-- each memory has its length, and its bytes are bytes
pub record AreMemories (backup : Backup) (bytes : MemoryName → List ℕ) : Type 0 where
  pub long : (name : MemoryName) → length (bytes name) ≡ memory_length backup name
  pub small : (name : MemoryName) → AreBelow 2 (bytes name)

-- the lines of memories may stand in a file, and they make the memories from bytes 0
pub record MemoriesAgain : Type 0 where
  pub stand : (backup : Backup) (bytes : MemoryName → List ℕ) → AreMemories backup bytes
      → AreRows backup None (memory_rows backup bytes)
  pub again : (backup : Backup) (bytes : MemoryName → List ℕ) (name : MemoryName) → AreMemories backup bytes
      → with_rows name (memory_rows backup bytes) (replicate (memory_length backup name) 0) ≡ bytes name
