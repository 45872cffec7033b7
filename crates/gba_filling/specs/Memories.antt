-- The memories of a console, whose bytes are put in line by line.
use Rattle.std.specs.Prelude.{◌≡◌, ℕ, List, [], length, replicate, slice_index_or, slice_set}
use Rattle.gba_flash.specs.Replacing.{with_bytes}
use Rattle.gba_image.specs.declared.backup.Backup.{Backup}
use Rattle.gba_numbers.specs.declared.names.MemoryName.{MemoryName}
use Rattle.gba_frozen.specs.Places.{memory_length, memory_order}
use Rattle.gba_frozen.specs.declared.places.MemoryPlace.{MemoryPlace}
use Rattle.gba_frozen_text.specs.Memories.{with_rows}

-- the bytes of one of the memories, which stand in the order of a frozen file
abbrev pub bytes_of : MemoryName → List (List ℕ) → List ℕ
bytes_of name memories = slice_index_or memories (memory_order name) []

-- each memory has its length
abbrev pub HaveLengths : Backup → List (List ℕ) → Type 0
HaveLengths backup memories = (name : MemoryName) → length (bytes_of name memories) ≡ memory_length backup name

-- with bytes put into one of them
abbrev pub with_memory : MemoryPlace → List ℕ → List (List ℕ) → List (List ℕ)
with_memory place bytes memories =
    slice_set memories (memory_order place.name) (with_bytes place.offset bytes (bytes_of place.name memories))

-- they are what these lines make of bytes 0
pub record AreFrom (backup : Backup) (rows : List (MemoryPlace × List ℕ)) (memories : List (List ℕ)) : Type 0 where
  pub long : HaveLengths backup memories
  pub bytes : (name : MemoryName)
      → bytes_of name memories ≡ with_rows name rows (replicate (memory_length backup name) 0)
