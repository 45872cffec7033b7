-- What the lines of a console say, in its state file and in a frozen file.
use Rattle.std.specs.Prelude.{◌≡◌, ℕ, ◌+◌, length, List, [], ◌∷◌, ◌++◌}
use Rattle.gba_console.specs.Machine.{Machine}
use Rattle.gba_frozen.specs.Reading.{ConsoleDraft}
use Rattle.gba_frozen_text.specs.Memories.{memory_lines_text, memory_rows}
use Rattle.gba_frozen_text.specs.Text.{console_says, numbers_say, says_text}
use Rattle.gba_image.specs.Backups.{backup_length}
use Rattle.gba_image.specs.declared.backup.Backup.{Backup}
use Rattle.gba_io.specs.Core.{Core}
use Rattle.gba_loose_devices.specs.Picture.{halves_at}
use Rattle.gba_mem.specs.Backups.{backup_bytes, backup_of}
use Rattle.gba_numbers.specs.declared.names.MemoryName.{MemoryName}
use Rattle.gba_numbers.specs.declared.names.MemoryName.TheVariants as memory
use Rattle.gba_snapshot.specs.Io.{io_bytes}
use Rattle.gba_snapshot.specs.Snapshot.{numbers_of}

-- what a console's cartridge keeps its saves in
abbrev pub backup_in : Machine → Backup
backup_in m = backup_of m.board.core.memory.backup

-- the bytes of each memory, the I/O registers as they stand in files
abbrev pub memory_bytes : Core → MemoryName → List ℕ
memory_bytes b memory.Io = io_bytes 512 b
memory_bytes b memory.Wram = b.memory.work
memory_bytes b memory.Iwram = b.memory.inner
memory_bytes b memory.Palette = b.memory.palette
memory_bytes b memory.Vram = b.memory.vram
memory_bytes b memory.Oam = b.memory.oam
memory_bytes b memory.Backup = backup_bytes b.memory.backup

-- each memory of a core has its length
pub record HaveLengths (b : Core) : Type 0 where
  pub io : length (memory_bytes b memory.Io) ≡ 0x400
  pub work : length (memory_bytes b memory.Wram) ≡ 0x40000
  pub inner : length (memory_bytes b memory.Iwram) ≡ 0x8000
  pub palette : length (memory_bytes b memory.Palette) ≡ 0x400
  pub vram : length (memory_bytes b memory.Vram) ≡ 0x18000
  pub oam : length (memory_bytes b memory.Oam) ≡ 0x400
  pub backup : length (memory_bytes b memory.Backup) ≡ backup_length (backup_of b.memory.backup)

-- The lines of the memories that a state file has, the I/O registers first: 32 bytes each, without those of bytes 0.
abbrev pub lines_of_memories : Core → List ℕ
lines_of_memories b =
    memory_lines_text memory.Io (memory_bytes b memory.Io) ++ memory_lines_text memory.Wram (memory_bytes b memory.Wram)
    ++ memory_lines_text memory.Iwram (memory_bytes b memory.Iwram)
    ++ memory_lines_text memory.Palette (memory_bytes b memory.Palette)
    ++ memory_lines_text memory.Vram (memory_bytes b memory.Vram)
    ++ memory_lines_text memory.Oam (memory_bytes b memory.Oam)

-- The state file of a console: the lines of its numbers, and those of its memories but for the backup.
abbrev pub state_file : Machine → List ℕ
state_file m = says_text (numbers_say m.board.core.serial.player (numbers_of m)) ++ lines_of_memories m.board.core

-- the 240 colours of a line's bytes, low byte first
abbrev pub colours_of : List ℕ → List ℕ
colours_of bytes = halves_at 240 bytes

-- lines that are drawn, from a number on, with their colours
unfoldable pub drawn_from : ℕ → List (List ℕ) → List (ℕ × List ℕ)
drawn_from line [] = []
drawn_from line (bytes ∷ lines) = (line, colours_of bytes) ∷ drawn_from (line + 1) lines

-- What a frozen file says of a console: its numbers, all its memories, and the lines that are drawn of the
-- present frame.
unfoldable pub draft_of : Machine → ConsoleDraft
draft_of m = record {
  numbers = numbers_of m;
  memory = memory_rows (backup_in m) (memory_bytes m.board.core);
  drawn = drawn_from 0 m.board.core.lines;
}

-- the lines of a player's console in a frozen file
abbrev pub console_text : ℕ → Machine → List ℕ
console_text player m = says_text (console_says (backup_in m) player (draft_of m))
