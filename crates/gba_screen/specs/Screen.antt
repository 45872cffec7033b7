use Rattle.std.specs.Prelude.{ℕ, List, [], ◌∷◌, ◌++◌}
use Rattle.gba_bus.specs.declared.width.Width.{Width}
use Rattle.gba_flash.specs.declared.machine.FlashMachine.{FlashMachine}
use Rattle.gba_mem.specs.Backups.{with_machine}
use Rattle.gba_mem.specs.Memories.{Memories}
use Rattle.gba_mem.specs.Replacing.{cleared, with_part}
use Rattle.gba_mem.specs.declared.part.MemoryPart.{MemoryPart}
use Rattle.gba_mem.specs.Stores.{store}
use Rattle.gba_ppu_reg.specs.Registers.{Picture}
use Rattle.gba_screen.specs.Lines.{line_bytes}

-- The screen: the memories, and the lines that are drawn of the present frame, each as its bytes, from the top down.
pub record Screen : Type 0 where
  pub memory : Memories
  pub lines : List (List ℕ)

-- no line is drawn
abbrev pub blank_screen : Memories → Screen
blank_screen m = record { memory = m; lines = [] }

-- A line is drawn by the registers and the memories as they are. It stays, whatever is written later.
abbrev pub with_line : Picture → ℕ → Screen → Screen
with_line r y s = record s { lines = s.lines ++ (line_bytes r s.memory y ∷ []) }

-- a write
abbrev pub screen_written : ℕ → ℕ → Width → ℕ → Screen → Screen
screen_written mode address width value s = record s { memory = store mode s.memory address width value }

-- the next frame has no line yet
abbrev pub frame_ended : Screen → Screen
frame_ended s = record s { lines = [] }

-- What a screen is made of is replaced, which is no write of a program: bytes of a memory from a place on, every byte
-- of the memories that are written, and what a flash remembers. The lines that are drawn stay.
abbrev pub screen_with_part : MemoryPart → ℕ → List ℕ → Screen → Screen
screen_with_part part place new s = record s { memory = with_part part place new s.memory }

abbrev pub screen_cleared : Screen → Screen
screen_cleared s = record s { memory = cleared s.memory }

abbrev pub screen_with_machine : FlashMachine → Screen → Screen
screen_with_machine machine s = record s { memory = record s.memory { backup = with_machine machine s.memory.backup } }

-- these are the lines that are drawn
abbrev pub with_lines : List (List ℕ) → Screen → Screen
with_lines lines s = record s { lines = lines }
