use Rattle.std.specs.Prelude.{◌≡◌, ℕ, ◌+◌, ◌-◌, ◌%◌, ◌<◌, nat_lt, List, [], map, slice_index_or, if◌then◌else◌}
use Rattle.std.specs.List.{range_with_len}
use Rattle.gba_mem.specs.Memories.{Memories}
use Rattle.gba_ppu_reg.specs.Registers.{Picture, picture_at_reset}
use Rattle.gba_screen.specs.Lines.{line_bytes}

-- How the code keeps the lines of a frame. Of the lines that are drawn, the first `paid` stand as bytes, and the others
-- are owed: they are what their keys, the registers at their HBlanks, and the memories give. Only private functions and
-- the screen's view cite these.

-- what a line is by its key
abbrev pub owed_line : List Picture → Memories → ℕ → List ℕ
owed_line keys m y = line_bytes (slice_index_or keys y picture_at_reset) m y

-- a line that is drawn, and all of them
abbrev pub shown_line : List (List ℕ) → List Picture → Memories → ℕ → ℕ → List ℕ
shown_line lines keys m paid y = if nat_lt y paid then slice_index_or lines y [] else owed_line keys m y

unfoldable pub shown_lines : List (List ℕ) → List Picture → Memories → ℕ → ℕ → List (List ℕ)
shown_lines lines keys m paid drawn = map (shown_line lines keys m paid) (range_with_len 0 drawn)

-- Lines are paid one after another, and after the last one of a frame the first one of the next: how many were paid
-- since a line was.
abbrev pub paid_since : ℕ → ℕ → ℕ
paid_since paid y = (paid + 159 - y) % 160

-- So many of the lines that were paid last still are what they would be if they were paid now.
pub record AreFresh (lines : List (List ℕ)) (keys : List Picture) (m : Memories) (paid fresh : ℕ) : Type 0 where
  pub same : (y : ℕ) → y < 160 → paid_since paid y < fresh → slice_index_or lines y [] ≡ owed_line keys m y
