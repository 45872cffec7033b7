-- What else the consoles of a run keep, so that what a frozen file says of them has a text, which is read as it was
-- written.
use Rattle.std.specs.Prelude.{◌≡◌, ℕ, ◌+◌, ◌^◌, ◌<◌, ◌≤◌, Some, option_map, [], length, slice_index, slice_index_or}
use Rattle.gba_terms.specs.Bytes.{AreBytes}
use Rattle.gba_console.specs.Machine.{Machine, clock_of}
use Rattle.gba_console.specs.Shorn.{shorn}
use Rattle.gba_device_laws.specs.Holding.{HasBytes}
use Rattle.gba_frozen_text.specs.Laws.{IsConsole}
use Rattle.gba_mem.specs.Backups.{backup_bytes}
use Rattle.gba_mem.specs.Memories.{Memories}
use Rattle.gba_psr.specs.Status.{kept_status}
use Rattle.gba_snapshot.specs.Console.{backup_in, draft_of}
use Rattle.gba_thaw.specs.Cut.{draft_thawed}
use Rattle.gba_thaw_laws.specs.Holds.{Holds}
use Rattle.gba_thaw_laws.specs.Laws.{IsStartOf}

-- the bytes of the memories
pub record MemoriesHold (m : Memories) : Type 0 where
  pub work : AreBytes m.work
  pub inner : AreBytes m.inner
  pub palette : AreBytes m.palette
  pub vram : AreBytes m.vram
  pub oam : AreBytes m.oam
  pub backup : AreBytes (backup_bytes m.backup)

-- SPSRs have the bits of a status alone, and a drawn line has 240 colours of two bytes.
pub record IsSpelled (m : Machine) : Type 0 where
  pub saved : (register : ℕ) → 32 ≤ register
      → kept_status (slice_index m.registers register) ≡ slice_index m.registers register
  pub applied : m.applied < 2 ^ 40
  pub memories : MemoriesHold m.board.core.memory
  pub lines : (line : ℕ) → line < length m.board.core.lines → HasBytes 480 (slice_index_or m.board.core.lines line [])

-- What the lines of a frozen file say of a console may stand there, in a job of so many cycles,
abbrev pub LinesStand : Type 0
LinesStand =
    (until : ℕ) (m : Machine) → Holds m → IsSpelled m → clock_of m ≤ until + 511
    → IsConsole until (backup_in m) (draft_of m)

-- and makes it again of one at its start.
abbrev pub LinesThawAgain : Type 0
LinesThawAgain =
    (until : ℕ) (start m : Machine) → IsStartOf m start → Holds m → IsSpelled m → clock_of m ≤ until + 511
    → option_map shorn (draft_thawed until start (draft_of m)) ≡ Some (shorn m)
