-- The consoles of a job, as the lines of a frozen file so far have them.
use Rattle.std.specs.Prelude.{◌≡◌, ◌<◌, ℕ, List, length, slice_index_or}
use Rattle.gba_image.specs.declared.backup.Backup.{Backup}
use Rattle.gba_frozen.specs.Places.{backup_of}
use Rattle.gba_frozen.specs.Reading.{ConsoleDraft, console_at_first}
use Rattle.gba_frozen.specs.declared.kinds.Setup.{Setup}
use Rattle.gba_filling.specs.Drawn.{AreLines}
use Rattle.gba_filling.specs.Memories.{AreFrom}
use Rattle.gba_filling.specs.Loose.{LooseConsole}

-- what is held of a console, whose saves are kept so, is what its lines come to
pub record IsFilled (backup : Backup) (draft : ConsoleDraft) (f : LooseConsole) : Type 0 where
  pub numbers : f.numbers ≡ draft.numbers
  pub memories : AreFrom backup draft.memory f.memories
  pub drawn : AreLines draft.drawn f.drawn

-- what the lines so far come to of a player's console; nothing was said of one whose lines haven't begun
abbrev pub draft_at : ℕ → List ConsoleDraft → ConsoleDraft
draft_at player drafts = slice_index_or drafts player console_at_first

-- so are all consoles, by player
abbrev pub AreFilled : Setup → List ConsoleDraft → List LooseConsole → Type 0
AreFilled setup drafts fs =
    (player : ℕ) (any : LooseConsole) → player < length fs
    → IsFilled (backup_of setup player) (draft_at player drafts) (slice_index_or fs player any)
