-- How long a frozen file is.
use Rattle.std.specs.Prelude.{◌≡◌, ℕ, ◌≤◌, List, length}
use Rattle.gba_console.specs.Machine.{Machine}
use Rattle.gba_frozen.specs.Reading.{longest_file}
use Rattle.gba_snapshot.specs.File.{frozen_file}
use Rattle.gba_thaw_laws.specs.Cut.{CanBeFrozen}
use Rattle.link_order.specs.Cut.{Cut}

-- The frozen file of whatever can be frozen isn't longer than one that is read.
abbrev pub FrozenFilesAreShort : Type 0
FrozenFilesAreShort =
    (digest : List ℕ) (until : ℕ) (start cut : Cut Machine) → length digest ≡ 32 → CanBeFrozen until start cut
    → length (frozen_file digest cut) ≤ longest_file
