-- The consoles of consoles that are being filled.
use Rattle.std.specs.Prelude.{ℕ, List, [], ◌∷◌, ◌++◌, Option, Some, None}
use Rattle.gba_console.specs.Machine.{Machine}
use Rattle.gba_filling.specs.Memories.{HaveLengths, bytes_of}
use Rattle.gba_filling.specs.Loose.{LooseConsole}
use Rattle.gba_snapshot.specs.Console.{backup_in}
use Rattle.gba_thaw.specs.Console.{console_thawed}
use Rattle.gba_thaw.specs.Cut.{in_front}

-- the whole console that one makes of that at its start, if a run can go on from it, in a job of so many cycles
abbrev pub loose_thawed : ℕ → Machine → LooseConsole → Option Machine
loose_thawed until m f = console_thawed until m f.numbers (λ name. bytes_of name f.memories) f.drawn

-- all consoles, if there is each of them; only private functions cite this and what follows
unfoldable pub all_thawed : ℕ → List Machine → List LooseConsole → Option (List Machine)
all_thawed until [] fs = Some []
all_thawed until (m ∷ ms) [] = None
all_thawed until (m ∷ ms) (f ∷ fs) = in_front (loose_thawed until m f) (all_thawed until ms fs)

-- those in front are thawed, and the others follow
abbrev pub behind : List Machine → Option (List Machine) → Option (List Machine)
behind front None = None
behind front (Some rest) = Some (front ++ rest)

-- the memories of each have the lengths of its console's
unfoldable pub AllHaveLengths : List Machine → List LooseConsole → Type 0
AllHaveLengths [] fs = Unit {0}
AllHaveLengths (m ∷ ms) [] = Unit {0}
AllHaveLengths (m ∷ ms) (f ∷ fs) = HaveLengths (backup_in m) f.memories × AllHaveLengths ms fs
