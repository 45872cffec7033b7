-- The frozen file of consoles on their cable makes them again.
use Rattle.std.specs.Prelude.{◌≡◌, ℕ, ◌+◌, ◌≤◌, List, [], ◌∷◌, length, Result, Ok}
use Rattle.gba_console.specs.Alone.{console_kind}
use Rattle.gba_console.specs.Machine.{Machine, clock_of, without_limit}
use Rattle.gba_console.specs.Segments.{forgotten_cut}
use Rattle.gba_console.specs.Shorn.{rested, shorn}
use Rattle.gba_filling.specs.Signals.{AllFit, most_signals}
use Rattle.gba_frozen.specs.Reading.{longest_file}
use Rattle.gba_frozen.specs.declared.kinds.ThawKind.{ThawKind}
use Rattle.gba_frozen_print.specs.Laws.{AreBelow}
use Rattle.gba_snapshot.specs.File.{frozen_file}
use Rattle.gba_text.specs.declared.kinds.LineError.{LineError}
use Rattle.gba_thaw.specs.Cut.{thaw_of}
use Rattle.gba_thaw_laws.specs.Holds.{Holds}
use Rattle.gba_thaw_laws.specs.Laws.{IsStartOf}
use Rattle.gba_thaw_laws.specs.Text.{IsSpelled}
use Rattle.link_core.specs.Whole.{IsWhole}
use Rattle.link_mapped.specs.Mapped.{mapped}
use Rattle.link_order.specs.Cut.{Cut}
use Rattle.link_order.specs.GlobalOrder.{run}

-- A console keeps its rules in a job of so many cycles, and another one is that job's start of it.
pub record IsReady (until : ℕ) (start m : Machine) : Type 0 where
  pub begins : IsStartOf m start
  pub holds : Holds m
  pub spelled : IsSpelled m
  pub early : clock_of m ≤ until + 511

unfoldable pub AreReady : ℕ → List Machine → List Machine → Type 0
AreReady until [] [] = Unit {0}
AreReady until [] (m ∷ ms) = ⊥
AreReady until (start ∷ starts) [] = ⊥
AreReady until (start ∷ starts) (m ∷ ms) = IsReady until start m × AreReady until starts ms

-- One to four consoles stand on the cable of their start. A run can go on from them, and their signals fit and are no
-- more than a frozen file may have.
pub record CanBeFrozen (until : ℕ) (start cut : Cut Machine) : Type 0 where
  pub consoles : AreReady until start.consoles cut.consoles
  pub delays : start.delays ≡ cut.delays
  pub some : 1 ≤ length cut.consoles
  pub few : length cut.consoles ≤ 4
  pub whole : IsWhole console_kind cut
  pub fit : AllFit cut.sent
  pub signals : length cut.sent ≤ most_signals

-- a console but for where its lists begin, where their room ends, and what a step resets before it looks at anything
abbrev pub as_it_runs : Machine → Machine
as_it_runs m = rested (without_limit m)

-- An answer is the consoles of a cut, but for what no step looks at, with the same cable and the same signals on their
-- way; and it runs on as the cut does whose lists are emptied: at each clock all that the consoles are and have made
-- since is the same.
pub record IsAgain (cut : Cut Machine) (answer : Result (Cut Machine) (LineError ThawKind)) : Type 0 where
  pub made : Cut Machine
  pub thawed : answer ≡ Ok made
  pub same : mapped (λ i. shorn) made ≡ mapped (λ i. shorn) cut
  pub runs : (clock : ℕ)
      → mapped (λ i. as_it_runs) (run console_kind made clock)
      ≡ mapped (λ i. as_it_runs) (run console_kind (forgotten_cut cut) clock)

-- So it is of a frozen file that isn't too long.
abbrev pub FilesThawAgain : Type 0
FilesThawAgain =
    (digest : List ℕ) (until : ℕ) (start cut : Cut Machine) → length digest ≡ 32 → AreBelow 2 digest
    → CanBeFrozen until start cut
    → length (frozen_file digest cut) ≤ longest_file
    → IsAgain cut (thaw_of digest until start (frozen_file digest cut))
