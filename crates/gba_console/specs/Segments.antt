use Rattle.std.specs.Prelude.{ℕ, ◌≡◌, ◌<◌, ◌≤◌, ◌++◌, Option, None, Some, slice_get}
use Rattle.gba_io.specs.Ended.{Ended}
use Rattle.gba_io.specs.Made.{Made}
use Rattle.gba_io.specs.declared.board.Board.{Board}
use Rattle.link_mapped.specs.Mapped.{mapped}
use Rattle.link_order.specs.Cut.{Cut, HasDelays, IsSound, count, is_live, live, plain_cut}
use Rattle.link_order.specs.GlobalOrder.{run}
use Rattle.link_order.specs.declared.sent.Sent.{Sent}
use Rattle.gba_console.specs.Alone.{console_kind}
use Rattle.gba_console.specs.Machine.{Machine, forgotten}
use Rattle.gba_console.specs.declared.doing.What.{What}
use Rattle.gba_console.specs.declared.doing.What.TheVariants.{Nothing, Dma, Idle, Irq, Off, Arm, Thumb}

-- Runs in segments: between two of them the lists of the consoles are emptied (this project's profile).

-- what the last step did, or where there is none, what the last one before did
abbrev pub last_behind : What → What → What
last_behind first Nothing = first
last_behind first (Dma channel) = Dma channel
last_behind first Idle = Idle
last_behind first Irq = Irq
last_behind first Off = Off
last_behind first (Arm address word) = Arm address word
last_behind first (Thumb address half) = Thumb address half

-- a console with the lists of another one in front of its own
abbrev pub made_behind : Made → Made → Made
made_behind first m = record m { frames = first.frames ++ m.frames; samples = first.samples ++ m.samples }

abbrev pub ended_behind : Ended → Ended → Ended
ended_behind first e = record e { words = first.words ++ e.words }

abbrev pub board_behind : Board → Board → Board
board_behind first b = record b { made = made_behind first.made b.made; ended = ended_behind first.ended b.ended }

abbrev pub behind : Machine → Machine → Machine
behind first m = record m { board = board_behind first.board m.board; last = last_behind first.last m.last }

-- the same where there is one
abbrev pub behind_if : Option Machine → Machine → Machine
behind_if None m = m
behind_if (Some first) m = behind first m

-- a cut with each console's lists emptied
abbrev pub forgotten_cut : Cut Machine → Cut Machine
forgotten_cut cut = plain_cut forgotten cut

-- a cut with the lists of each console behind those of the same player's in another one
abbrev pub joined : Cut Machine → Cut Machine → Cut Machine
joined first cut = mapped (λ i. behind_if (slice_get first.consoles i)) cut

-- A run to one clock, and from there, with the lists emptied, to a later one, is the run to that but for the lists; and
-- each list of that run is the first part's followed by the second's.
abbrev pub Segments : Type 0
Segments =
    (cut : Cut Machine) (first until : ℕ) → first ≤ until
    → run console_kind cut until
    ≡ joined (run console_kind cut first) (run console_kind (forgotten_cut (run console_kind cut first)) until)

-- the same where after each part only the signals are kept that can still be taken
abbrev pub LiveSegments : Type 0
LiveSegments =
    (cut : Cut Machine) (first until : ℕ) → 0 < count cut → HasDelays cut → IsSound console_kind cut → first ≤ until
    → live console_kind (run console_kind cut until)
    ≡ joined (live console_kind (run console_kind cut first))
    (live console_kind (run console_kind (forgotten_cut (live console_kind (run console_kind cut first))) until))

-- A cut with emptied lists is sound where the cut is, and has the same live signals.
pub record ForgetsSoundly (cut : Cut Machine) : Type 0 where
  pub sound : IsSound console_kind cut → IsSound console_kind (forgotten_cut cut)
  pub awaited : (one : Sent) → is_live console_kind (forgotten_cut cut) one ≡ is_live console_kind cut one
