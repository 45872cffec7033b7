use Rattle.std.specs.Prelude.{ℕ, ◌≡◌, ◌≢◌, ◌+◌, ◌<◌, ◌≤◌, ◌^◌, List, Some, IfSome, slice_get}
use Rattle.link_node.specs.declared.signal.Signal.{Signal}
use Rattle.link_node.specs.Due.{FitsWidths}
use Rattle.link_order.specs.NodeKind.{NodeKind}
use Rattle.link_order.specs.Cut.{Cut, hop, count, clock_at, IsSound, IsCable}
use Rattle.link_order.specs.GlobalOrder.{trace}
use Rattle.link_order.specs.Way.{Move, moves_of, clock_after, told_in, told_count}

-- this project's profile: a trace as plain numbers

-- one console: its clock at the opening, and its steps in turn
pub record Line : Type 0 where
  pub clock : ℕ
  pub moves : List Move

-- the consoles by player, and the delay from a sender to a receiver, in cycles
pub record Script : Type 0 where
  pub players : ℕ
  pub line : ℕ → Line
  pub hop : ℕ → ℕ → ℕ

-- player i's clock after its first k steps, and how many signals it has sent in these
abbrev pub now : Script → ℕ → ℕ → ℕ
now s i k = clock_after (s.line i).clock (s.line i).moves k

abbrev pub sent : Script → ℕ → ℕ → ℕ
sent s i k = told_count (s.line i).moves k

-- all that player i sends. Signals are numbered from 0, in this order
abbrev pub told : Script → ℕ → List Signal
told s i = told_in (s.line i).moves

-- a signal that bears the clock at which its step began, and whose parts fit their widths
pub record IsBorne (clock : ℕ) (signal : Signal) : Type 0 where
  pub clock_is : signal.clock ≡ clock
  pub fits : FitsWidths signal

-- a step from this clock: it lasts 1 to 512 cycles, and its numbers fit the words of a table
pub record IsSoundMove (clock : ℕ) (move : Move) : Type 0 where
  pub rises : clock < move.clock
  pub short : move.clock ≤ clock + 512
  pub small : move.clock < 2 ^ 40
  pub bears : IfSome move.tells (IsBorne clock)

-- each of these steps is sound at its place
abbrev pub AreSoundMoves : ℕ → List Move → Type 0
AreSoundMoves clock moves =
    (k : ℕ) (move : Move) → slice_get moves k ≡ Some move → IsSoundMove (clock_after clock moves k) move

-- a sound script: one to four consoles with sound steps, delays from 1 to 1,024 cycles, and no console further ahead of
-- another at the opening than the delay and a step
pub record IsSoundScript (s : Script) : Type 0 where
  pub some_player : 0 < s.players
  pub at_most_four : s.players ≤ 4
  pub opens : (i : ℕ) → i < s.players → (s.line i).clock < 2 ^ 40
  pub moves : (i : ℕ) → i < s.players → AreSoundMoves (s.line i).clock (s.line i).moves
  pub near : (i j : ℕ) → i < s.players → j < s.players → i ≢ j → (s.line i).clock < (s.line j).clock + s.hop j i + 512
  pub some_delay : (i j : ℕ) → i < s.players → j < s.players → i ≢ j → 0 < s.hop i j
  pub short_delay : (i j : ℕ) → i < s.players → j < s.players → i ≢ j → s.hop i j ≤ 1024

-- the script of a cut's trace to an end
abbrev pub script : {C : Type 0} → NodeKind C → Cut C → ℕ → Script
script kind cut until = record {
  players = count cut;
  line = λ i. record { clock = clock_at kind cut i; moves = moves_of kind cut (trace kind cut until) i };
  hop = hop cut;
}

-- the law: the script of a sound cut is sound
abbrev pub HasSoundScripts : {C : Type 0} → NodeKind C → Type 0
HasSoundScripts {C} kind =
    (cut : Cut C) (until : ℕ) → IsCable cut → IsSound kind cut → until ≤ 2 ^ 39
    → ((i : ℕ) → i < count cut → clock_at kind cut i < 2 ^ 40)
    → IsSoundScript (script kind cut until)
