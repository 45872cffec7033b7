use Rattle.std.specs.Prelude.{ℕ, ◌≡◌, ◌*◌, ◌^◌, ◌<◌, ◌≤◌, Bool, true, List, [], length, map, get_or, vec_capacity}
use Rattle.std.specs.List.{All}
use Rattle.gba_console.specs.Alone.{console_kind}
use Rattle.gba_console.specs.Machine.{Machine, clock_of, without_limit}
use Rattle.gba_joblog.specs.declared.outputs.OutKind.TheVariants.{Words, State, Save}
use Rattle.gba_joblog.specs.declared.outputs.PerKind.{PerKind}
use Rattle.gba_session.specs.Files.{output_bytes}
use Rattle.gba_session.specs.Session.{Consoles, is_over, segment_cut}
use Rattle.gba_session.specs.declared.player.Player.{Player}
use Rattle.link_order.specs.Cut.{Cut, HasDelays, IsSound, count, plain_cut}

-- What a session keeps beside its consoles: the outputs of the last segment.

-- the buffers of what a player is asked for have room for it: for the words of a segment's transfers, a
-- state and a save
pub record HasRoom (p : Player) : Type 0 where
  pub words : p.asks.words ≡ true → 49 * 32770 ≤ vec_capacity p.words
  pub state : p.asks.state ≡ true → 1051937 ≤ vec_capacity p.state
  pub save : p.asks.save ≡ true → 131072 ≤ vec_capacity p.save

-- the words are those of a console's lists; and once the run is over, state and save are its own
pub record HasPieces (over : Bool) (p : Player) (m : Machine) : Type 0 where
  pub words : p.asks.words ≡ true → p.words.items ≡ output_bytes Words m
  pub state : over ≡ true → p.asks.state ≡ true → p.state.items ≡ output_bytes State m
  pub save : over ≡ true → p.asks.save ≡ true → p.save.items ≡ output_bytes Save m

-- nothing is written yet
pub record IsUnused (p : Player) : Type 0 where
  pub room : HasRoom p
  pub words : p.words.items ≡ []

-- a player's pieces were taken from a console
pub record HasTaken (over : Bool) (old : Player) (m : Machine) (new : Player) : Type 0 where
  pub asks : new.asks ≡ old.asks
  pub room : HasRoom old → HasRoom new
  pub pieces : HasPieces over new m

-- the same of each player
pub record HaveTaken (over : Bool) (old : List Player) (ms : List Machine) (new : List Player) : Type 0 where
  pub many : length new ≡ length old
  pub each : (k : ℕ) (p : Player) (m : Machine) (q : Player) → k < length old
      → HasTaken over (get_or old k p) (get_or ms k m) (get_or new k q)

-- a cut from which consoles run in segments
pub record CanRun (cut : Cut Machine) : Type 0 where
  pub some_console : 0 < count cut
  pub delays : HasDelays cut
  pub sound : IsSound console_kind cut

abbrev pub asks_in : Player → PerKind Bool
asks_in p = p.asks

-- what a session stands for
abbrev pub session_value : Cut Machine → ℕ → ℕ → ℕ → List Player → Consoles
session_value start from to until players =
    record { start = start; from = from; to = to; until = until; asks = map asks_in players }

-- what holds of a session between segments: its consoles are those of the last one, and what the players hold is theirs
pub record IsSegmented (s : Consoles) (cut : Cut Machine) (players : List Player) : Type 0 where
  pub is : plain_cut without_limit cut ≡ segment_cut s
  pub late : All (λ (m : Machine). s.to ≤ clock_of m) cut.consoles
  pub begun : s.from ≤ s.to
  pub within : s.to ≤ s.until
  pub most : s.until ≤ 2 ^ 39
  pub start : CanRun s.start
  pub many : length players ≡ count cut
  pub rooms : All HasRoom players
  pub pieces : (k : ℕ) (p : Player) (m : Machine) → k < length players
      → HasPieces (is_over s) (get_or players k p) (get_or (segment_cut s).consoles k m)
