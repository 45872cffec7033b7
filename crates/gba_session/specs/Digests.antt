use Rattle.std.specs.Prelude.{ℕ, ◌≡◌, ◌<◌, ◌≤◌, Bool, true, false, List, [], length, get_or, if◌then◌else◌}
use Rattle.std.specs.List.{All}
use Rattle.gba_console.specs.Machine.{Machine, forgotten}
use Rattle.gba_console.specs.Segments.{behind}
use Rattle.gba_joblog.specs.Outputs.{at_kind}
use Rattle.gba_joblog.specs.declared.outputs.OutKind.{OutKind}
use Rattle.gba_joblog.specs.declared.outputs.PerKind.{PerKind}
use Rattle.gba_session.specs.Files.{grows, output_bytes}
use Rattle.gba_session.specs.Session.{Consoles, is_over, segment_cut, whole_cut}
use Rattle.gba_session.specs.Start.{run_until}
use Rattle.sha2.specs.Hashers.{Holds256}
use Rattle.sha2.specs.declared.Sha256.{Sha256}

-- What is hashed of the outputs of a session's consoles.

-- no segment is run yet, one is to be, and the consoles' lists are empty
pub record IsFresh (s : Consoles) : Type 0 where
  pub left : is_over s ≡ false
  pub empty : All (λ (m : Machine). m ≡ forgotten m) (run_until s.to s.start).consoles

-- whether an output is made by now: what doesn't grow is made once the run is over
abbrev pub is_made : Bool → OutKind → Bool
is_made over kind = if grows kind then true else over

-- whether a player has a piece of an output: it is asked for, and made by now
abbrev pub has_piece : Bool → PerKind Bool → OutKind → Bool
has_piece over asks kind = if at_kind asks kind then is_made over kind else false

-- the bytes of an output that are made by now
abbrev pub bytes_by_now : Bool → Machine → OutKind → List ℕ
bytes_by_now over m kind = if is_made over kind then output_bytes kind m else []

-- a player's hashers hold the outputs that it is asked for, as far as its console has made them
abbrev pub IsHashed : Bool → PerKind Bool → PerKind Sha256 → Machine → Type 0
IsHashed over asks hashers m =
    (kind : OutKind) → at_kind asks kind ≡ true → Holds256 (at_kind hashers kind) (bytes_by_now over m kind)

-- the hasher of one output holds what m has made of it behind what another console had before it
abbrev pub Adds : Bool → OutKind → Sha256 → Machine → Sha256 → Type 0
Adds over kind old m new =
    (before : Machine) → Holds256 old (bytes_by_now false before kind)
    → Holds256 new (bytes_by_now over (behind before m) kind)

-- the same of the outputs that a player is asked for
abbrev pub AddsAll : Bool → PerKind Bool → PerKind Sha256 → Machine → PerKind Sha256 → Type 0
AddsAll over asks old m new =
    (kind : OutKind) → at_kind asks kind ≡ true → Adds over kind (at_kind old kind) m (at_kind new kind)

-- the same of one player of a session, for its last segment
abbrev pub AddsHere : Consoles → ℕ → PerKind Sha256 → PerKind Sha256 → Type 0
AddsHere s k old new =
    (asks : PerKind Bool) (m : Machine) → AddsAll (is_over s) (get_or s.asks k asks) old
    (get_or (segment_cut s).consoles k m) new

-- and of each player
pub record AddsEach (s : Consoles) (old new : List (PerKind Sha256)) : Type 0 where
  pub many : length new ≡ length old
  pub each : (k : ℕ) (h g : PerKind Sha256) → k < length old → AddsHere s k (get_or old k h) (get_or new k g)

-- all hashers hold what the consoles of a session have made
pub record AreHashed (s : Consoles) (each : List (PerKind Sha256)) : Type 0 where
  pub many : length each ≡ length s.asks
  pub whole : length (whole_cut s).consoles ≡ length s.asks
  pub so_far : length (run_until s.to s.start).consoles ≡ length s.asks
  pub within : s.to ≤ s.until
  pub hashed : (k : ℕ) (asks : PerKind Bool) (m : Machine) (h : PerKind Sha256) → k < length each
      → IsHashed (is_over s) (get_or s.asks k asks) (get_or each k h) (get_or (run_until s.to s.start).consoles k m)
