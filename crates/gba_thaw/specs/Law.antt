use Rattle.std.specs.Prelude.{◌≡◌, ℕ, List, length, Ok}
use Rattle.gba_console.specs.Alone.{console_kind}
use Rattle.gba_console.specs.Machine.{Machine, without_limit}
use Rattle.gba_session.specs.Session.{AreEmpty}
use Rattle.gba_thaw.specs.Cut.{thaw_of}
use Rattle.link_core.specs.Whole.{IsWhole}
use Rattle.link_order.specs.Cut.{Cut, plain_cut}

-- A run can go on from consoles that have the cable of a start, and empty lists.
pub record GoesOnFrom (start cut : Cut Machine) : Type 0 where
  pub delays : cut.delays ≡ start.delays
  pub many : length cut.consoles ≡ length start.consoles
  pub whole : IsWhole console_kind (plain_cut without_limit cut)
  pub empty : AreEmpty cut

-- It can from what is thawed.
abbrev pub ThawsSoundly : Type 0
ThawsSoundly =
    (digest : List ℕ) (until : ℕ) (start cut : Cut Machine) (bytes : List ℕ)
    → thaw_of digest until start bytes ≡ Ok cut → GoesOnFrom start cut

-- Where the lists of the consoles begin at their start, and where their room ends, isn't seen.
abbrev pub ThawsPlainly : Type 0
ThawsPlainly =
    (digest : List ℕ) (until : ℕ) (start : Cut Machine) (bytes : List ℕ)
    → thaw_of digest until (plain_cut without_limit start) bytes ≡ thaw_of digest until start bytes
