-- Players that take their pieces, one after another.
use Rattle.std.proofs.Common.{◌≡◌, ◌<◌, ◌≤◌, ◌∙◌, ℕ, Bool, List, length, get_or, subst, arith}
use Rattle.std.proofs.lemmas.List.{get_or_default}
use Rattle.gba_console.specs.Machine.{Machine}
use Rattle.gba_session.proofs.SoFar.{SoFar}
use Rattle.gba_session.specs.Held.{HasTaken, HaveTaken}
use Rattle.gba_session.specs.declared.player.Player.{Player}

abbrev pub Takes : Bool → List Machine → ℕ → Player → Player → Type 0
Takes over ms k old new = (m : Machine) → HasTaken over old (get_or ms k m) new

pub takes-one : (over : Bool) (ms : List Machine) (k : ℕ) (one : Machine) (old new : Player) → k < length ms
    → one ≡ get_or ms k one → HasTaken over old one new → Takes over ms k old new
takes-one over ms k one old new within here takes m =
    subst (λ (x : Machine). HasTaken over old x new) (here ∙ get_or_default ms k one m within) takes

pub all-take : (over : Bool) (ms : List Machine) (i : ℕ) (old new : List Player) → length old ≤ i
    → SoFar (Takes over ms) i old new → HaveTaken over old ms new
all-take over ms i old new past held = record {
  many = held.many;
  each = λ k p m q within. held.changed k p q (omega (arith, within, past)) within m;
}
