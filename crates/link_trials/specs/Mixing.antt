use Rattle.std.specs.Prelude.{ℕ, Bool, true, false, ◌≡◌, ◌+◌, ◌*◌, ◌/◌, ◌%◌, ◌^◌, ◌<◌, ◌≤◌, ◌==◌, if◌then◌else◌, List}
use Rattle.std.specs.Prelude.{[], ◌∷◌, Option, None, Some, IfSome, refl}
use Rattle.std.proofs.Common.{arith}
use Rattle.link_node.specs.declared.signal.Incoming.{Incoming}
use Rattle.link_node.specs.declared.signal.LinkMode.TheVariants.{Multi}
use Rattle.link_node.specs.declared.signal.Signal.{Signal}
use Rattle.link_node.specs.Due.{FitsWidths}

-- a node for tests: a number that mixes into itself each signal that it takes

pub record Mixed : Type 0 where
  pub state : ℕ
  pub clock : ℕ
  pub was : ℕ

-- the number with one more signal in it
abbrev pub mix : ℕ → Incoming → ℕ
mix state one = ((state * 31 % 2 ^ 64 + one.arrival) % 2 ^ 64 * 5 % 2 ^ 64 + one.sender) % 2 ^ 64

abbrev pub mix_of : ℕ → List Incoming → ℕ
mix_of state [] = (state * 69069 % 2 ^ 64 + 12345) % 2 ^ 64
mix_of state (one ∷ rest) = mix_of (mix state one) rest

-- how long the step is, and what it tells
abbrev pub cycles : ℕ → ℕ
cycles state = 1 + state / 2 ^ 16 % 300

abbrev pub signal_of : ℕ → ℕ → Option Signal
signal_of state clock =
    if state / 2 ^ 32 % 4 == 0
    then Some (record {
      clock = clock;
      mode = Multi;
      start =
          Some (record { speed = state / 2 ^ 40 % 4; word = state % 2 ^ 32 });
      reply = None;
    })
    else None

abbrev pub after_state : Mixed → ℕ → Mixed
after_state r state = record { state = state; clock = r.clock + cycles state; was = r.clock }

abbrev pub mixed_next : Mixed → List Incoming → Mixed × Option Signal
mixed_next r due = (after_state r (mix_of r.state due), signal_of (mix_of r.state due) r.clock)

pub mixed_rises : (r : Mixed) (due : List Incoming) → r.clock < (mixed_next r due).0.clock
mixed_rises r due = omega arith

pub mixed_short : (r : Mixed) (due : List Incoming) → (mixed_next r due).0.clock ≤ r.clock + 512
mixed_short r due = omega arith

told_bears : (b : Bool) (s : Signal) (clock : ℕ) → s.clock ≡ clock
    → IfSome (if b then Some s else None) (λ t. t.clock ≡ clock)
told_bears true s clock e = e
told_bears false s clock e = tt

told_fits : (b : Bool) (s : Signal) → FitsWidths s → IfSome (if b then Some s else None) FitsWidths
told_fits true s h = h
told_fits false s h = tt

pub mixed_bears : (r : Mixed) (due : List Incoming) → IfSome (mixed_next r due).1 (λ s. s.clock ≡ r.clock)
mixed_bears r due = told_bears (mix_of r.state due / 2 ^ 32 % 4 == 0) _ r.clock refl

pub mixed_fits : (r : Mixed) (due : List Incoming) → IfSome (mixed_next r due).1 FitsWidths
mixed_fits r due = told_fits (mix_of r.state due / 2 ^ 32 % 4 == 0) _ ((omega arith, omega arith), tt)

-- a node for tests that keeps time: a first step, then steps of one length; it tells at one clock, and keeps the clock
-- of the first step that took a signal

pub record Beaten : Type 0 where
  pub first : ℕ
  pub pace : ℕ
  pub tells : ℕ
  pub heard : Option ℕ
  pub clock : ℕ
  pub was : ℕ

abbrev pub step_length : ℕ → ℕ
step_length n = 1 + n % 512

abbrev pub heard_at : Option ℕ → ℕ → List Incoming → Option ℕ
heard_at None clock (one ∷ rest) = Some clock
heard_at heard clock due = heard

abbrev pub beaten_told : Beaten → Option Signal
beaten_told r =
    if r.clock == r.tells
    then Some (record { clock = r.clock; mode = Multi; start = None; reply = None })
    else None

abbrev pub beaten_next : Beaten → List Incoming → Beaten × Option Signal
beaten_next r due = (
  record {
    first = r.first;
    pace = r.pace;
    tells = r.tells;
    heard = heard_at r.heard r.clock due;
    clock = r.clock + step_length (if r.clock == 0 then r.first else r.pace);
    was = r.clock;
  },
  beaten_told r,
)

pub beaten_rises : (r : Beaten) (due : List Incoming) → r.clock < (beaten_next r due).0.clock
beaten_rises r due = omega arith

pub beaten_short : (r : Beaten) (due : List Incoming) → (beaten_next r due).0.clock ≤ r.clock + 512
beaten_short r due = omega arith

pub beaten_bears : (r : Beaten) (due : List Incoming) → IfSome (beaten_next r due).1 (λ s. s.clock ≡ r.clock)
beaten_bears r due = told_bears (r.clock == r.tells) _ r.clock refl

pub beaten_fits : (r : Beaten) (due : List Incoming) → IfSome (beaten_next r due).1 FitsWidths
beaten_fits r due = told_fits (r.clock == r.tells) _ (tt, tt)
