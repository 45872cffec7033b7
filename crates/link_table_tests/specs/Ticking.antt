use Rattle.std.specs.Prelude.{ℕ, Bool, true, false, ◌≡◌, ◌+◌, ◌%◌, ◌^◌, ◌<◌, ◌≤◌, ◌==◌, if◌then◌else◌, List, Option, None}
use Rattle.std.specs.Prelude.{Some, IfSome, refl}
use Rattle.std.proofs.Common.{arith}
use Rattle.link_node.specs.declared.signal.Incoming.{Incoming}
use Rattle.link_node.specs.declared.signal.LinkMode.TheVariants.{Multi}
use Rattle.link_node.specs.declared.signal.Signal.{Signal}
use Rattle.link_node.specs.Due.{FitsWidths}

-- a node for tests that steps by itself: a first step, then steps of one length

pub record Ticked : Type 0 where
  pub first : ℕ
  pub pace : ℕ
  pub gap : ℕ
  pub clock : ℕ
  pub was : ℕ

abbrev pub ticked_told : Ticked → Option Signal
ticked_told r =
    if r.clock % (1 + r.gap) == 0
    then Some (record {
      clock = r.clock;
      mode = Multi;
      start = Some (record { speed = 1; word = r.clock % 2 ^ 32 });
      reply = None;
    })
    else None

-- whatever is due, the next step is the same
abbrev pub ticked_next : Ticked → List Incoming → Ticked × Option Signal
ticked_next r due = (
  record {
    first = r.first;
    pace = r.pace;
    gap = r.gap;
    clock = r.clock + (1 + (if r.clock == 0 then r.first else r.pace) % 512);
    was = r.clock;
  },
  ticked_told r,
)

pub ticked_rises : (r : Ticked) (due : List Incoming) → r.clock < (ticked_next r due).0.clock
ticked_rises r due = omega arith

pub ticked_short : (r : Ticked) (due : List Incoming) → (ticked_next r due).0.clock ≤ r.clock + 512
ticked_short r due = omega arith

told_bears : (b : Bool) (s : Signal) (clock : ℕ) → s.clock ≡ clock
    → IfSome (if b then Some s else None) (λ t. t.clock ≡ clock)
told_bears true s clock e = e
told_bears false s clock e = tt

told_fits : (b : Bool) (s : Signal) → FitsWidths s → IfSome (if b then Some s else None) FitsWidths
told_fits true s h = h
told_fits false s h = tt

pub ticked_bears : (r : Ticked) (due : List Incoming) → IfSome (ticked_next r due).1 (λ s. s.clock ≡ r.clock)
ticked_bears r due = told_bears (r.clock % (1 + r.gap) == 0) _ r.clock refl

pub ticked_fits : (r : Ticked) (due : List Incoming) → IfSome (ticked_next r due).1 FitsWidths
ticked_fits r due = told_fits (r.clock % (1 + r.gap) == 0) _ ((omega arith, omega arith), tt)
