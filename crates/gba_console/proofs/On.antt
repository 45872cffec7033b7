-- A console that is on, and one that is off.
use Rattle.std.proofs.Common.{◌≡◌, ℕ, ◌<◌, ◌≤◌, ◌^◌, Bool, true, false, List, None, refl, sym, ap, ◌∙◌, arith, if◌then◌else◌}
use Rattle.std.specs.Prelude.{nat_lt, not}
use Rattle.std.proofs.lemmas.Bool.Decides.{nat_tests}
use Rattle.gba_io.specs.declared.board.Board.{Board}
use Rattle.link_node.specs.declared.signal.Incoming.{Incoming}
use Rattle.gba_console.specs.Keys.{due_of, next_due}
use Rattle.gba_console.specs.Machine.{Machine, clock_of, is_off}
use Rattle.gba_console.specs.Step.{stepped, stepped_off, stepped_on, told, told_on}
use Rattle.gba_console.specs.Waiting.{IsKept, IsSound}
use Rattle.gba_console.specs.declared.keys.KeyState.{KeyState}

below-false : (a b : ℕ) → b ≤ a → nat_lt a b ≡ false
below-false a b most = grind (arith, nat_tests)

below-true : (a b : ℕ) → a < b → nat_lt a b ≡ true
below-true a b less = grind (arith, nat_tests)

if-false : {A : Type 0} (test : Bool) (one other : A) → test ≡ false → (if test then one else other) ≡ other
if-false true one other e = cc
if-false false one other e = refl

if-true : {A : Type 0} (test : Bool) (one other : A) → test ≡ true → (if test then one else other) ≡ one
if-true true one other e = refl
if-true false one other e = cc

-- its step
pub stepped-is-on : (dues : List Incoming) (m : Machine) → m.off ≤ clock_of m → stepped dues m ≡ stepped_on dues m
unfolding stepped
stepped-is-on dues m on =
    if-false (is_off m) (stepped_off dues m) (stepped_on dues m) (below-false (clock_of m) m.off on)

pub told-is-on : (dues : List Incoming) (m : Machine) → m.off ≤ clock_of m → told dues m ≡ told_on dues m
unfolding told
told-is-on dues m on = if-false (is_off m) None (told_on dues m) (below-false (clock_of m) m.off on)

pub stepped-is-off : (dues : List Incoming) (m : Machine) → clock_of m < m.off → stepped dues m ≡ stepped_off dues m
unfolding stepped
stepped-is-off dues m off =
    if-true (is_off m) (stepped_off dues m) (stepped_on dues m) (below-true (clock_of m) m.off off)

pub told-is-off : (dues : List Incoming) (m : Machine) → clock_of m < m.off → told dues m ≡ None
unfolding told
told-is-off dues m off = if-true (is_off m) None (told_on dues m) (below-true (clock_of m) m.off off)

-- when keys are due
pub due-on : (off clock : ℕ) (changes : List KeyState) → off ≤ clock → next_due off clock changes ≡ due_of changes
due-on off clock changes on = if-false (nat_lt clock off) 0 (due_of changes) (below-false clock off on)

pub due-off : (off clock : ℕ) (changes : List KeyState) → clock < off → next_due off clock changes ≡ 0
due-off off clock changes below = if-true (nat_lt clock off) 0 (due_of changes) (below-true clock off below)

by-on : (test : Bool) (off clock due : ℕ) → nat_lt clock off ≡ test → clock < (if test then 0 else due) → off ≤ clock
by-on true off clock due is less = absurd (omega (arith, less))
by-on false off clock due is less = grind (arith, nat_tests)

pub on-by-due : (off clock : ℕ) (changes : List KeyState) → clock < next_due off clock changes → off ≤ clock
on-by-due off clock changes less = by-on (nat_lt clock off) off clock (due_of changes) refl less

early-by : (test : Bool) (due : ℕ) → (if test then 0 else due) ≤ due
early-by true due = omega arith
early-by false due = omega arith

pub due-early : (off clock : ℕ) (changes : List KeyState) → next_due off clock changes ≤ due_of changes
due-early off clock changes = early-by (nat_lt clock off) (due_of changes)

-- a step of a console that is on leaves it so
pub due-kept : (off clock later due : ℕ) (changes : List KeyState) → off ≤ clock → clock ≤ later
    → due ≡ next_due off clock changes → due ≡ next_due off later changes
due-kept off clock later due changes on past e =
    e ∙ due-on off clock changes on ∙ sym (due-on off later changes (omega (arith, on, past)))

pub kept-on : (off was : ℕ) (b : Board) → off ≤ 2 ^ 39 → off ≤ b.core.devices.clock → IsSound was b → IsKept off was b
kept-on off was b most on sound = record {
  most = most;
  on = λ _. sound;
  rests = λ below. absurd (omega (arith, below, on));
  short = sound.short;
  clock = sound.clock;
  few = sound.few;
  same = sound.same;
}

-- what holds of both cases
pub both : {A B : Type 0} (f : A → B) (test : Bool) (one other : A) (x y : B) → x ≡ f one → y ≡ f other
    → (if test then x else y) ≡ f (if test then one else other)
both f true one other x y here there = here
both f false one other x y here there = there

pub on-by : (off clock : ℕ) → not (nat_lt clock off) ≡ true → off ≤ clock
on-by off clock test = grind (arith, nat_tests)

pub off-by : (off clock : ℕ) → not (nat_lt clock off) ≡ false → clock < off
off-by off clock test = grind (arith, nat_tests)

pub still-on : (off clock : ℕ) → off ≤ clock → not (nat_lt clock off) ≡ true
still-on off clock on = ap not (below-false clock off on)
