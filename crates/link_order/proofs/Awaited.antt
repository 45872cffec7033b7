-- Signals that some other player can still take.
use Rattle.std.specs.Prelude.{Bool, true, false, not, nat_lt, ◌==◌, ◌||◌, ◌&&◌}
use Rattle.std.proofs.Common.{ℕ, zero, suc, ◌≡◌, ◌≢◌, ◌+◌, ◌<◌, ◌≤◌, inl, inr, arith, sym, ap, ◌∙◌, subst}
use Rattle.std.proofs.lemmas.Bool.Decides.{nat_tests}
use Rattle.std.proofs.lemmas.Bool.{cases_Bool}
use Rattle.link_order.specs.declared.sent.Sent.{Sent}
use Rattle.link_order.specs.Cut.{is_awaited}
use Rattle.link_order.proofs.Numbers.{same_or_apart}

-- some player that can still take a signal
pub record Awaits (between : ℕ → ℕ → ℕ) (was : ℕ → ℕ) (n : ℕ) (one : Sent) : Type 0 where
  pub player : ℕ
  pub below : player < n
  pub apart : player ≢ one.sender
  pub hears : was player < one.signal.clock + between one.sender player

abbrev takes : (ℕ → ℕ → ℕ) → (ℕ → ℕ) → ℕ → Sent → Bool
takes between was i one = not (i == one.sender) && nat_lt (was i) (one.signal.clock + between one.sender i)

takes_facts : (between : ℕ → ℕ → ℕ) (was : ℕ → ℕ) (i : ℕ) (one : Sent) → takes between was i one ≡ true
    → (i ≢ one.sender) × (was i < one.signal.clock + between one.sender i)
takes_facts between was i one e = (grind (arith, nat_tests), grind (arith, nat_tests))

takes_from : (between : ℕ → ℕ → ℕ) (was : ℕ → ℕ) (i : ℕ) (one : Sent) → i ≢ one.sender
    → was i < one.signal.clock + between one.sender i
    → takes between was i one ≡ true
takes_from between was i one apart hears = grind (arith, nat_tests)

pub awaits : (between : ℕ → ℕ → ℕ) (was : ℕ → ℕ) (n : ℕ) (one : Sent) → is_awaited between was n one ≡ true
    → Awaits between was n one
awaits between was zero one e = let f : false ≡ true = e in cc
awaits between was (suc i) one e =
    elim (cases_Bool (takes between was i one)) [
      | inl t ↦ let f = takes_facts between was i one t in
          record { player = i; below = omega arith; apart = f.0; hears = f.1 }
      | inr t ↦
          let rest : is_awaited between was i one ≡ true = sym (ap (λ b. b || is_awaited between was i one) t) ∙ e in
          let a = awaits between was i one rest in
          record { player = a.player; below = omega (arith, a.below); apart = a.apart; hears = a.hears }
    ]

pub is_awaited_by : (between : ℕ → ℕ → ℕ) (was : ℕ → ℕ) (n : ℕ) (one : Sent) (i : ℕ) → i < n → i ≢ one.sender
    → was i < one.signal.clock + between one.sender i → is_awaited between was n one ≡ true
is_awaited_by between was zero one i below apart hears = absurd (omega arith)
is_awaited_by between was (suc k) one i below apart hears =
    elim (same_or_apart i k) [
      | inl e ↦
          let t : takes between was k one ≡ true =
          subst (λ (m : ℕ). takes between was m one ≡ true) e (takes_from between was i one apart hears) in
          ap (λ b. b || is_awaited between was k one) t
      | inr e ↦
          let rest = is_awaited_by between was k one i (omega arith) apart hears in
          elim (cases_Bool (takes between was k one)) [
            | inl t ↦ ap (λ b. b || is_awaited between was k one) t
            | inr t ↦ ap (λ b. b || is_awaited between was k one) t ∙ rest
          ]
    ]

-- where the last steps began later, no other signal is awaited
pub awaited_before : (between : ℕ → ℕ → ℕ) (was later : ℕ → ℕ) (n : ℕ) → ((i : ℕ) → i < n → was i ≤ later i)
    → (one : Sent) → is_awaited between later n one ≡ true → is_awaited between was n one ≡ true
awaited_before between was later n rises one e =
    let a = awaits between later n one e in
    is_awaited_by between was n one a.player a.below a.apart (omega (arith, rises a.player a.below, a.hears))
