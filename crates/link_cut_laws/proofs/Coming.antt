-- Each console that a run leaves has come there by its own steps.
use Rattle.std.specs.Prelude.{All, Some, slice_get}
use Rattle.std.proofs.Common.{ℕ, ◌≡◌, inl, inr, arith, sym, ap, ◌∙◌, subst}
use Rattle.link_node.specs.Due.{IsDue}
use Rattle.link_order.specs.NodeKind.{NodeKind, IsLawful}
use Rattle.link_order.specs.Cut.{Cut, clock_at, count, hop, was_at}
use Rattle.link_order.specs.Due.{is_due}
use Rattle.link_order.specs.GlobalOrder.{due_at, step_of}
use Rattle.link_order.specs.Order.{from}
use Rattle.link_order.proofs.DueOrder.{due_in_order, due_is_due}
use Rattle.link_order.proofs.Numbers.{same_or_apart}
use Rattle.link_cut_laws.specs.Law.{ComesBySteps, HasCome}
use Rattle.link_cut_laws.specs.Steps.{MayTurn, StepsTo, Stays, Steps}
use Rattle.link_cut_laws.proofs.Turning.{IsTurn, turned, runs-hold}

-- what is due to the console whose turn it is may be taken
may-turn : {C : Type 0} (kind : NodeKind C) (law : IsLawful kind) (until : ℕ) (cut : Cut C) (i : ℕ)
    (t : IsTurn kind until cut i) → MayTurn kind until (turned kind law until cut i t).x (due_at kind cut i)
may-turn kind law until cut i t =
    let a = turned kind law until cut i t in
    record {
      early = omega (arith, a.clock_is, t.early);
      ordered = due_in_order (hop cut) cut.sent i (is_due (was_at kind cut i) (clock_at kind cut i)) (count cut)
          t.sound.ordered;
      taken = subst (λ (w : ℕ). All (IsDue w (kind.clock a.x)) (due_at kind cut i)) a.was_is
          (subst (λ (n : ℕ). All (IsDue (was_at kind cut i) n) (due_at kind cut i)) a.clock_is
          (due_is_due (hop cut) (λ j. from j cut.sent) i (was_at kind cut i) (clock_at kind cut i) (count cut)
          t.cable.at_most_four (λ j below apart. t.cable.some_delay j i below t.player apart)));
    }

module _ {C : Type 0} (kind : NodeKind C) (law : IsLawful kind) where
  abbrev EachHasCome : ℕ → Cut C → Cut C → Type 0
  EachHasCome until cut d = (i : ℕ) (y : C) → slice_get d.consoles i ≡ Some y → HasCome kind until cut i y

  step-comes : (until : ℕ) (cut d : Cut C) (p : ℕ) → IsTurn kind until d p → EachHasCome until cut d
      → EachHasCome until cut (step_of kind d p)
  step-comes until cut d p t before i y there =
      let a = turned kind law until d p t in
      elim (same_or_apart i p) [
        | inl e ↦
            let own : slice_get (step_of kind d p).consoles p ≡ Some y
            = ap (slice_get (step_of kind d p).consoles) (sym e) ∙ there in
            let both : Some (kind.next a.x (due_at kind d p)).0 ≡ Some y = sym a.own_console ∙ own in
            let is : (kind.next a.x (due_at kind d p)).0 ≡ y = cc in
            let come = before i a.x (ap (slice_get d.consoles) e ∙ a.stands) in
            record {
              start = come.start;
              stands = come.stands;
              steps = subst (StepsTo kind until come.start) is
                  (Steps a.x (due_at kind d p) come.steps (may-turn kind law until d p t));
            }
        | inr e ↦ before i y (sym (a.other_console i e) ∙ there)
      ]

  pub comes-by-steps : ComesBySteps kind
  comes-by-steps cut until i y cable sound =
      runs-hold kind law until (EachHasCome until cut) (step-comes until cut) cut cable sound
      (λ j x stands. record { start = x; stands = stands; steps = Stays }) i y
