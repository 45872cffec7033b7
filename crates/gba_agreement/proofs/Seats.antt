-- Units know their places all along a trace.
use Rattle.std.proofs.Common.{ℕ, zero, suc, ◌≡◌, List, [], ◌∷◌, ap, sym, subst, ◌∙◌, inl, inr}
use Rattle.std.proofs.lemmas.Bool.{cases_Bool}
use Rattle.gba_serial.specs.SerialUnit.{SerialUnit}
use Rattle.gba_serial.specs.Take.{taken}
use Rattle.gba_serial.specs.End.{ended}
use Rattle.gba_serial.specs.Steps.{HalfwordWrite, all_written, fed, hear}
use Rattle.gba_serial.specs.Law.{KeepsSeat}
use Rattle.gba_serial.proofs.Seats.{stays}
use Rattle.link_node.specs.declared.signal.Incoming.{Incoming}
use Rattle.link_order.specs.NodeKind.{NodeKind}
use Rattle.link_order.specs.Cut.{Cut}
use Rattle.link_steps.specs.Law.{HasSteps, MakesStep}
use Rattle.gba_agreement.specs.UnitView.{HasUnit, IsSeat, IsSeated, UnitView}

module _ {C : Type 0} (cut : Cut C) (i : ℕ) where
  keeps : (u v : SerialUnit) → KeepsSeat u v → IsSeat cut i u → IsSeat cut i v
  keeps u v kept seat = record {
    player = kept.player ∙ seat.player;
    count_is = kept.count ∙ seat.count_is;
    round = kept.round ∙ seat.round;
  }

  pub ended-seat : (clock : ℕ) (u : SerialUnit) → IsSeat cut i u → IsSeat cut i (ended clock u)
  ended-seat clock u seat = keeps u (ended clock u) (stays.ended clock u) seat

  pub fed-seat : (dues : List Incoming) (u : SerialUnit) → IsSeat cut i u → IsSeat cut i (fed dues u)
  fed-seat [] u seat = seat
  fed-seat (due ∷ dues) u seat =
      let v = ended due.arrival u in
      fed-seat dues (taken due v) (keeps v (taken due v) (stays.taken due v) (ended-seat due.arrival u seat))

  pub hear-seat : (clock : ℕ) (dues : List Incoming) (u : SerialUnit) → IsSeat cut i u
      → IsSeat cut i (hear clock dues u)
  hear-seat clock dues u seat = ended-seat clock (fed dues u) (fed-seat dues u seat)

  pub all_written-seat : (clock : ℕ) (writes : List HalfwordWrite) (u : SerialUnit) → IsSeat cut i u
      → IsSeat cut i (all_written clock writes u)
  all_written-seat clock [] u seat = seat
  all_written-seat clock (one ∷ earlier) u seat =
      let v = all_written clock earlier u in
      keeps v (all_written clock (one ∷ earlier) u) (stays.written clock one.offset one.value v)
      (all_written-seat clock earlier u seat)

pub seated : {C : Type 0} (kind : NodeKind C) (view : UnitView C) → HasUnit kind view → (cut : Cut C) (until : ℕ)
    → HasSteps kind cut until → IsSeated view cut → (i m : ℕ) (x : C) (dues : List Incoming)
    → MakesStep kind cut until i m x dues → IsSeat cut i (view.unit x)
seated kind view has cut until steps at i zero x dues step = at i x (steps.first i x dues step)
seated {C = C} kind view has cut until steps at i (suc m) y dues step =
    let from = steps.further i m y dues step in
    let x = from.x in
    let before = seated kind view has cut until steps at i m x from.dues from.step in
    let unit_is : view.unit y ≡ view.unit (kind.next x from.dues).0 = ap view.unit from.next_is in
    elim (cases_Bool (view.is_on x)) [
      | inl e ↦
          let touches = has.touches x from.dues e in
          let heard = hear (kind.clock x) from.dues (view.unit x) in
          let after : IsSeat cut i touches.after =
          subst (IsSeat cut i) (sym touches.after_is)
          (all_written-seat cut i (kind.clock x) touches.writes heard
          (hear-seat cut i (kind.clock x) from.dues (view.unit x) before)) in
          subst (IsSeat cut i) (sym (unit_is ∙ touches.unit_is))
          (record { player = after.player; count_is = after.count_is; round = after.round })
      | inr e ↦
          subst (IsSeat cut i) (sym (unit_is ∙ (has.rests x from.dues e).unit_is))
          (record { player = before.player; count_is = before.count_is; round = before.round })
    ]
