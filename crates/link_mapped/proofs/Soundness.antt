-- A run keeps a cut sound, and may be made in parts.
use Rattle.std.specs.Prelude.{nat_lt}
use Rattle.std.proofs.Common.{ℕ, zero, suc, ◌<◌, ◌≤◌, inl, inr, arith, sym, ap, ◌∙◌, subst}
use Rattle.std.proofs.lemmas.Bool.{cases_Bool}
use Rattle.link_order.specs.NodeKind.{NodeKind, IsLawful}
use Rattle.link_order.specs.Cut.{Cut, count, clock_at, live, HasDelays, IsSound}
use Rattle.link_order.specs.GlobalOrder.{least, step, cycles_left, run}
use Rattle.link_order.proofs.Runs.{falls, ends, run_ends, run_unrolls, splits}
use Rattle.link_order.proofs.LiveRuns.{run_live}
use Rattle.link_order.proofs.Hops.{delays_same}
use Rattle.link_order.proofs.Sound.{sound_step}
use Rattle.link_mapped.specs.Law.{RunsLiveInParts}

-- what a run keeps
pub record Kept {C : Type 0} (kind : NodeKind C) (cut : Cut C) : Type 0 where
  pub some : 0 < count cut
  pub later : HasDelays cut
  pub sound : IsSound kind cut

run-kept-by : {C : Type 0} (kind : NodeKind C) → IsLawful kind → (most : ℕ) (cut : Cut C) (until : ℕ)
    → cycles_left kind cut until ≤ most → Kept kind cut → Kept kind (run kind cut until)
run-kept-by {C = C} kind law zero cut until few kept =
    subst (λ (d : Cut C). Kept kind d) (sym (run_ends kind cut until (ends kind cut until kept.some (omega arith))))
    kept
run-kept-by {C = C} kind law (suc most) cut until few kept =
    elim (cases_Bool (nat_lt (clock_at kind cut (least kind cut)) until)) [
      | inr e ↦ subst (λ (d : Cut C). Kept kind d) (sym (run_ends kind cut until e)) kept
      | inl e ↦
          let f = falls kind law cut until kept.some e in
          let less : cycles_left kind (step kind cut) until < cycles_left kind cut until = f.fewer in
          let after : Kept kind (step kind cut) = record {
            some = subst (λ (n : ℕ). 0 < n) (sym f.count_is) kept.some;
            later = delays_same (step kind cut) cut f.count_is f.delays_are kept.later;
            sound = sound_step kind law cut kept.some kept.later kept.sound;
          } in
          subst (λ (d : Cut C). Kept kind d) (sym (run_unrolls kind law cut until kept.some e))
          (run-kept-by kind law most (step kind cut) until (omega arith) after)
    ]

pub run-kept : {C : Type 0} (kind : NodeKind C) → IsLawful kind → (cut : Cut C) (until : ℕ) → Kept kind cut
    → Kept kind (run kind cut until)
run-kept kind law cut until kept = run-kept-by kind law (cycles_left kind cut until) cut until (omega arith) kept

pub live-parts : {C : Type 0} (kind : NodeKind C) → IsLawful kind → RunsLiveInParts kind
live-parts kind law cut first until some later sound within =
    let mid = run-kept kind law cut first (record { some = some; later = later; sound = sound }) in
    run_live kind law (run kind cut first) until mid.some mid.later mid.sound
    ∙ ap (live kind) (splits kind law cut first until within)
