-- A stretch of the global order within a longer run.
use Rattle.std.specs.Prelude.{true, nat_lt}
use Rattle.std.proofs.Common.{ℕ, zero, suc, ◌≡◌, ◌<◌, ◌≤◌, inl, inr, arith, refl, sym, ap, ◌∙◌, subst}
use Rattle.std.proofs.lemmas.Bool.{cases_Bool, ltb-true, lt-ltb}
use Rattle.link_order.specs.NodeKind.{NodeKind, IsLawful}
use Rattle.link_order.specs.Cut.{Cut, count, clock_at, live, HasDelays, IsCable, IsSound}
use Rattle.link_order.specs.GlobalOrder.{least, step, cycles_left, trace_of, after_turns, run}
use Rattle.link_order.proofs.Hops.{delays_same}
use Rattle.link_order.proofs.Sound.{sound_step}
use Rattle.link_order.proofs.Runs.{falls, trace_goes, trace_ends, trace_zero, after_none, after_one, splits}
use Rattle.link_order.proofs.LiveRuns.{run_live}

-- what steps of the global order keep of a cut, with no more cycles left to a later end
record Keeps {C : Type 0} (kind : NodeKind C) (until : ℕ) (cut d : Cut C) : Type 0 where
  count_is : count d ≡ count cut
  delays_are : d.delays ≡ cut.delays
  sound : IsSound kind d
  no_more : cycles_left kind d until ≤ cycles_left kind cut until

keeps_none : {C : Type 0} (kind : NodeKind C) (until : ℕ) (cut : Cut C) → IsSound kind cut → Keeps kind until cut cut
keeps_none kind until cut sound = record { count_is = refl; delays_are = refl; sound = sound; no_more = omega arith }

keeps_by : {C : Type 0} (kind : NodeKind C) → IsLawful kind → (most : ℕ) (cut : Cut C) (first until : ℕ)
    → first ≤ until → 0 < count cut → HasDelays cut → IsSound kind cut
    → Keeps kind until cut (after_turns kind cut (trace_of kind most cut first))
keeps_by {C = C} kind law zero cut first until le some later sound =
    subst (λ (d : Cut C). Keeps kind until cut d)
    (sym (ap (after_turns kind cut) (trace_zero kind cut first) ∙ after_none kind cut))
    (keeps_none kind until cut sound)
keeps_by {C = C} kind law (suc most) cut first until le some later sound =
    elim (cases_Bool (nat_lt (clock_at kind cut (least kind cut)) first)) [
      | inl e ↦
          let early : clock_at kind cut (least kind cut) < first = ltb-true _ first e in
          let goes : nat_lt (clock_at kind cut (least kind cut)) until ≡ true = lt-ltb _ until (omega arith) in
          let f = falls kind law cut until some goes in
          let some' : 0 < count (step kind cut) = subst (λ (n : ℕ). 0 < n) (sym f.count_is) some in
          let later' : HasDelays (step kind cut) = delays_same (step kind cut) cut f.count_is f.delays_are later in
          let rest = keeps_by kind law most (step kind cut) first until le some' later'
          (sound_step kind law cut some later sound) in
          subst (λ (d : Cut C). Keeps kind until cut d)
          (sym (ap (after_turns kind cut) (trace_goes kind most cut first e) ∙ after_one kind cut (least kind cut) _))
          (record {
            count_is = rest.count_is ∙ f.count_is;
            delays_are = rest.delays_are ∙ f.delays_are;
            sound = rest.sound;
            no_more = omega (arith, rest.no_more, f.fewer);
          })
      | inr e ↦
          subst (λ (d : Cut C). Keeps kind until cut d)
          (sym (ap (after_turns kind cut) (trace_ends kind (suc most) cut first e) ∙ after_none kind cut))
          (keeps_none kind until cut sound)
    ]

-- a stretch changes nothing of the end, and leaves no more cycles
pub record IsStretch {C : Type 0} (kind : NodeKind C) (until : ℕ) (cut result : Cut C) : Type 0 where
  pub same_end : live kind (run kind result until) ≡ live kind (run kind cut until)
  pub no_more : cycles_left kind result until ≤ cycles_left kind cut until

pub stretch : {C : Type 0} (kind : NodeKind C) → IsLawful kind → (cut result : Cut C) (first until : ℕ) → first ≤ until
    → IsCable cut → IsSound kind cut → result ≡ live kind (run kind cut first) → IsStretch kind until cut result
stretch {C = C} kind law cut result first until le cable sound is =
    let r : Cut C = run kind cut first in
    let k =
    keeps_by kind law (cycles_left kind cut first) cut first until le cable.some_console cable.some_delay sound in
    let some : 0 < count r = subst (λ (n : ℕ). 0 < n) (sym k.count_is) cable.some_console in
    let later : HasDelays r = delays_same r cut k.count_is k.delays_are cable.some_delay in
    record {
      same_end =
          ap (λ (d : Cut C). live kind (run kind d until)) is
          ∙ run_live kind law r until some later k.sound
          ∙ ap (live kind) (splits kind law cut first until le);
      no_more = subst (λ (d : Cut C). cycles_left kind d until ≤ cycles_left kind cut until) (sym is) k.no_more;
    }
