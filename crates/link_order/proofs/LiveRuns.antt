-- Runs from the live signals alone.
use Rattle.std.specs.Prelude.{Bool, true, List, [], ◌∷◌, All, filter, nat_lt}
use Rattle.std.proofs.Common.{ℕ, zero, suc, ◌≡◌, ◌<◌, ◌≤◌, inl, inr, arith, refl, sym, ap, ◌∙◌, subst}
use Rattle.std.proofs.lemmas.Bool.{cases_Bool}
use Rattle.link_order.specs.declared.sent.Sent.{Sent}
use Rattle.link_order.specs.NodeKind.{NodeKind, IsLawful}
use Rattle.link_order.specs.Cut.{Cut, count, clock_at, live, is_live, HasDelays, IsSound}
use Rattle.link_order.specs.GlobalOrder.{least, step, cycles_left, run}
use Rattle.link_order.proofs.Numbers.{least_is_player}
use Rattle.link_order.proofs.Lists.{all_head, all_tail, filter_keeps, filter_twice}
use Rattle.link_order.proofs.Runs.{falls, ends, run_unrolls, run_ends}
use Rattle.link_order.proofs.Hops.{delays_same}
use Rattle.link_order.proofs.Sound.{sound_live, sound_step}
use Rattle.link_order.proofs.Live.{live_step}

pub filter_all : {X : Type 0} (p : X → Bool) (xs : List X) → All (λ x. p x ≡ true) xs → filter p xs ≡ xs
filter_all p [] h = refl
filter_all p (x ∷ xs) h =
    filter_keeps p x xs (all_head (λ y. p y ≡ true) x xs h)
    ∙ ap (λ (t : List _). x ∷ t) (filter_all p xs (all_tail (λ y. p y ≡ true) x xs h))

-- a cut whose signals are all live is its own live part
pub live_whole : {C : Type 0} (kind : NodeKind C) (cut : Cut C)
    → All (λ (one : Sent). is_live kind cut one ≡ true) cut.sent → live kind cut ≡ cut
live_whole {C = C} kind cut h =
    ap (λ (t : List Sent). let d : Cut C = record { consoles = cut.consoles; delays = cut.delays; sent = t } in d)
    (filter_all (is_live kind cut) cut.sent h)

live_twice : {C : Type 0} (kind : NodeKind C) (cut : Cut C) → live kind (live kind cut) ≡ live kind cut
live_twice {C = C} kind cut =
    ap (λ (t : List Sent). let d : Cut C = record { consoles = cut.consoles; delays = cut.delays; sent = t } in d)
    (filter_twice (is_live kind cut) (is_live kind cut) (λ one e. e) cut.sent)

run_live_by : {C : Type 0} (kind : NodeKind C) → IsLawful kind → (most : ℕ) (cut : Cut C) (until : ℕ)
    → cycles_left kind cut until ≤ most
    → 0 < count cut → HasDelays cut → IsSound kind cut
    → live kind (run kind (live kind cut) until) ≡ live kind (run kind cut until)
run_live_by kind law zero cut until few some later sound =
    let e = ends kind cut until some (omega arith) in
    ap (live kind) (run_ends kind (live kind cut) until e) ∙ live_twice kind cut
    ∙ ap (live kind) (sym (run_ends kind cut until e))
run_live_by {C = C} kind law (suc most) cut until few some later sound =
    elim (cases_Bool (nat_lt (clock_at kind cut (least kind cut)) until)) [
      | inr e ↦ ap (live kind) (run_ends kind (live kind cut) until e) ∙ live_twice kind cut
          ∙ ap (live kind) (sym (run_ends kind cut until e))
      | inl e ↦
          let a : Cut C = step kind (live kind cut) in
          let b : Cut C = step kind cut in
          let fa = falls kind law (live kind cut) until some e in
          let fb = falls kind law cut until some e in
          let less_a : cycles_left kind a until < cycles_left kind cut until = fa.fewer in
          let less_b : cycles_left kind b until < cycles_left kind cut until = fb.fewer in
          let some_a : 0 < count a = subst (λ (n : ℕ). 0 < n) (sym fa.count_is) some in
          let some_b : 0 < count b = subst (λ (n : ℕ). 0 < n) (sym fb.count_is) some in
          let same : live kind a ≡ live kind b =
          live_step kind law cut (least kind cut) (least_is_player (clock_at kind cut) (count cut) some) sound in
          let later_a : HasDelays a = delays_same a cut fa.count_is fa.delays_are later in
          let later_b : HasDelays b = delays_same b cut fb.count_is fb.delays_are later in
          let sound_a = sound_step kind law (live kind cut) some later (sound_live kind cut sound) in
          let sound_b = sound_step kind law cut some later sound in
          let ia = run_live_by kind law most a until (omega arith) some_a later_a sound_a in
          let ib = run_live_by kind law most b until (omega arith) some_b later_b sound_b in
          ap (live kind) (run_unrolls kind law (live kind cut) until some e)
          ∙ sym ia ∙ ap (λ (d : Cut C). live kind (run kind d until)) same ∙ ib
          ∙ ap (live kind) (sym (run_unrolls kind law cut until some e))
    ]

-- a run from the live signals alone ends with the same live signals
pub run_live : {C : Type 0} (kind : NodeKind C) → IsLawful kind → (cut : Cut C) (until : ℕ)
    → 0 < count cut → HasDelays cut → IsSound kind cut
    → live kind (run kind (live kind cut) until) ≡ live kind (run kind cut until)
run_live kind law cut until = run_live_by kind law (cycles_left kind cut until) cut until (omega arith)
