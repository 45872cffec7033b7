-- Runs of alike cuts.
use Rattle.std.specs.Prelude.{Bool, List, [], ◌∷◌, Option, None, Some, nat_lt, slice_get, slice_index, if◌then◌else◌}
use Rattle.std.proofs.Common.{ℕ, zero, suc, ◌≡◌, ◌<◌, ◌∙◌, refl, sym, ap, subst}
use Rattle.link_node.specs.declared.signal.Incoming.{Incoming}
use Rattle.link_node.specs.declared.signal.Signal.{Signal}
use Rattle.link_order.specs.NodeKind.{NodeKind, IsLawful}
use Rattle.link_order.specs.Cut.{Cut, HasDelays, IsSound, count, live}
use Rattle.link_order.specs.GlobalOrder.{after_turns, cycles_left, due_at, least, least_below, run, step, step_from, step_of, step_with}
use Rattle.link_order.specs.GlobalOrder.{trace, trace_of, with_signal}
use Rattle.link_order.proofs.Hops.{delays_same}
use Rattle.link_order.proofs.LiveRuns.{run_live}
use Rattle.link_mapped.specs.Law.{AreAlike, MapsRuns, RunsAlike, RunsLiveAlike}
use Rattle.link_mapped.specs.Mapped.{IsUnseen, each_mapped, mapped}
use Rattle.link_mapped.proofs.InCommon.{Alike, Sight, alike-of, due-same, is-alike, least-same, left-same, live-alike}
use Rattle.link_mapped.proofs.InCommon.{mapped-same, sight, sight-same}
use Rattle.link_mapped.proofs.Matching.{Both, get-matched, length-same, set-matched}

module _ {C : Type 0} (kind : NodeKind C) (f g : ℕ → C → C) (unseen : IsUnseen kind f g) where
  -- a step of one player
  step-by : (cut other : Cut C) (i : ℕ) (signals : List Incoming) (o p : Option C)
      → Both (λ x y. f i x ≡ g i y) o p → Alike f g cut other
      → Alike f g (step_from kind cut i signals o) (step_from kind other i signals p)
  step-by cut other i signals None None both alike = alike
  step-by cut other i signals None (Some y) both alike = absurd both
  step-by cut other i signals (Some x) None both alike = absurd both
  step-by cut other i signals (Some x) (Some y) both alike = record {
    consoles =
        set-matched f g cut.consoles other.consoles i (kind.next x signals).0 (kind.next y signals).0 alike.consoles
        (unseen.next i x y signals both);
    delays = alike.delays;
    sent =
        ap (λ (o : Option Signal). with_signal i o cut.sent) (unseen.tells i x y signals both)
        ∙ ap (with_signal i (kind.next y signals).1) alike.sent;
  }

  step-alike : (cut other : Cut C) (i : ℕ) → Alike f g cut other → Alike f g (step_of kind cut i) (step_of kind other i)
  step-alike cut other i alike =
      subst (λ (signals : List Incoming). Alike f g (step_of kind cut i) (step_with kind other i signals))
      (due-same kind f g unseen.clocks cut other alike i)
      (step-by cut other i (due_at kind cut i) (slice_get cut.consoles i) (slice_get other.consoles i)
      (get-matched f g cut.consoles other.consoles i alike.consoles) alike)

  turns-alike : (players : List ℕ) (cut other : Cut C) → Alike f g cut other
      → Alike f g (after_turns kind cut players) (after_turns kind other players)
  unfolding after_turns
  turns-alike [] cut other alike = alike
  turns-alike (i ∷ players) cut other alike =
      turns-alike players (step_of kind cut i) (step_of kind other i) (step-alike cut other i alike)

  -- and so of the one whose turn it is
  pub next-alike : (cut other : Cut C) → Alike f g cut other → Alike f g (step kind cut) (step kind other)
  next-alike cut other alike =
      subst (λ (i : ℕ). Alike f g (step kind cut) (step_of kind other i))
      (least-same kind f g unseen.clocks cut other alike) (step-alike cut other (least kind cut) alike)

  trace-same : (most until : ℕ) (cut other : Cut C) → Alike f g cut other
      → trace_of kind most cut until ≡ trace_of kind most other until
  unfolding trace_of
  trace-same zero until cut other alike = refl
  trace-same (suc most) until cut other alike =
      let first : Sight → ℕ = λ (v : Sight). least_below (slice_index v.clocks) v.many in
      let goes : Sight → Bool = λ (v : Sight). nat_lt (slice_index v.clocks (first v)) until in
      ap (λ (v : Sight). if goes v then first v ∷ trace_of kind most (step kind cut) until else [])
      (sight-same kind f g unseen.clocks cut other alike)
      ∙ ap (λ (rest : List ℕ). if goes (sight kind other) then least kind other ∷ rest else [])
      (trace-same most until (step kind cut) (step kind other) (next-alike cut other alike))

  pub run-alike : (cut other : Cut C) (until : ℕ) → Alike f g cut other
      → Alike f g (run kind cut until) (run kind other until)
  run-alike cut other until alike =
      let left = ap (λ (n : ℕ). trace_of kind n cut until) (left-same kind f g unseen.clocks cut other alike until)
      ∙ trace-same (cycles_left kind other until) until cut other alike in
      subst (λ (players : List ℕ). Alike f g (run kind cut until) (after_turns kind other players)) left
      (turns-alike (trace kind cut until) cut other alike)

  pub run-live-alike : IsLawful kind → (cut other : Cut C) (until : ℕ) → 0 < count cut → HasDelays cut
      → IsSound kind cut → IsSound kind other → Alike f g (live kind cut) (live kind other)
      → mapped f (live kind (run kind cut until)) ≡ mapped g (live kind (run kind other until))
  run-live-alike law cut other until some later sound sound_other alike =
      let many : count cut ≡ count other = length-same f g cut.consoles other.consoles alike.consoles in
      let ends = run-alike (live kind cut) (live kind other) until alike in
      ap (mapped f) (sym (run_live kind law cut until some later sound))
      ∙ mapped-same f g (live kind (run kind (live kind cut) until)) (live kind (run kind (live kind other) until))
      (live-alike kind f g unseen.clocks (run kind (live kind cut) until) (run kind (live kind other) until) ends)
      ∙ ap (mapped g) (run_live kind law other until (subst (λ (n : ℕ). 0 < n) many some)
      (delays_same other cut (sym many) (sym alike.delays) later) sound_other)

pub runs-alike : {C : Type 0} (kind : NodeKind C) → RunsAlike kind
runs-alike kind f g cut other until unseen same =
    mapped-same f g (run kind cut until) (run kind other until)
    (run-alike kind f g unseen cut other until (alike-of f g cut other same))

pub runs-live-alike : {C : Type 0} (kind : NodeKind C) → IsLawful kind → RunsLiveAlike kind
runs-live-alike kind law f g cut other until unseen some later sound sound_other same =
    run-live-alike kind f g unseen law cut other until some later sound sound_other
    (alike-of f g (live kind cut) (live kind other) same)

pub are-alike : {C : Type 0} (kind : NodeKind C) → AreAlike kind
are-alike kind f g cut other clocks same = is-alike kind f g clocks cut other (alike-of f g cut other same)

-- a change that changes nothing
each-left : {C : Type 0} (xs : List C) → each_mapped (λ i x. x) xs ≡ xs
each-left [] = refl
each-left {C = C} (x ∷ xs) = ap (λ (all : List C). x ∷ all) (each-left xs)

pub left-mapped : {C : Type 0} (cut : Cut C) → mapped (λ i x. x) cut ≡ cut
left-mapped {C = C} cut =
    ap (λ (xs : List C). let c : Cut C = record cut { consoles = xs } in c) (each-left cut.consoles)

pub maps-runs : {C : Type 0} (kind : NodeKind C) → MapsRuns kind
maps-runs kind f cut until unseen =
    sym (runs-alike kind f (λ i x. x) cut (mapped f cut) until unseen (sym (left-mapped (mapped f cut)))
    ∙ left-mapped (run kind (mapped f cut) until))
