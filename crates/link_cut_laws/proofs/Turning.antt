-- What each step of a run keeps of its cut, the run keeps.
use Rattle.std.specs.Prelude.{List, [], ◌∷◌, Option, None, Some, slice_get}
use Rattle.std.proofs.Common.{ℕ, ◌<◌, refl, sym, ◌∙◌, subst}
use Rattle.std.proofs.Math.ListN.{length-set}
use Rattle.link_node.specs.declared.signal.Incoming.{Incoming}
use Rattle.link_order.specs.NodeKind.{NodeKind, IsLawful}
use Rattle.link_order.specs.Cut.{Cut, count, clock_at, IsCable, IsSound}
use Rattle.link_order.specs.GlobalOrder.{after_turns, due_at, run, step_from, step_of, trace}
use Rattle.link_order.proofs.Hops.{cable_same}
use Rattle.link_order.proofs.Runs.{after_none, after_one}
use Rattle.link_laws.proofs.Advance.{Ahead, Advanced, advance}
use Rattle.link_laws.proofs.History.{Leads, trace_leads}
use Rattle.link_cut_laws.specs.Law.{HasSameCable, KeepsCable}

-- ---- the cable stays, whoever steps

stepped-cable : {C : Type 0} (kind : NodeKind C) (cut : Cut C) (i : ℕ) (dues : List Incoming) (there : Option C)
    → HasSameCable cut (step_from kind cut i dues there)
stepped-cable kind cut i dues None = record { count_is = refl; delays_are = refl }
stepped-cable kind cut i dues (Some x) =
    record { count_is = length-set cut.consoles i (kind.next x dues).0; delays_are = refl }

turns-cable : {C : Type 0} (kind : NodeKind C) (cut : Cut C) (ps : List ℕ) → HasSameCable cut (after_turns kind cut ps)
turns-cable kind cut [] =
    subst (HasSameCable cut) (sym (after_none kind cut)) (record { count_is = refl; delays_are = refl })
turns-cable kind cut (p ∷ ps) =
    let one = stepped-cable kind cut p (due_at kind cut p) (slice_get cut.consoles p) in
    let rest = turns-cable kind (step_of kind cut p) ps in
    subst (HasSameCable cut) (sym (after_one kind cut p ps)) (record {
      count_is = rest.count_is ∙ one.count_is;
      delays_are = rest.delays_are ∙ one.delays_are;
    })

pub runs-cable : {C : Type 0} (kind : NodeKind C) → KeepsCable kind
runs-cable kind cut until = turns-cable kind cut (trace kind cut until)

-- ---- steps of a run

-- the next step of a run to `until` is console i's
pub record IsTurn {C : Type 0} (kind : NodeKind C) (until : ℕ) (cut : Cut C) (i : ℕ) : Type 0 where
  pub cable : IsCable cut
  pub sound : IsSound kind cut
  pub player : i < count cut
  pub early : clock_at kind cut i < until
  pub ahead : Ahead kind cut i

pub turned : {C : Type 0} (kind : NodeKind C) → IsLawful kind → (until : ℕ) (cut : Cut C) (i : ℕ)
    → IsTurn kind until cut i → Advanced kind cut i
turned kind law until cut i t = advance kind law cut i t.player t.ahead t.sound

module _ {C : Type 0} (kind : NodeKind C) (law : IsLawful kind) (until : ℕ) (holds : Cut C → Type 0)
    (keeps : (d : Cut C) (i : ℕ) → IsTurn kind until d i → holds d → holds (step_of kind d i)) where
  turns-hold : (ps : List ℕ) (cut : Cut C) → Leads kind until cut ps → IsCable cut → IsSound kind cut → holds cut
      → holds (after_turns kind cut ps)
  turns-hold [] cut leads cable sound here = subst holds (sym (after_none kind cut)) here
  turns-hold (p ∷ ps) cut leads cable sound here =
      let t : IsTurn kind until cut p =
      record { cable = cable; sound = sound; player = leads.0; early = leads.1; ahead = leads.2 } in
      let a = turned kind law until cut p t in
      subst holds (sym (after_one kind cut p ps))
      (turns-hold ps (step_of kind cut p) leads.3 (cable_same _ cut a.count_is a.delays_are cable) a.sound
      (keeps cut p t here))

  pub runs-hold : (cut : Cut C) → IsCable cut → IsSound kind cut → holds cut → holds (run kind cut until)
  runs-hold cut cable sound here =
      turns-hold (trace kind cut until) cut (trace_leads kind law cut until cable.some_console cable.some_delay sound)
      cable sound here
