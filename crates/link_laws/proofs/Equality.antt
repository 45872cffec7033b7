-- Consoles that an interleaving reaches stand on the history of the global order.
use Rattle.std.specs.Prelude.{true, false, List, [], ◌∷◌, nat_lt, ◌==◌, if◌then◌else◌}
use Rattle.std.proofs.Common.{ℕ, suc, ◌≡◌, ◌≢◌, ◌+◌, ◌<◌, inl, inr, arith, refl, sym, ap, ◌∙◌, subst}
use Rattle.std.proofs.lemmas.Bool.Decides.{nat_tests}
use Rattle.std.proofs.lemmas.Bool.{le-ltb}
use Rattle.link_order.specs.NodeKind.{NodeKind, IsLawful}
use Rattle.link_order.specs.Cut.{Cut, hop, count, clock_at, was_at, IsSound, IsCable}
use Rattle.link_order.specs.GlobalOrder.{least, step_of, trace, run}
use Rattle.link_order.specs.Interleaving.{Watched, first_watch, Action, Look, Step, happens, MayStepHere, May}
use Rattle.link_order.specs.Interleaving.{IsInterleaving}
use Rattle.link_order.specs.Interleaving.{after_actions, steps_of, moment}
use Rattle.link_order.proofs.Numbers.{same_or_apart, put, put_same, put_other, least_is_player}
use Rattle.link_order.proofs.Hops.{hop_same, cable_same}
use Rattle.link_order.proofs.Runs.{run_ends}
use Rattle.link_laws.specs.Law.{IsEqual}
use Rattle.link_laws.proofs.Advance.{advance}
use Rattle.link_laws.proofs.History.{Leads, trace_leads, same_sym, On, on_step, moment_none}
use Rattle.link_laws.proofs.Going.{goes_on}
use Rattle.link_laws.proofs.Watching.{Watching, HearsInTime, watching_opened, watching_happens, may_ahead, may_due}
use Rattle.link_laws.proofs.Watching.{changed_cases}

pub on_made : {C : Type 0} (kind : NodeKind C) (cut : Cut C) (ps : List ℕ) (d : Cut C) (made other : ℕ → ℕ)
    → ((i : ℕ) → made i ≡ other i)
    → On kind cut ps d made → On kind cut ps d other
on_made kind cut ps d made other same on =
    let all : made ≡ other = λ t i. (same i) t in
    subst (On kind cut ps d) all on

steps_own : (i : ℕ) (rest : List Action) → steps_of i (Step i ∷ rest) ≡ 1 + steps_of i rest
steps_own i rest = let t : (i == i) ≡ true = grind (arith, nat_tests) in
    ap (λ b. if b then 1 + steps_of i rest else steps_of i rest) t

steps_other : (i a : ℕ) (rest : List Action) → a ≢ i → steps_of i (Step a ∷ rest) ≡ steps_of i rest
steps_other i a rest e = let t : (a == i) ≡ false = grind (arith, nat_tests) in
    ap (λ b. if b then 1 + steps_of i rest else steps_of i rest) t

-- along an interleaving every console keeps to its history
pub on_played : {C : Type 0} (kind : NodeKind C) → IsLawful kind
    → (until : ℕ) (cut : Cut C) (ps : List ℕ) (actions : List Action) (w : Watched C) (made : ℕ → ℕ)
    → Leads kind until cut ps → IsSound kind cut → Watching kind cut w → On kind cut ps w.cut made
    → IsInterleaving kind until actions w
    → On kind cut ps (after_actions kind actions w).cut (λ i. steps_of i actions + made i)
on_played kind law until cut ps [] w made leads sound watch on may =
    on_made kind cut ps w.cut made (λ i. steps_of i [] + made i) (λ i. omega arith) on
on_played kind law until cut ps (Look a b ∷ rest) w made leads sound watch on may =
    on_played kind law until cut ps rest (happens kind (Look a b) w) made leads sound
    (watching_happens kind law cut until (Look a b) w watch may.0) on may.1
on_played {C = C} kind law until cut ps (Step a ∷ rest) w made leads sound watch on may =
    let m : MayStepHere kind until w a = may.0 in
    let below : a < count cut = subst (λ (n : ℕ). a < n) watch.count_is m.player in
    let next = on_step kind law until cut ps w.cut made a leads sound on below m.early
    (may_ahead kind cut until w a watch m) in
    let here : On kind cut ps (happens kind (Step a) w).cut (put a (suc (made a)) made)
    = subst (λ (d : Cut C). On kind cut ps d (put a (suc (made a)) made)) (sym (may_due kind cut until w a watch m))
    next in
    let ih = on_played kind law until cut ps rest (happens kind (Step a) w) (put a (suc (made a)) made) leads sound
    (watching_happens kind law cut until (Step a) w watch may.0) here may.1 in
    on_made kind cut ps (after_actions kind rest (happens kind (Step a) w)).cut
    (λ i. steps_of i rest + put a (suc (made a)) made i) (λ i. steps_of i (Step a ∷ rest) + made i)
    (λ i. elim (same_or_apart i a) [
      | inl e ↦
          let p : put a (suc (made a)) made i ≡ suc (made a) = ap (put a (suc (made a)) made) e
          ∙ put_same a (suc (made a)) made in
          let q : steps_of i (Step a ∷ rest) ≡ 1 + steps_of i rest
          = subst (λ (k : ℕ). steps_of k (Step a ∷ rest) ≡ 1 + steps_of k rest) (sym e) (steps_own a rest) in
          let r : made i ≡ made a = ap made e in
          omega (arith, p, q, r)
      | inr e ↦
          let p = put_other a i (suc (made a)) made e in
          let q = steps_other i a rest (λ t. e (sym t)) in
          omega (arith, p, q)
    ]) ih

pub on_opened : {C : Type 0} (kind : NodeKind C) → IsLawful kind → (until : ℕ) (cut : Cut C) (ps : List ℕ)
    → Leads kind until cut ps → IsSound kind cut
    → On kind cut ps cut (λ _. 0)
on_opened kind law until cut ps leads sound = record {
  count_is = refl;
  delays_are = refl;
  sound = sound;
  within = λ i below. omega arith;
  same = λ i below. same_sym (moment kind cut ps i 0) cut i (moment_none kind law until ps cut i leads sound);
}

-- last steps that began in time stay so
pub hears_happens : {C : Type 0} (kind : NodeKind C) → IsLawful kind
    → (cut : Cut C) (until : ℕ) (act : Action) (w : Watched C)
    → Watching kind cut w → May kind until w act → HearsInTime kind w → HearsInTime kind (happens kind act w)
hears_happens kind law cut until (Look i j) w watch may hears = λ a b la lb apart.
    elim (changed_cases i j (clock_at kind w.cut j) w.seen a b) [
      | inl e ↦ let f = ap (clock_at kind w.cut) e.1 in
          omega (arith, e.2, f, hears a b la lb apart, watch.behind a b lb)
      | inr e ↦ omega (arith, e, hears a b la lb apart)
    ]
hears_happens {C = C} kind law cut until (Step i) w watch may hears =
    let s = advance kind law w.cut i may.player (may_ahead kind cut until w i watch may) watch.sound in
    let down : (k : ℕ) → k < count (step_of kind w.cut i) → k < count w.cut =
    λ k h. subst (λ (n : ℕ). k < n) s.count_is h in
    let next : HearsInTime kind (record { cut = step_of kind w.cut i; seen = w.seen; got = w.got })
    = λ a b la lb apart.
    let h : hop (step_of kind w.cut i) b a ≡ hop w.cut b a =
    ap (λ (f : ℕ → ℕ → ℕ). f b a) (hop_same (step_of kind w.cut i) w.cut s.delays_are) in
    elim (same_or_apart a i) [
      | inl e ↦
          let f = ap (was_at kind (step_of kind w.cut i)) e in
          let g : w.seen i b ≡ w.seen a b = ap (λ (n : ℕ). w.seen n b) (sym e) in
          let k : hop w.cut b i ≡ hop w.cut b a = ap (hop w.cut b) (sym e) in
          omega (arith, f, s.own_was, may.ahead b (down b lb) (λ t. apart (e ∙ sym t)), g, h, k)
      | inr e ↦ omega (arith, s.other_was a e, hears a b (down a la) (down b lb) apart, h)
    ] in
    subst (λ (d : Cut C). HearsInTime kind (record { cut = d; seen = w.seen; got = w.got }))
    (sym (may_due kind cut until w i watch may)) next

pub hears_played : {C : Type 0} (kind : NodeKind C) → IsLawful kind
    → (cut : Cut C) (until : ℕ) (actions : List Action) (w : Watched C)
    → Watching kind cut w → HearsInTime kind w → IsInterleaving kind until actions w
    → HearsInTime kind (after_actions kind actions w)
hears_played kind law cut until [] w watch hears may = hears
hears_played kind law cut until (act ∷ rest) w watch hears may =
    hears_played kind law cut until rest (happens kind act w) (watching_happens kind law cut until act w watch may.0)
    (hears_happens kind law cut until act w watch may.0 hears) may.1

pub watching_played : {C : Type 0} (kind : NodeKind C) → IsLawful kind
    → (cut : Cut C) (until : ℕ) (actions : List Action) (w : Watched C)
    → Watching kind cut w → IsInterleaving kind until actions w → Watching kind cut (after_actions kind actions w)
watching_played kind law cut until [] w watch may = watch
watching_played kind law cut until (act ∷ rest) w watch may =
    watching_played kind law cut until rest (happens kind act w) (watching_happens kind law cut until act w watch may.0)
    may.1

-- every interleaving equals the global order
pub equality : {C : Type 0} (kind : NodeKind C) → IsLawful kind → (cut : Cut C) (until : ℕ) (actions : List Action)
    → IsCable cut → IsSound kind cut
    → IsInterleaving kind until actions (first_watch kind cut)
    → IsEqual kind cut until actions (after_actions kind actions (first_watch kind cut)).cut
equality {C = C} kind law cut until actions cable sound may =
    let ps : List ℕ = trace kind cut until in
    let leads = trace_leads kind law cut until cable.some_console cable.some_delay sound in
    let start = watching_opened kind cut sound in
    let w : Watched C = after_actions kind actions (first_watch kind cut) in
    let watch = watching_played kind law cut until actions (first_watch kind cut) start may in
    let on = on_played kind law until cut ps actions (first_watch kind cut) (λ _. 0) leads sound start
    (on_opened kind law until cut ps leads sound) may in
    let exact = on_made kind cut ps w.cut (λ i. steps_of i actions + 0) (λ i. steps_of i actions) (λ i. omega arith)
    on in
    let same_end : run kind w.cut until ≡ run kind cut until
    = goes_on kind law until cut ps w.cut (λ i. steps_of i actions) leads sound cable.some_console cable.some_delay
    exact in
    record {
      each = λ i below. let s = exact.same i below in
          record { within = exact.within i below; console = s.console; signals = s.signals };
      goes_on = record {
        count_is = exact.count_is;
        delays_are = exact.delays_are;
        cable = cable_same w.cut cut exact.count_is exact.delays_are cable;
        sound = exact.sound;
        in_time = λ time a b la lb apart.
            let hears = hears_played kind law cut until actions (first_watch kind cut) start
            (λ i j li lj e. time i j li lj e) may in
            omega (arith, hears a b la lb apart, watch.behind a b lb);
        same_end = same_end;
        at_end = λ late.
            let some : 0 < count w.cut = subst (λ (n : ℕ). 0 < n) (sym exact.count_is) cable.some_console in
            let l = late (least kind w.cut) (least_is_player (clock_at kind w.cut) (count w.cut) some) in
            let over : nat_lt (clock_at kind w.cut (least kind w.cut)) until ≡ false =
            le-ltb (clock_at kind w.cut (least kind w.cut)) until l in
            sym (run_ends kind w.cut until over) ∙ same_end;
      };
    }
