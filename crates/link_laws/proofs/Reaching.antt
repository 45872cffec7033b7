-- Some interleaving reaches consoles that have each made some of their steps.
use Rattle.std.specs.Prelude.{true, false, List, [], ◌∷◌, ◌++◌, min, nat_lt, ◌==◌, ◌&&◌, if◌then◌else◌}
use Rattle.std.proofs.Common.{ℕ, zero, suc, ◌≡◌, ◌≢◌, ◌+◌, ◌-◌, ◌<◌, ◌≤◌, inl, inr, arith, refl, sym, ap, ◌∙◌}
use Rattle.std.proofs.Common.{subst, append_assoc}
use Rattle.std.proofs.lemmas.Bool.Decides.{nat_tests}
use Rattle.std.proofs.lemmas.List.{append-nil}
use Rattle.std.proofs.lemmas.Bool.{cases_Bool, cases_lt, ltb-true, ltb-false}
use Rattle.link_order.specs.NodeKind.{NodeKind, IsLawful}
use Rattle.link_order.specs.Cut.{Cut, hop, count, clock_at, was_at, IsSound, IsCable}
use Rattle.link_order.specs.GlobalOrder.{step_of, trace, after_turns}
use Rattle.link_order.specs.Interleaving.{Watched, first_watch, Action, Look, Step, update, happens, MayStepHere}
use Rattle.link_order.specs.Interleaving.{IsInterleaving, after_actions, moment, count_of}
use Rattle.link_order.proofs.Numbers.{same_or_apart, put, put_same, put_other}
use Rattle.link_order.proofs.Hops.{hop_same}
use Rattle.link_order.proofs.Runs.{after_none, after_one}
use Rattle.link_laws.specs.Law.{IsReachable, Reaches, IsReachableCut, ReachesCut}
use Rattle.link_laws.proofs.Advance.{advance, number_same}
use Rattle.link_laws.proofs.History.{count_own, count_other, moment_first, moment_own, moment_other, Leads, trace_leads}
use Rattle.link_laws.proofs.History.{Same, same_is, same_trans, same_sym, moment_none, On, on_step}
use Rattle.link_laws.proofs.Going.{same_lists}
use Rattle.link_laws.proofs.Watching.{looked, Watching, watching_opened, watching_happens, may_ahead, may_due}
use Rattle.link_laws.proofs.Equality.{on_made, on_opened, watching_played}

-- console i looks at each player below n
abbrev looks : ℕ → ℕ → List Action
looks i zero = []
looks i (suc j) = Look i j ∷ looks i j

-- the steps of the trace in order, without those past the k-th of each player, each after looks at all players
abbrev planned : ℕ → ℕ → ℕ → ℕ → List Action → List Action
planned n p done most rest = if nat_lt done most then looks p n ++ Step p ∷ rest else rest

abbrev plan : ℕ → (ℕ → ℕ) → List ℕ → List ℕ → List Action
plan n k qs [] = []
plan n k qs (p ∷ ps) = planned n p (count_of p qs) (k p) (plan n k (qs ++ p ∷ []) ps)

after_actions-append : {C : Type 0} (kind : NodeKind C) (xs ys : List Action) (w : Watched C)
    → after_actions kind (xs ++ ys) w ≡ after_actions kind ys (after_actions kind xs w)
after_actions-append kind [] ys w = refl
after_actions-append kind (x ∷ xs) ys w = after_actions-append kind xs ys (happens kind x w)

allowed-append : {C : Type 0} (kind : NodeKind C) (until : ℕ) (xs ys : List Action) (w : Watched C)
    → IsInterleaving kind until xs w
    → IsInterleaving kind until ys (after_actions kind xs w) → IsInterleaving kind until (xs ++ ys) w
allowed-append kind until [] ys w h k = k
allowed-append kind until (x ∷ xs) ys w h k = (h.0, allowed-append kind until xs ys (happens kind x w) h.1 k)

looks_allowed : {C : Type 0} (kind : NodeKind C) (until i n : ℕ) (w : Watched C)
    → IsInterleaving kind until (looks i n) w
looks_allowed kind until i zero w = tt
looks_allowed kind until i (suc j) w = (tt, looks_allowed kind until i j (happens kind (Look i j) w))

looks_cut : {C : Type 0} (kind : NodeKind C) (i n : ℕ) (w : Watched C) → (after_actions kind (looks i n) w).cut ≡ w.cut
looks_cut kind i zero w = refl
looks_cut kind i (suc j) w = looks_cut kind i j (happens kind (Look i j) w)

unlooked : {A : Type 0} (i j k : ℕ) (y : A) (f : ℕ → ℕ → A) → k ≢ j → update i j y f i k ≡ f i k
unlooked i j k y f apart = let t : ((i == i) && (k == j)) ≡ false = grind (arith, nat_tests) in
    ap (λ c. if c then y else f i k) t

looks_past : {C : Type 0} (kind : NodeKind C) (i n j : ℕ) (w : Watched C) → n ≤ j
    → (after_actions kind (looks i n) w).seen i j ≡ w.seen i j
looks_past kind i zero j w past = refl
looks_past kind i (suc n) j w past =
    looks_past kind i n j (happens kind (Look i n) w) (omega arith)
    ∙ unlooked i n j (clock_at kind w.cut n) w.seen (omega arith)

looks_seen : {C : Type 0} (kind : NodeKind C) (i n j : ℕ) (w : Watched C) → j < n
    → (after_actions kind (looks i n) w).seen i j ≡ clock_at kind w.cut j
looks_seen kind i zero j w below = absurd (omega arith)
looks_seen kind i (suc n) j w below =
    elim (same_or_apart j n) [
      | inl e ↦
          looks_past kind i n j (happens kind (Look i n) w) (omega arith)
          ∙ subst (λ (m : ℕ). update i n (clock_at kind w.cut n) w.seen i m
          ≡ clock_at kind w.cut m) (sym e) (looked i n (clock_at kind w.cut n) w.seen)
      | inr e ↦ looks_seen kind i n j (happens kind (Look i n) w) (omega arith)
    ]

-- a moment after the first steps of a list is one of the rest
pub moment_prefix : {C : Type 0} (kind : NodeKind C) (qs ps : List ℕ) (cut : Cut C) (i k m : ℕ) → m ≡ count_of i qs + k
    → moment kind cut (qs ++ ps) i m ≡ moment kind (after_turns kind cut qs) ps i k
moment_prefix {C = C} kind [] ps cut i k m is =
    let same : m ≡ k = omega arith in
    ap (moment kind cut ps i) same ∙ ap (λ (d : Cut C). moment kind d ps i k) (sym (after_none kind cut))
moment_prefix {C = C} kind (q ∷ qs) ps cut i k zero is =
    elim (same_or_apart q i) [
      | inl e ↦ let c = count_own i q qs e in absurd (omega arith)
      | inr e ↦
          let c = count_other i q qs e in
          moment_other kind cut q (qs ++ ps) i zero e
          ∙ moment_prefix kind qs ps (step_of kind cut q) i k zero (omega arith)
          ∙ ap (λ (d : Cut C). moment kind d ps i k) (sym (after_one kind cut q qs))
    ]
moment_prefix {C = C} kind (q ∷ qs) ps cut i k (suc m) is =
    elim (same_or_apart q i) [
      | inl e ↦
          let c = count_own i q qs e in
          moment_own kind cut q (qs ++ ps) i m e ∙ moment_prefix kind qs ps (step_of kind cut q) i k m (omega arith)
          ∙ ap (λ (d : Cut C). moment kind d ps i k) (sym (after_one kind cut q qs))
      | inr e ↦
          let c = count_other i q qs e in
          moment_other kind cut q (qs ++ ps) i (suc m) e
          ∙ moment_prefix kind qs ps (step_of kind cut q) i k (suc m) (omega arith)
          ∙ ap (λ (d : Cut C). moment kind d ps i k) (sym (after_one kind cut q qs))
    ]

after_turns-push : {C : Type 0} (kind : NodeKind C) (qs : List ℕ) (p : ℕ) (cut : Cut C)
    → after_turns kind cut (qs ++ p ∷ []) ≡ step_of kind (after_turns kind cut qs) p
after_turns-push {C = C} kind [] p cut =
    after_one kind cut p [] ∙ after_none kind (step_of kind cut p)
    ∙ ap (λ (d : Cut C). step_of kind d p) (sym (after_none kind cut))
after_turns-push {C = C} kind (q ∷ qs) p cut =
    after_one kind cut q (qs ++ p ∷ []) ∙ after_turns-push kind qs p (step_of kind cut q)
    ∙ ap (λ (d : Cut C). step_of kind d p) (sym (after_one kind cut q qs))

count_of-push_own : (i p : ℕ) (qs : List ℕ) → p ≡ i → count_of i (qs ++ p ∷ []) ≡ count_of i qs + 1
count_of-push_own i p [] e = count_own i p [] e
count_of-push_own i p (q ∷ qs) e =
    let ih = count_of-push_own i p qs e in
    elim (same_or_apart q i) [
      | inl f ↦ let a = count_own i q (qs ++ p ∷ []) f in let b = count_own i q qs f in omega arith
      | inr f ↦ let a = count_other i q (qs ++ p ∷ []) f in let b = count_other i q qs f in omega arith
    ]

count_of-push_other : (i p : ℕ) (qs : List ℕ) → p ≢ i → count_of i (qs ++ p ∷ []) ≡ count_of i qs
count_of-push_other i p [] e = count_other i p [] e
count_of-push_other i p (q ∷ qs) e =
    let ih = count_of-push_other i p qs e in
    elim (same_or_apart q i) [
      | inl f ↦ let a = count_own i q (qs ++ p ∷ []) f in let b = count_own i q qs f in omega arith
      | inr f ↦ let a = count_other i q (qs ++ p ∷ []) f in let b = count_other i q qs f in omega arith
    ]

was_same : {C : Type 0} (kind : NodeKind C) (d e : Cut C) (i : ℕ) → d ≡ e → was_at kind d i ≡ was_at kind e i
was_same {C = C} kind d e i h = ap (λ (f : Cut C). was_at kind f i) h

-- the start of the last step doesn't fall along a history
pub was_rises : {C : Type 0} (kind : NodeKind C) → IsLawful kind → (until : ℕ) (ps : List ℕ) (cut : Cut C) (i k : ℕ)
    → Leads kind until cut ps → IsSound kind cut
    → i < count cut → was_at kind cut i ≤ was_at kind (moment kind cut ps i k) i
was_rises kind law until [] cut i k leads sound below = omega arith
was_rises kind law until (p ∷ ps) cut i zero leads sound below =
    let a = advance kind law cut p leads.0 leads.2 sound in
    let up : i < count (step_of kind cut p) = subst (λ (n : ℕ). i < n) (sym a.count_is) below in
    elim (same_or_apart p i) [
      | inl e ↦ omega (arith, was_same kind _ _ i (moment_first kind cut p ps i e))
      | inr e ↦ omega (
        arith,
        was_same kind _ _ i (moment_other kind cut p ps i zero e),
        a.other_was i (λ t. e (sym t)),
        was_rises kind law until ps (step_of kind cut p) i zero leads.3 a.sound up,
      )
    ]
was_rises kind law until (p ∷ ps) cut i (suc k) leads sound below =
    let a = advance kind law cut p leads.0 leads.2 sound in
    let up : i < count (step_of kind cut p) = subst (λ (n : ℕ). i < n) (sym a.count_is) below in
    elim (same_or_apart p i) [
      | inl e ↦
          let f = ap (was_at kind (step_of kind cut p)) e in
          let g = ap (clock_at kind cut) e in
          omega (
            arith,
            was_same kind _ _ i (moment_own kind cut p ps i k e),
            a.own_was,
            f,
            g,
            sound.begun i below,
            was_rises kind law until ps (step_of kind cut p) i k leads.3 a.sound up,
          )
      | inr e ↦ omega (
        arith,
        was_same kind _ _ i (moment_other kind cut p ps i (suc k) e),
        a.other_was i (λ t. e (sym t)),
        was_rises kind law until ps (step_of kind cut p) i (suc k) leads.3 a.sound up,
      )
    ]

-- where the plan stands: the trace has made the steps qs, and each console the same ones, up to its k
record Stands {C : Type 0} (kind : NodeKind C) (start : Cut C) (all qs ps : List ℕ)
    (k : ℕ → ℕ) (w : Watched C) : Type 0 where
  all_is : all ≡ qs ++ ps
  watch : Watching kind start w
  on : On kind start all w.cut (λ i. min (k i) (count_of i qs))

planned_goes : (n p done most : ℕ) (rest : List Action) → nat_lt done most ≡ true
    → planned n p done most rest ≡ looks p n ++ Step p ∷ rest
planned_goes n p done most rest e = ap (λ b. if b then looks p n ++ Step p ∷ rest else rest) e

planned_stops : (n p done most : ℕ) (rest : List Action) → nat_lt done most ≡ false → planned n p done most rest ≡ rest
planned_stops n p done most rest e = ap (λ b. if b then looks p n ++ Step p ∷ rest else rest) e

pub clock_same : {C : Type 0} (kind : NodeKind C) (d e : Cut C) (i : ℕ) → Same d e i
    → clock_at kind d i ≡ clock_at kind e i
clock_same kind d e i s = number_same kind.clock d.consoles e.consoles i s.console

-- a console with steps left is where the trace is
follows : {C : Type 0} (kind : NodeKind C) → IsLawful kind
    → (until : ℕ) (start : Cut C) (all qs ps : List ℕ) (k : ℕ → ℕ) (w : Watched C) (j : ℕ)
    → Leads kind until (after_turns kind start qs) ps → IsSound kind (after_turns kind start qs)
    → Stands kind start all qs ps k w → j < count start → count_of j qs ≤ k j
    → Same w.cut (after_turns kind start qs) j
follows {C = C} kind law until start all qs ps k w j leads sound stands below more =
    let made : min (k j) (count_of j qs) ≡ count_of j qs + 0 = omega arith in
    let m : moment kind start all j (min (k j) (count_of j qs)) ≡ moment kind (after_turns kind start qs) ps j 0
    = ap (λ (l : List ℕ). moment kind start l j (min (k j) (count_of j qs))) stands.all_is
    ∙ moment_prefix kind qs ps start j 0 (min (k j) (count_of j qs)) made in
    same_trans w.cut (moment kind start all j (min (k j) (count_of j qs))) (after_turns kind start qs) j
    (stands.on.same j below)
    (same_trans _ (moment kind (after_turns kind start qs) ps j 0) (after_turns kind start qs) j (same_is _ _ j m)
    (moment_none kind law until ps (after_turns kind start qs) j leads sound))

-- a console with no steps left is where it is to end
stopped : {C : Type 0} (kind : NodeKind C) (start : Cut C) (all qs ps : List ℕ) (k : ℕ → ℕ) (w : Watched C) (j : ℕ)
    → Stands kind start all qs ps k w → j < count start → k j < count_of j qs
    → Same w.cut (moment kind start all j (k j)) j
stopped kind start all qs ps k w j stands below less =
    let made : min (k j) (count_of j qs) ≡ k j = omega arith in
    subst (λ (n : ℕ). Same w.cut (moment kind start all j n) j) made (stands.on.same j below)

-- no console's last step began where a peer's present clock could still have been heard
abbrev AllHear : {C : Type 0} → NodeKind C → Cut C → List ℕ → (ℕ → ℕ) → Type 0
AllHear kind start all k =
    (i j : ℕ) → i < count start → j < count start → i ≢ j → 0 < k i
    → was_at kind (moment kind start all i (k i)) i < clock_at kind (moment kind start all j (k j)) j + hop start j i

-- the plan's step is allowed once its console has looked at all others
plan_may : {C : Type 0} (kind : NodeKind C) → IsLawful kind
    → (until : ℕ) (start : Cut C) (all qs : List ℕ) (p : ℕ) (ps : List ℕ) (k : ℕ → ℕ) (w : Watched C)
    → Leads kind until (after_turns kind start qs) (p ∷ ps) → IsSound kind (after_turns kind start qs)
    → count (after_turns kind start qs) ≡ count start → (after_turns kind start qs).delays ≡ start.delays
    → Stands kind start all qs (p ∷ ps) k w
    → AllHear kind start all k
    → count_of p qs < k p → MayStepHere kind until (after_actions kind (looks p (count start)) w) p
plan_may {C = C} kind law until start all qs p ps k w leads sound counts delays stands heard more =
    let c : Cut C = after_turns kind start qs in
    let v : Watched C = after_actions kind (looks p (count start)) w in
    let cut_is : v.cut ≡ w.cut = looks_cut kind p (count start) w in
    let below : p < count start = subst (λ (n : ℕ). p < n) counts leads.0 in
    let own = clock_same kind w.cut c p
    (follows kind law until start all qs (p ∷ ps) k w p leads sound stands below (omega arith)) in
    let own_v : clock_at kind v.cut p ≡ clock_at kind c p = ap (λ (e : Cut C). clock_at kind e p) cut_is ∙ own in
    let count_v : count v.cut ≡ count start = ap count cut_is ∙ stands.watch.count_is in
    record {
      player = subst (λ (n : ℕ). p < n) (sym count_v) below;
      early = omega (arith, own_v, leads.1);
      ahead = λ j less apart.
          let less_j : j < count start = subst (λ (n : ℕ). j < n) count_v less in
          let seen : v.seen p j ≡ clock_at kind w.cut j = looks_seen kind p (count start) j w less_j in
          let h : hop v.cut j p ≡ hop start j p
          = ap (λ (e : Cut C). hop e j p) cut_is
          ∙ ap (λ (f : ℕ → ℕ → ℕ). f j p) (hop_same w.cut start stands.watch.delays_are) in
          let g : hop c j p ≡ hop start j p = ap (λ (f : ℕ → ℕ → ℕ). f j p) (hop_same c start delays) in
          elim (cases_lt (k j) (count_of j qs)) [
            | inl over ↦
                let there = clock_same kind w.cut (moment kind start all j (k j)) j
                (stopped kind start all qs (p ∷ ps) k w j stands less_j over) in
                let far = heard p j below less_j (λ t. apart (sym t)) (omega arith) in
                let steps : (m : ℕ) × (k p ≡ count_of p qs + suc m) = some_more (count_of p qs) (k p) more in
                let a = advance kind law c p leads.0 leads.2 sound in
                let at_d : moment kind start all p (k p) ≡ moment kind (step_of kind c p) ps p steps.0
                = ap (λ (l : List ℕ). moment kind start l p (k p)) stands.all_is
                ∙ moment_prefix kind qs (p ∷ ps) start p (suc steps.0) (k p) steps.1
                ∙ moment_own kind c p ps p steps.0 refl in
                let rises = was_rises kind law until ps (step_of kind c p) p steps.0 leads.3 a.sound
                (subst (λ (n : ℕ). p < n) (sym a.count_is) leads.0) in
                let was_d : was_at kind (moment kind start all p (k p)) p
                ≡ was_at kind (moment kind (step_of kind c p) ps p steps.0) p
                = ap (λ (e : Cut C). was_at kind e p) at_d in
                omega (arith, own_v, seen, there, far, rises, was_d, a.own_was, h)
            | inr along ↦
                let there = clock_same kind w.cut c j
                (follows kind law until start all qs (p ∷ ps) k w j leads sound stands less_j along) in
                let far = leads.2 j (subst (λ (n : ℕ). j < n) (sym counts) less_j) apart in
                omega (arith, own_v, seen, there, far, h, g)
          ];
    }
  where
    some_more : (a b : ℕ) → a < b → (m : ℕ) × (b ≡ a + suc m)
    some_more a b less = (b - a - 1, omega arith)

-- what the plan reaches
record Planned {C : Type 0} (kind : NodeKind C) (until : ℕ) (start : Cut C) (all : List ℕ)
    (k : ℕ → ℕ) (actions : List Action) (w : Watched C) : Type 0 where
  allowed : IsInterleaving kind until actions w
  on : On kind start all (after_actions kind actions w).cut (λ i. min (k i) (count_of i all))

plan_goes : {C : Type 0} (kind : NodeKind C) → IsLawful kind
    → (until : ℕ) (start : Cut C) (all qs ps : List ℕ) (k : ℕ → ℕ) (w : Watched C)
    → Leads kind until start all → IsSound kind start
    → Leads kind until (after_turns kind start qs) ps → IsSound kind (after_turns kind start qs)
    → count (after_turns kind start qs) ≡ count start → (after_turns kind start qs).delays ≡ start.delays
    → Stands kind start all qs ps k w
    → AllHear kind start all k
    → Planned kind until start all k (plan (count start) k qs ps) w
plan_goes {C = C} kind law until start all qs [] k w whole begin leads sound counts delays stands heard =
    let same : all ≡ qs = stands.all_is ∙ append-nil qs in
    record {
      allowed = tt;
      on = on_made kind start all w.cut (λ i. min (k i) (count_of i qs)) (λ i. min (k i) (count_of i all))
          (λ i. ap (λ (l : List ℕ). min (k i) (count_of i l)) (sym same)) stands.on;
    }
plan_goes {C = C} kind law until start all qs (p ∷ ps) k w whole begin leads sound counts delays stands heard =
    let c : Cut C = after_turns kind start qs in
    let a = advance kind law c p leads.0 leads.2 sound in
    let rs : List ℕ = qs ++ p ∷ [] in
    let n : ℕ = count start in
    let push : after_turns kind start rs ≡ step_of kind c p = after_turns-push kind qs p start in
    let leads' : Leads kind until (after_turns kind start rs) ps =
    subst (λ (e : Cut C). Leads kind until e ps) (sym push) leads.3 in
    let sound' : IsSound kind (after_turns kind start rs) = subst (IsSound kind) (sym push) a.sound in
    let counts' : count (after_turns kind start rs) ≡ count start = ap count push ∙ a.count_is ∙ counts in
    let delays' : (after_turns kind start rs).delays ≡ start.delays =
    ap (λ (e : Cut C). e.delays) push ∙ a.delays_are ∙ delays in
    let all' : all ≡ rs ++ ps = stands.all_is ∙ sym (append_assoc qs (p ∷ []) ps) in
    let below : p < count start = subst (λ (m : ℕ). p < m) counts leads.0 in
    let own = count_of-push_own p p qs refl in
    elim (cases_Bool (nat_lt (count_of p qs) (k p))) [
      | inl e ↦
          let more : count_of p qs < k p = ltb-true (count_of p qs) (k p) e in
          let v : Watched C = after_actions kind (looks p n) w in
          let cut_is : v.cut ≡ w.cut = looks_cut kind p n w in
          let watch : Watching kind start v =
          watching_played kind law start until (looks p n) w stands.watch (looks_allowed kind until p n w) in
          let may : MayStepHere kind until v p =
          plan_may kind law until start all qs p ps k w leads sound counts delays stands heard more in
          let made : ℕ → ℕ = λ i. min (k i) (count_of i qs) in
          let on_v : On kind start all v.cut made =
          subst (λ (f : Cut C). On kind start all f made) (sym cut_is) stands.on in
          let next = on_step kind law until start all v.cut made p whole begin on_v below may.early
          (may_ahead kind start until v p watch may) in
          let z : Watched C = happens kind (Step p) v in
          let on_z : On kind start all z.cut (put p (suc (made p)) made)
          = subst (λ (f : Cut C). On kind start all f (put p (suc (made p)) made))
          (sym (may_due kind start until v p watch may)) next in
          let stands' : Stands kind start all rs ps k z = record {
            all_is = all';
            watch = watching_happens kind law start until (Step p) v watch may;
            on = on_made kind start all z.cut (put p (suc (made p)) made) (λ i. min (k i) (count_of i rs))
                (λ i. elim (same_or_apart i p) [
                  | inl t ↦
                      let f : put p (suc (made p)) made i ≡ suc (made p) = ap (put p (suc (made p)) made) t
                      ∙ put_same p (suc (made p)) made in
                      let g : min (k i) (count_of i rs) ≡ min (k p) (count_of p rs) =
                      ap (λ (m : ℕ). min (k m) (count_of m rs)) t in
                      omega (arith, f, g, own, more)
                  | inr t ↦ omega (
                    arith,
                    put_other p i (suc (made p)) made t,
                    count_of-push_other i p qs
                        (λ u. t (sym u)),
                  )
                ]) on_z;
          } in
          let ih = plan_goes kind law until start all rs ps k z whole begin leads' sound' counts' delays' stands'
          heard in
          let rest : List Action = plan n k rs ps in
          let acts : plan n k qs (p ∷ ps) ≡ looks p n ++ Step p ∷ rest =
          planned_goes n p (count_of p qs) (k p) rest e in
          let reached : after_actions kind (looks p n ++ Step p ∷ rest) w ≡ after_actions kind rest z =
          after_actions-append kind (looks p n) (Step p ∷ rest) w in
          subst (λ (t : List Action). Planned kind until start all k t w) (sym acts) (record {
            allowed = allowed-append kind until (looks p n) (Step p ∷ rest) w (looks_allowed kind until p n w)
                (may, ih.allowed);
            on = subst (λ (t : Watched C). On kind start all t.cut (λ i. min (k i) (count_of i all))) (sym reached)
                ih.on;
          })
      | inr e ↦
          let past : k p ≤ count_of p qs = ltb-false (count_of p qs) (k p) e in
          let stands' : Stands kind start all rs ps k w = record {
            all_is = all';
            watch = stands.watch;
            on = on_made kind start all w.cut (λ i. min (k i) (count_of i qs)) (λ i. min (k i) (count_of i rs))
                (λ i. elim (same_or_apart i p) [
                  | inl t ↦
                      let f : min (k i) (count_of i rs) ≡ min (k p) (count_of p rs) =
                      ap (λ (m : ℕ). min (k m) (count_of m rs)) t in
                      let g : min (k i) (count_of i qs) ≡ min (k p) (count_of p qs) =
                      ap (λ (m : ℕ). min (k m) (count_of m qs)) t in
                      omega (arith, f, g, own, past)
                  | inr t ↦ ap (min (k i)) (sym (count_of-push_other i p qs (λ u. t (sym u))))
                ]) stands.on;
          } in
          let ih = plan_goes kind law until start all rs ps k w whole begin leads' sound' counts' delays' stands'
          heard in
          subst (λ (t : List Action). Planned kind until start all k t w)
          (sym (planned_stops n p (count_of p qs) (k p) (plan n k rs ps) e)) ih
    ]

-- consoles that are no further than a peer can tell them are reached
pub reaches_counts : {C : Type 0} (kind : NodeKind C) → IsLawful kind → (cut : Cut C) (until : ℕ) (k : ℕ → ℕ)
    → IsCable cut → IsSound kind cut → IsReachable kind cut until k → Reaches kind cut until k
reaches_counts {C = C} kind law cut until k cable sound wanted =
    let all : List ℕ = trace kind cut until in
    let leads = trace_leads kind law cut until cable.some_console cable.some_delay sound in
    let none : after_turns kind cut [] ≡ cut = after_none kind cut in
    let acts : List Action = plan (count cut) k [] all in
    let stands : Stands kind cut all [] all k (first_watch kind cut) = record {
      all_is = refl;
      watch = watching_opened kind cut sound;
      on = on_made kind cut all cut (λ _. 0) (λ i. min (k i) 0) (λ i. omega arith)
          (on_opened kind law until cut all leads sound);
    } in
    let planned = plan_goes kind law until cut all [] all k (first_watch kind cut) leads sound
    (subst (λ (e : Cut C). Leads kind until e all) (sym none) leads) (subst (IsSound kind) (sym none) sound)
    (ap count none) (ap (λ (e : Cut C). e.delays) none) stands wanted.heard in
    record {
      actions = acts;
      allowed = planned.allowed;
      each = λ i below.
          let most = wanted.within i below in
          let made : min (k i) (count_of i all) ≡ k i = omega arith in
          let s =
          subst (λ (n : ℕ). Same (after_actions kind acts (first_watch kind cut)).cut (moment kind cut all i n) i) made
          (planned.on.same i below) in
          record { within = most; console = s.console; signals = s.signals };
    }

-- the same of a cut with these consoles
pub reaches_cut : {C : Type 0} (kind : NodeKind C) → IsLawful kind → (cut d : Cut C) (until : ℕ) (k : ℕ → ℕ)
    → IsCable cut → IsSound kind cut → IsReachableCut kind cut until d k → ReachesCut kind cut until d
reaches_cut {C = C} kind law cut d until k cable sound wanted =
    let all : List ℕ = trace kind cut until in
    let is : (i : ℕ) → i < count cut → Same d (moment kind cut all i (k i)) i
    = λ i below. record { console = (wanted.each i below).console; signals = (wanted.each i below).signals } in
    let found = reaches_counts kind law cut until k cable sound (record {
      within = λ i below. (wanted.each i below).within;
      heard = λ i j li lj apart some.
          let was_is : was_at kind d i ≡ was_at kind (moment kind cut all i (k i)) i =
          number_same kind.was d.consoles (moment kind cut all i (k i)).consoles i (is i li).console in
          let clock_is = clock_same kind d (moment kind cut all j (k j)) j (is j lj) in
          omega (arith, was_is, clock_is, wanted.heard i j li lj apart some);
    }) in
    let w : Watched C = after_actions kind found.actions (first_watch kind cut) in
    let watch = watching_played kind law cut until found.actions (first_watch kind cut) (watching_opened kind cut sound)
    found.allowed in
    let same : (i : ℕ) → i < count cut → Same w.cut d i
    = λ i below.
    let e = found.each i below in
    same_trans w.cut (moment kind cut all i (k i)) d i (record { console = e.console; signals = e.signals })
    (same_sym d _ i (is i below)) in
    record {
      actions = found.actions;
      allowed = found.allowed;
      consoles = same_lists w.cut.consoles d.consoles (watch.count_is ∙ sym wanted.count_is)
          (λ i below. (same i (subst (λ (n : ℕ). i < n) watch.count_is below)).console);
      signals = λ i below. (same i below).signals;
    }
