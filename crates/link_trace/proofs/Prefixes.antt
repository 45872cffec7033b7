-- A trace to an earlier end is the first part of a trace to a later one.
use Rattle.std.specs.Prelude.{true, List, [], ◌∷◌, ◌++◌, nat_lt}
use Rattle.std.proofs.Common.{ℕ, zero, suc, ◌≡◌, ◌-◌, ◌<◌, ◌≤◌, inl, inr, arith, sym, ap, ◌∙◌, subst}
use Rattle.std.proofs.lemmas.Bool.{cases_Bool, cases_lt, ltb-true, lt-ltb}
use Rattle.link_order.specs.NodeKind.{NodeKind, IsLawful}
use Rattle.link_order.specs.Cut.{Cut, count, clock_at, IsSound, IsCable}
use Rattle.link_order.specs.GlobalOrder.{least, step, step_of, trace, trace_of, after_turns, run}
use Rattle.link_order.specs.Interleaving.{moment, count_of}
use Rattle.link_order.proofs.Numbers.{same_or_apart}
use Rattle.link_order.proofs.Hops.{cable_same}
use Rattle.link_order.proofs.Runs.{falls, trace_zero, trace_ends, trace_goes, trace_unrolls, after_none, after_one}
use Rattle.link_laws.proofs.Advance.{advance, number_same}
use Rattle.link_laws.proofs.History.{count_own, count_other, moment_first, moment_own, moment_other, Leads, trace_leads}
use Rattle.link_laws.proofs.History.{Same, same_is, same_trans, moment_none, moment_all, history_ends}
use Rattle.link_laws.proofs.Reaching.{moment_prefix}
use Rattle.link_trace.specs.Law.{IsPrefix}

trace_parts : {C : Type 0} (kind : NodeKind C) → IsLawful kind → (most : ℕ) (cut : Cut C) (first until : ℕ)
    → 0 < count cut → first ≤ until
    → trace kind cut until
    ≡ trace_of kind most cut first ++ trace kind (after_turns kind cut (trace_of kind most cut first)) until
trace_parts {C = C} kind law zero cut first until some le =
    ap (λ (d : Cut C). trace kind d until) (sym (after_none kind cut))
    ∙ ap (λ (l : List ℕ). l ++ trace kind (after_turns kind cut l) until) (sym (trace_zero kind cut first))
trace_parts {C = C} kind law (suc most) cut first until some le =
    elim (cases_Bool (nat_lt (clock_at kind cut (least kind cut)) first)) [
      | inl e ↦
          let f = falls kind law cut first some e in
          let some' : 0 < count (step kind cut) = subst (λ (n : ℕ). 0 < n) (sym f.count_is) some in
          let early : clock_at kind cut (least kind cut) < first = ltb-true _ first e in
          let goes : nat_lt (clock_at kind cut (least kind cut)) until ≡ true = lt-ltb _ until (omega arith) in
          let part : List ℕ = trace_of kind most (step kind cut) first in
          trace_unrolls kind law cut until some goes
          ∙ ap (λ (l : List ℕ). least kind cut ∷ l) (trace_parts kind law most (step kind cut) first until some' le)
          ∙ ap (λ (d : Cut C). least kind cut ∷ (part ++ trace kind d until))
          (sym (after_one kind cut (least kind cut) part))
          ∙ ap (λ (l : List ℕ). l ++ trace kind (after_turns kind cut l) until) (sym (trace_goes kind most cut first e))
      | inr e ↦
          ap (λ (d : Cut C). trace kind d until) (sym (after_none kind cut))
          ∙ ap (λ (l : List ℕ). l ++ trace kind (after_turns kind cut l) until)
          (sym (trace_ends kind (suc most) cut first e))
    ]

-- moments before the last step of the first part
moment_front : {C : Type 0} (kind : NodeKind C) (qs ps : List ℕ) (cut : Cut C) (i k : ℕ) → k < count_of i qs
    → moment kind cut (qs ++ ps) i k ≡ moment kind cut qs i k
moment_front kind [] ps cut i k below = absurd (omega arith)
moment_front kind (q ∷ qs) ps cut i zero below =
    elim (same_or_apart q i) [
      | inl e ↦ moment_first kind cut q (qs ++ ps) i e ∙ sym (moment_first kind cut q qs i e)
      | inr e ↦
          let c = count_other i q qs e in
          moment_other kind cut q (qs ++ ps) i zero e
          ∙ moment_front kind qs ps (step_of kind cut q) i zero (omega arith)
          ∙ sym (moment_other kind cut q qs i zero e)
    ]
moment_front kind (q ∷ qs) ps cut i (suc k) below =
    elim (same_or_apart q i) [
      | inl e ↦
          let c = count_own i q qs e in
          moment_own kind cut q (qs ++ ps) i k e
          ∙ moment_front kind qs ps (step_of kind cut q) i k (omega arith) ∙ sym (moment_own kind cut q qs i k e)
      | inr e ↦
          let c = count_other i q qs e in
          moment_other kind cut q (qs ++ ps) i (suc k) e
          ∙ moment_front kind qs ps (step_of kind cut q) i (suc k) (omega arith)
          ∙ sym (moment_other kind cut q qs i (suc k) e)
    ]

-- a console's clock doesn't fall along its way
pub clock_rises : {C : Type 0} (kind : NodeKind C) → IsLawful kind → (until : ℕ) (ps : List ℕ) (cut : Cut C) (i k : ℕ)
    → Leads kind until cut ps → IsSound kind cut → clock_at kind cut i ≤ clock_at kind (moment kind cut ps i k) i
clock_rises kind law until [] cut i k leads sound = omega arith
clock_rises kind law until (p ∷ ps) cut i zero leads sound =
    let s = moment_none kind law until (p ∷ ps) cut i leads sound in
    omega (arith, number_same kind.clock (moment kind cut (p ∷ ps) i zero).consoles cut.consoles i s.console)
clock_rises {C = C} kind law until (p ∷ ps) cut i (suc k) leads sound =
    let a = advance kind law cut p leads.0 leads.2 sound in
    elim (same_or_apart p i) [
      | inl e ↦
          let f = ap (λ (d : Cut C). clock_at kind d i) (moment_own kind cut p ps i k e) in
          let c = ap (clock_at kind cut) e in
          let d = ap (clock_at kind (step_of kind cut p)) e in
          omega (arith, f, c, d, a.own_clock, clock_rises kind law until ps (step_of kind cut p) i k leads.3 a.sound)
      | inr e ↦
          let f = ap (λ (d : Cut C). clock_at kind d i) (moment_other kind cut p ps i (suc k) e) in
          omega (
            arith,
            f,
            a.other_clock i (λ t. e (sym t)),
            clock_rises kind law until ps (step_of kind cut p) i (suc k) leads.3 a.sound,
          )
    ]

pub prefixes : {C : Type 0} (kind : NodeKind C) → IsLawful kind → (cut : Cut C) (first until : ℕ) → first ≤ until
    → IsCable cut → IsSound kind cut → IsPrefix kind cut first until
prefixes {C = C} kind law cut first until le cable sound =
    let qs : List ℕ = trace kind cut first in
    let e : Cut C = run kind cut first in
    let ps : List ℕ = trace kind e until in
    let all : trace kind cut until ≡ qs ++ ps = trace_parts kind law _ cut first until cable.some_console le in
    let ends = history_ends kind law first qs cut
    (trace_leads kind law cut first cable.some_console cable.some_delay sound) sound in
    let there = cable_same e cut ends.count_is ends.delays_are cable in
    let leads = trace_leads kind law e until there.some_console there.some_delay ends.sound in
    let same : (i k : ℕ) → k ≤ count_of i qs
    → Same (moment kind cut (trace kind cut until) i k) (moment kind cut qs i k) i
    = λ i k within.
    let is = ap (λ (l : List ℕ). moment kind cut l i k) all in
    elim (cases_lt k (count_of i qs)) [
      | inl less ↦ same_is _ _ i (is ∙ moment_front kind qs ps cut i k less)
      | inr past ↦
          same_trans _ (moment kind e ps i 0) (moment kind cut qs i k) i
          (same_is _ _ i (is ∙ moment_prefix kind qs ps cut i 0 k (omega arith)))
          (same_trans _ e (moment kind cut qs i k) i (moment_none kind law until ps e i leads ends.sound)
          (same_is _ _ i (sym (moment_all kind qs cut i k past))))
    ] in
    record {
      rest = ps;
      trace_is = all;
      moments = λ i k less. ap (λ (l : List ℕ). moment kind cut l i k) all ∙ moment_front kind qs ps cut i k less;
      consoles = λ i k within. (same i k within).console;
      signals = λ i k within. (same i k within).signals;
      begun = λ i k below early. elim (cases_lt k (count_of i qs)) [
        | inl less ↦ less
        | inr past ↦
            let is = ap (λ (l : List ℕ). clock_at kind (moment kind cut l i k) i) all in
            let far = ap (λ (d : Cut C). clock_at kind d i)
            (moment_prefix kind qs ps cut i (k - count_of i qs) k (omega arith)) in
            let rises = clock_rises kind law until ps e i (k - count_of i qs) leads ends.sound in
            let late = ends.late i below in
            absurd (omega arith)
      ];
    }
