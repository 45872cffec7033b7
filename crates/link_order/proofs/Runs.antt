-- The global order, made in parts.
use Rattle.std.specs.Prelude.{Bool, true, false, List, [], ◌∷◌, nat_lt}
use Rattle.std.proofs.Common.{ℕ, zero, suc, ◌≡◌, ◌<◌, ◌≤◌, inl, inr, arith, refl, sym, ap, ◌∙◌, subst}
use Rattle.std.proofs.lemmas.Bool.Decides.{nat_tests}
use Rattle.std.proofs.lemmas.Bool.{ltb-true, lt-ltb, cases_Bool}
use Rattle.link_order.specs.NodeKind.{NodeKind, IsLawful}
use Rattle.link_order.specs.Cut.{Cut, count, clock_at}
use Rattle.link_order.specs.GlobalOrder.{least, cycles_left_below, cycles_left, step, step_of, due_at, trace_of, trace, after_turns, run}
use Rattle.link_order.proofs.Numbers.{same_or_apart, least_is_player, left_falls}
use Rattle.link_order.proofs.Stepping.{console_at, is_stepped}

-- the test that the global order makes
abbrev goes_on : {C : Type 0} → NodeKind C → Cut C → ℕ → Bool
goes_on kind cut until = nat_lt (clock_at kind cut (least kind cut)) until

pub trace_goes : {C : Type 0} (kind : NodeKind C) (most : ℕ) (cut : Cut C) (until : ℕ)
    → nat_lt (clock_at kind cut (least kind cut)) until ≡ true
    → trace_of kind (suc most) cut until ≡ least kind cut ∷ trace_of kind most (step kind cut) until
unfolding trace_of
trace_goes kind most cut until e = rw e refl

pub trace_ends : {C : Type 0} (kind : NodeKind C) (most : ℕ) (cut : Cut C) (until : ℕ)
    → nat_lt (clock_at kind cut (least kind cut)) until ≡ false
    → trace_of kind most cut until ≡ []
unfolding trace_of
trace_ends kind zero cut until e = refl
trace_ends kind (suc most) cut until e = rw e refl

pub trace_zero : {C : Type 0} (kind : NodeKind C) (cut : Cut C) (until : ℕ) → trace_of kind 0 cut until ≡ []
unfolding trace_of
trace_zero kind cut until = refl

pub after_none : {C : Type 0} (kind : NodeKind C) (cut : Cut C) → after_turns kind cut [] ≡ cut
unfolding after_turns
after_none kind cut = refl

pub after_one : {C : Type 0} (kind : NodeKind C) (cut : Cut C) (i : ℕ) (rest : List ℕ)
    → after_turns kind cut (i ∷ rest) ≡ after_turns kind (step_of kind cut i) rest
unfolding after_turns
after_one kind cut i rest = refl

-- a step of the least console: the count stays, and fewer cycles are left
pub record Falls {C : Type 0} (kind : NodeKind C) (cut : Cut C) (until : ℕ) : Type 0 where
  pub count_is : count (step kind cut) ≡ count cut
  pub delays_are : (step kind cut).delays ≡ cut.delays
  pub fewer : cycles_left kind (step kind cut) until < cycles_left kind cut until

pub falls : {C : Type 0} (kind : NodeKind C) → IsLawful kind → (cut : Cut C) (until : ℕ) → 0 < count cut
    → nat_lt (clock_at kind cut (least kind cut)) until ≡ true → Falls kind cut until
falls kind law cut until some e =
    let i : ℕ = least kind cut in
    let below : i < count cut = least_is_player (clock_at kind cut) (count cut) some in
    let at = console_at kind cut i below in
    let s = is_stepped kind law cut i at.0 (due_at kind cut i) below at.1 in
    let early : clock_at kind cut i < until = ltb-true (clock_at kind cut i) until e in
    let later : clock_at kind cut i < kind.clock (kind.next at.0 (due_at kind cut i)).0
    = subst (λ (n : ℕ). n < kind.clock (kind.next at.0 (due_at kind cut i)).0) (sym at.1.clock_is)
    (law.rises at.0 (due_at kind cut i)) in
    let f = left_falls (clock_at kind cut) until i (kind.clock (kind.next at.0 (due_at kind cut i)).0) (count cut) below
    early later in
    record {
      count_is = ap count s.cut_is ∙ s.count_is;
      delays_are = ap (λ (d : Cut _). d.delays) s.cut_is;
      fewer = rw (s.cut_is, s.clocks, s.count_is) f;
    }

-- where some cycles are left no more, the order ends
none_left : (clock : ℕ → ℕ) (until n i : ℕ) → i < n → cycles_left_below clock until n ≡ 0 → until ≤ clock i
none_left clock until zero i below e = absurd (omega arith)
none_left clock until (suc n) i below e =
    elim (same_or_apart i n) [
      | inl same ↦ rw same (omega arith)
      | inr apart ↦ none_left clock until n i (omega arith) (omega arith)
    ]

pub ends : {C : Type 0} (kind : NodeKind C) (cut : Cut C) (until : ℕ) → 0 < count cut → cycles_left kind cut until ≡ 0
    → nat_lt (clock_at kind cut (least kind cut)) until ≡ false
ends kind cut until some e =
    let h : until ≤ clock_at kind cut (least kind cut)
    = none_left (clock_at kind cut) until (count cut) (least kind cut)
    (least_is_player (clock_at kind cut) (count cut) some) e in
    grind (arith, nat_tests)

-- any number of steps that is enough makes the same trace
pub enough : {C : Type 0} (kind : NodeKind C) → IsLawful kind → (most : ℕ) (cut : Cut C) (until more : ℕ)
    → 0 < count cut
    → cycles_left kind cut until ≤ most → cycles_left kind cut until ≤ more
    → trace_of kind most cut until ≡ trace_of kind more cut until
enough kind law zero cut until more some le less =
    let e = ends kind cut until some (omega arith) in
    trace_ends kind zero cut until e ∙ sym (trace_ends kind more cut until e)
enough kind law (suc most) cut until zero some le less =
    let e = ends kind cut until some (omega arith) in
    trace_ends kind (suc most) cut until e ∙ sym (trace_ends kind zero cut until e)
enough kind law (suc most) cut until (suc more) some le less =
    elim (cases_Bool (nat_lt (clock_at kind cut (least kind cut)) until)) [
      | inl e ↦
          let f = falls kind law cut until some e in
          let some' : 0 < count (step kind cut) = subst (λ (n : ℕ). 0 < n) (sym f.count_is) some in
          let low : cycles_left kind (step kind cut) until < cycles_left kind cut until = f.fewer in
          let h = enough kind law most (step kind cut) until more some' (omega arith) (omega arith) in
          trace_goes kind most cut until e ∙ ap (λ (t : List ℕ). least kind cut ∷ t) h
          ∙ sym (trace_goes kind more cut until e)
      | inr e ↦ trace_ends kind (suc most) cut until e ∙ sym (trace_ends kind (suc more) cut until e)
    ]

-- one step of the global order, and then the rest of it
pub trace_unrolls : {C : Type 0} (kind : NodeKind C) → IsLawful kind → (cut : Cut C) (until : ℕ) → 0 < count cut
    → nat_lt (clock_at kind cut (least kind cut)) until ≡ true
    → trace kind cut until ≡ least kind cut ∷ trace kind (step kind cut) until
trace_unrolls kind law cut until some e =
    let f = falls kind law cut until some e in
    let some' : 0 < count (step kind cut) = subst (λ (n : ℕ). 0 < n) (sym f.count_is) some in
    let low : cycles_left kind (step kind cut) until < cycles_left kind cut until = f.fewer in
    enough kind law (cycles_left kind cut until) cut until (suc (cycles_left kind cut until)) some (omega arith)
    (omega arith)
    ∙ trace_goes kind (cycles_left kind cut until) cut until e
    ∙ ap (λ (t : List ℕ). least kind cut ∷ t)
    (enough kind law (cycles_left kind cut until) (step kind cut) until (cycles_left kind (step kind cut) until) some'
    (omega arith) (omega arith))

pub run_unrolls : {C : Type 0} (kind : NodeKind C) → IsLawful kind → (cut : Cut C) (until : ℕ) → 0 < count cut
    → nat_lt (clock_at kind cut (least kind cut)) until ≡ true → run kind cut until ≡ run kind (step kind cut) until
run_unrolls kind law cut until some e =
    ap (after_turns kind cut) (trace_unrolls kind law cut until some e)
    ∙ after_one kind cut (least kind cut) (trace kind (step kind cut) until)

pub run_ends : {C : Type 0} (kind : NodeKind C) (cut : Cut C) (until : ℕ)
    → nat_lt (clock_at kind cut (least kind cut)) until ≡ false → run kind cut until ≡ cut
run_ends kind cut until e =
    ap (after_turns kind cut) (trace_ends kind (cycles_left kind cut until) cut until e) ∙ after_none kind cut

-- with no console nothing happens
run_empty : {C : Type 0} (kind : NodeKind C) (cut : Cut C) (until : ℕ) → count cut ≡ 0 → run kind cut until ≡ cut
run_empty kind cut until none =
    let e : cycles_left kind cut until ≡ 0 = ap (cycles_left_below (clock_at kind cut) until) none in
    ap (λ (m : ℕ). after_turns kind cut (trace_of kind m cut until)) e
    ∙ ap (after_turns kind cut) (trace_zero kind cut until) ∙ after_none kind cut

parts : {C : Type 0} (kind : NodeKind C) → IsLawful kind → (most : ℕ) (cut : Cut C) (first until : ℕ) → 0 < count cut
    → first ≤ until
    → run kind (after_turns kind cut (trace_of kind most cut first)) until ≡ run kind cut until
parts kind law zero cut first until some le =
    ap (λ d. run kind d until) (ap (after_turns kind cut) (trace_zero kind cut first) ∙ after_none kind cut)
parts kind law (suc most) cut first until some le =
    elim (cases_Bool (nat_lt (clock_at kind cut (least kind cut)) first)) [
      | inl e ↦
          let f = falls kind law cut first some e in
          let some' : 0 < count (step kind cut) = subst (λ (n : ℕ). 0 < n) (sym f.count_is) some in
          let early : clock_at kind cut (least kind cut) < first = ltb-true _ first e in
          let goes : nat_lt (clock_at kind cut (least kind cut)) until ≡ true = lt-ltb _ until (omega arith) in
          ap (λ d. run kind d until) (ap (after_turns kind cut) (trace_goes kind most cut first e)
          ∙ after_one kind cut (least kind cut) _)
          ∙ parts kind law most (step kind cut) first until some' le
          ∙ sym (run_unrolls kind law cut until some goes)
      | inr e ↦ ap (λ d. run kind d until) (ap (after_turns kind cut) (trace_ends kind (suc most) cut first e)
          ∙ after_none kind cut)
    ]

pub splits : {C : Type 0} (kind : NodeKind C) → IsLawful kind → (cut : Cut C) (first until : ℕ) → first ≤ until
    → run kind (run kind cut first) until ≡ run kind cut until
splits kind law cut first until le =
    elim (same_or_apart (count cut) 0) [
      | inl none ↦ ap (λ d. run kind d until) (run_empty kind cut first none)
      | inr some ↦ parts kind law (cycles_left kind cut first) cut first until (omega arith) le
    ]
