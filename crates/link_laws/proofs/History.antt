-- The history of each console along a list of steps, and cuts that stand somewhere on it.
use Rattle.std.specs.Prelude.{true, false, List, [], ◌∷◌, ◌++◌, All, Option, Some, slice_get, option_to_list, nat_lt}
use Rattle.std.specs.Prelude.{◌==◌, if◌then◌else◌}
use Rattle.std.proofs.Common.{ℕ, zero, suc, ◌≡◌, ◌≢◌, ◌+◌, ◌<◌, ◌≤◌, inl, inr, arith, refl, sym, ap, ◌∙◌, subst}
use Rattle.std.proofs.Common.{append_assoc}
use Rattle.std.proofs.lemmas.Bool.Decides.{nat_tests}
use Rattle.std.proofs.lemmas.List.{append-nil}
use Rattle.std.proofs.lemmas.List.Elements.{All-append}
use Rattle.std.proofs.lemmas.Bool.{cases_Bool, cases_lt, ltb-false, ltb-true}
use Rattle.link_node.specs.declared.signal.Incoming.{Incoming}
use Rattle.link_node.specs.declared.signal.Signal.{Signal}
use Rattle.link_order.specs.NodeKind.{NodeKind, IsLawful}
use Rattle.link_order.specs.Order.{from}
use Rattle.link_order.specs.Due.{due}
use Rattle.link_order.specs.Cut.{HasDelays, Cut, hop, count, clock_at, was_at, IsSound}
use Rattle.link_order.specs.GlobalOrder.{least, step_of, due_at, after_turns, trace_of, trace, cycles_left}
use Rattle.link_order.specs.Interleaving.{moment, count_of}
use Rattle.link_order.proofs.Numbers.{same_or_apart, put, put_same, put_other, least_is_player, least_is_least}
use Rattle.link_order.proofs.Lists.{all_nil, all_map}
use Rattle.link_order.proofs.Runs.{falls, ends, trace_goes, trace_ends, trace_zero, after_none, after_one}
use Rattle.link_order.proofs.Hops.{hop_same, delays_same}
use Rattle.link_order.proofs.Sound.{sound_step, least_ahead}
use Rattle.link_laws.proofs.Advance.{Ahead, advance, number_same, Later, due_of_all}

pub count_own : (i p : ℕ) (rest : List ℕ) → p ≡ i → count_of i (p ∷ rest) ≡ 1 + count_of i rest
count_own i p rest e = let t : (p == i) ≡ true = grind (arith, nat_tests) in
    ap (λ b. if b then 1 + count_of i rest else count_of i rest) t

pub count_other : (i p : ℕ) (rest : List ℕ) → p ≢ i → count_of i (p ∷ rest) ≡ count_of i rest
count_other i p rest e = let t : (p == i) ≡ false = grind (arith, nat_tests) in
    ap (λ b. if b then 1 + count_of i rest else count_of i rest) t

pub moment_first : {C : Type 0} (kind : NodeKind C) (cut : Cut C) (p : ℕ) (rest : List ℕ) (i : ℕ) → p ≡ i
    → moment kind cut (p ∷ rest) i zero ≡ cut
moment_first kind cut p rest i e = let t : (p == i) ≡ true = grind (arith, nat_tests) in
    ap (λ b. if b then cut else moment kind (step_of kind cut p) rest i zero) t

pub moment_own : {C : Type 0} (kind : NodeKind C) (cut : Cut C) (p : ℕ) (rest : List ℕ) (i k : ℕ) → p ≡ i
    → moment kind cut (p ∷ rest) i (suc k) ≡ moment kind (step_of kind cut p) rest i k
moment_own kind cut p rest i k e =
    let t : (p == i) ≡ true = grind (arith, nat_tests) in
    ap (λ b. if b then moment kind (step_of kind cut p) rest i k else moment kind (step_of kind cut p) rest i (suc k)) t

pub moment_other : {C : Type 0} (kind : NodeKind C) (cut : Cut C) (p : ℕ) (rest : List ℕ) (i k : ℕ) → p ≢ i
    → moment kind cut (p ∷ rest) i k ≡ moment kind (step_of kind cut p) rest i k
moment_other kind cut p rest i zero e =
    let t : (p == i) ≡ false = grind (arith, nat_tests) in
    ap (λ b. if b then cut else moment kind (step_of kind cut p) rest i zero) t
moment_other kind cut p rest i (suc k) e =
    let t : (p == i) ≡ false = grind (arith, nat_tests) in
    ap (λ b. if b then moment kind (step_of kind cut p) rest i k else moment kind (step_of kind cut p) rest i (suc k)) t

-- a list of steps to `until`: each is made by a console that is ahead of no horizon, and at the end none is left
abbrev pub Leads : {C : Type 0} → NodeKind C → ℕ → Cut C → List ℕ → Type 0
Leads kind until cut [] = (i : ℕ) → i < count cut → until ≤ clock_at kind cut i
Leads kind until cut (p ∷ rest) =
    (p < count cut) × (clock_at kind cut p < until) × Ahead kind cut p × Leads kind until (step_of kind cut p) rest

leads_by : {C : Type 0} (kind : NodeKind C) → IsLawful kind → (most : ℕ) (cut : Cut C) (until : ℕ) → 0 < count cut
    → HasDelays cut
    → cycles_left kind cut until ≤ most → IsSound kind cut → Leads kind until cut (trace_of kind most cut until)
leads_by kind law zero cut until some later few sound =
    let e = ends kind cut until some (omega arith) in
    let late : until ≤ clock_at kind cut (least kind cut) = ltb-false (clock_at kind cut (least kind cut)) until e in
    subst (Leads kind until cut) (sym (trace_zero kind cut until))
    (λ i below. omega (arith, late, least_is_least (clock_at kind cut) (count cut) i below))
leads_by kind law (suc most) cut until some later few sound =
    elim (cases_Bool (nat_lt (clock_at kind cut (least kind cut)) until)) [
      | inl e ↦
          let f = falls kind law cut until some e in
          let less : cycles_left kind (step_of kind cut (least kind cut)) until < cycles_left kind cut until =
          f.fewer in
          let some' : 0 < count (step_of kind cut (least kind cut)) = subst (λ (n : ℕ). 0 < n) (sym f.count_is) some in
          let later' : HasDelays (step_of kind cut (least kind cut)) =
          delays_same (step_of kind cut (least kind cut)) cut f.count_is f.delays_are later in
          let ih = leads_by kind law most (step_of kind cut (least kind cut)) until some' later' (omega arith)
          (sound_step kind law cut some later sound) in
          subst (Leads kind until cut) (sym (trace_goes kind most cut until e)) (
            least_is_player (clock_at kind cut) (count cut) some,
            ltb-true (clock_at kind cut (least kind cut)) until e,
            least_ahead kind cut some later,
            ih,
          )
      | inr e ↦
          let late : until ≤ clock_at kind cut (least kind cut) =
          ltb-false (clock_at kind cut (least kind cut)) until e in
          subst (Leads kind until cut) (sym (trace_ends kind (suc most) cut until e))
          (λ i below. omega (arith, late, least_is_least (clock_at kind cut) (count cut) i below))
    ]

pub trace_leads : {C : Type 0} (kind : NodeKind C) → IsLawful kind → (cut : Cut C) (until : ℕ) → 0 < count cut
    → HasDelays cut
    → IsSound kind cut → Leads kind until cut (trace kind cut until)
trace_leads kind law cut until some later sound =
    leads_by kind law (cycles_left kind cut until) cut until some later (omega arith) sound

-- what is sent along these steps
pub later_sent : {C : Type 0} (kind : NodeKind C) → IsLawful kind → (until : ℕ) (ps : List ℕ) (cut : Cut C) (i : ℕ)
    → Leads kind until cut ps → IsSound kind cut
    → Later (clock_at kind cut i) (from i cut.sent) (from i (after_turns kind cut ps).sent)
later_sent {C = C} kind law until [] cut i leads sound = record {
  rest = [];
  all_is = ap (λ (d : Cut C). from i d.sent) (after_none kind cut) ∙ sym (append-nil (from i cut.sent));
  late = all_nil (λ (s : Signal). clock_at kind cut i ≤ s.clock);
}
later_sent {C = C} kind law until (p ∷ ps) cut i leads sound =
    let a = advance kind law cut p leads.0 leads.2 sound in
    let l = later_sent kind law until ps (step_of kind cut p) i leads.3 a.sound in
    let is : from i (after_turns kind cut (p ∷ ps)).sent ≡ from i (step_of kind cut p).sent ++ l.rest =
    ap (λ (d : Cut C). from i d.sent) (after_one kind cut p ps) ∙ l.all_is in
    elim (same_or_apart i p) [
      | inl e ↦
          let new : List Signal = option_to_list (kind.next a.x (due_at kind cut p)).1 in
          let c : clock_at kind cut i ≡ clock_at kind cut p = ap (clock_at kind cut) e in
          let d : clock_at kind (step_of kind cut p) i ≡ clock_at kind (step_of kind cut p) p =
          ap (clock_at kind (step_of kind cut p)) e in
          let own : from i (step_of kind cut p).sent ≡ from i cut.sent ++ new = rw e a.own_sent in
          let up = a.own_clock in
          record {
            rest = new ++ l.rest;
            all_is = is ∙ ap (λ (t : List Signal). t ++ l.rest) own ∙ append_assoc (from i cut.sent) new l.rest;
            late = All-append (λ (s : Signal). clock_at kind cut i ≤ s.clock) new l.rest
                (all_map (λ (s : Signal). s.clock ≡ clock_at kind cut p)
                (λ (s : Signal). clock_at kind cut i ≤ s.clock) new (λ s h. omega arith) a.told)
                (all_map (λ (s : Signal). clock_at kind (step_of kind cut p) i
                ≤ s.clock) (λ (s : Signal). clock_at kind cut i ≤ s.clock) l.rest (λ s h. omega arith) l.late);
          }
      | inr e ↦
          let c : clock_at kind (step_of kind cut p) i ≡ clock_at kind cut i = a.other_clock i e in
          record {
            rest = l.rest;
            all_is = is ∙ ap (λ (t : List Signal). t ++ l.rest) (a.other_sent i e);
            late = subst (λ (n : ℕ). All (λ (s : Signal). n ≤ s.clock) l.rest) c l.late;
          }
    ]

-- the same from any moment of the history
pub later_moment : {C : Type 0} (kind : NodeKind C) → IsLawful kind → (until : ℕ) (ps : List ℕ) (cut : Cut C) (i k : ℕ)
    → Leads kind until cut ps → IsSound kind cut
    → Later (clock_at kind (moment kind cut ps i k) i) (from i (moment kind cut ps i k).sent)
    (from i (after_turns kind cut ps).sent)
later_moment kind law until [] cut i k leads sound = later_sent kind law until [] cut i leads sound
later_moment {C = C} kind law until (p ∷ ps) cut i zero leads sound =
    elim (same_or_apart p i) [
      | inl e ↦
          subst (λ (d : Cut C). Later (clock_at kind d i) (from i d.sent) (from i (after_turns kind cut (p ∷ ps)).sent))
          (sym (moment_first kind cut p ps i e))
          (later_sent kind law until (p ∷ ps) cut i leads sound)
      | inr e ↦
          let a = advance kind law cut p leads.0 leads.2 sound in
          subst (λ (d : Cut C). Later (clock_at kind d i) (from i d.sent) (from i (after_turns kind cut (p ∷ ps)).sent))
          (sym (moment_other kind cut p ps i zero e))
          (subst (λ (d : Cut C). Later (clock_at kind (moment kind (step_of kind cut p) ps i zero) i)
          (from i (moment kind (step_of kind cut p) ps i zero).sent) (from i d.sent))
          (sym (after_one kind cut p ps)) (later_moment kind law until ps (step_of kind cut p) i zero leads.3 a.sound))
    ]
later_moment {C = C} kind law until (p ∷ ps) cut i (suc k) leads sound =
    let a = advance kind law cut p leads.0 leads.2 sound in
    elim (same_or_apart p i) [
      | inl e ↦
          subst (λ (d : Cut C). Later (clock_at kind d i) (from i d.sent) (from i (after_turns kind cut (p ∷ ps)).sent))
          (sym (moment_own kind cut p ps i k e))
          (subst (λ (d : Cut C). Later (clock_at kind (moment kind (step_of kind cut p) ps i k) i)
          (from i (moment kind (step_of kind cut p) ps i k).sent) (from i d.sent))
          (sym (after_one kind cut p ps)) (later_moment kind law until ps (step_of kind cut p) i k leads.3 a.sound))
      | inr e ↦
          subst (λ (d : Cut C). Later (clock_at kind d i) (from i d.sent) (from i (after_turns kind cut (p ∷ ps)).sent))
          (sym (moment_other kind cut p ps i (suc k) e))
          (subst (λ (d : Cut C). Later (clock_at kind (moment kind (step_of kind cut p) ps i (suc k)) i)
          (from i (moment kind (step_of kind cut p) ps i (suc k)).sent) (from i d.sent))
          (sym (after_one kind cut p ps))
          (later_moment kind law until ps (step_of kind cut p) i (suc k) leads.3 a.sound))
    ]

-- a console and its signals, seen in two cuts, are the same
pub record Same {C : Type 0} (d e : Cut C) (i : ℕ) : Type 0 where
  pub console : slice_get d.consoles i ≡ slice_get e.consoles i
  pub signals : from i d.sent ≡ from i e.sent

pub same_trans : {C : Type 0} (d e f : Cut C) (i : ℕ) → Same d e i → Same e f i → Same d f i
same_trans d e f i h k = record { console = h.console ∙ k.console; signals = h.signals ∙ k.signals }

pub same_sym : {C : Type 0} (d e : Cut C) (i : ℕ) → Same d e i → Same e d i
same_sym d e i h = record { console = sym h.console; signals = sym h.signals }

pub same_is : {C : Type 0} (d e : Cut C) (i : ℕ) → d ≡ e → Same d e i
same_is {C = C} d e i h = record {
  console = ap (λ (f : Cut C). slice_get f.consoles i) h;
  signals =
      ap (λ (f : Cut C). from i f.sent) h;
}

-- till its own first step a console stays as it is
pub moment_none : {C : Type 0} (kind : NodeKind C) → IsLawful kind → (until : ℕ) (ps : List ℕ) (cut : Cut C) (i : ℕ)
    → Leads kind until cut ps → IsSound kind cut → Same (moment kind cut ps i zero) cut i
moment_none kind law until [] cut i leads sound = record { console = refl; signals = refl }
moment_none kind law until (p ∷ ps) cut i leads sound =
    elim (same_or_apart p i) [
      | inl e ↦ same_is _ _ i (moment_first kind cut p ps i e)
      | inr e ↦
          let a = advance kind law cut p leads.0 leads.2 sound in
          let apart : i ≢ p = λ t. e (sym t) in
          same_trans _ (moment kind (step_of kind cut p) ps i zero) cut i
          (same_is _ _ i (moment_other kind cut p ps i zero e))
          (same_trans _ (step_of kind cut p) cut i
          (moment_none kind law until ps (step_of kind cut p) i leads.3 a.sound)
          (record { console = a.other_console i apart; signals = a.other_sent i apart }))
    ]

-- after all its steps a console is at the end
pub moment_all : {C : Type 0} (kind : NodeKind C) (ps : List ℕ) (cut : Cut C) (i k : ℕ) → count_of i ps ≤ k
    → moment kind cut ps i k ≡ after_turns kind cut ps
moment_all kind [] cut i k past = sym (after_none kind cut)
moment_all kind (p ∷ ps) cut i zero past =
    elim (same_or_apart p i) [
      | inl e ↦ let c = count_own i p ps e in absurd (omega arith)
      | inr e ↦ let c = count_other i p ps e in
          moment_other kind cut p ps i zero e ∙ moment_all kind ps (step_of kind cut p) i zero (omega arith)
          ∙ sym (after_one kind cut p ps)
    ]
moment_all kind (p ∷ ps) cut i (suc k) past =
    elim (same_or_apart p i) [
      | inl e ↦ let c = count_own i p ps e in
          moment_own kind cut p ps i k e ∙ moment_all kind ps (step_of kind cut p) i k (omega arith)
          ∙ sym (after_one kind cut p ps)
      | inr e ↦ let c = count_other i p ps e in
          moment_other kind cut p ps i (suc k) e ∙ moment_all kind ps (step_of kind cut p) i (suc k) (omega arith)
          ∙ sym (after_one kind cut p ps)
    ]

-- one step of a console's history: it goes by the signals of the whole history
pub record Goes {C : Type 0} (kind : NodeKind C) (until : ℕ) (m n e : Cut C) (i players : ℕ)
    (between : ℕ → ℕ → ℕ) : Type 0 where
  pub x : C
  pub stands : slice_get m.consoles i ≡ Some x
  pub early : kind.clock x < until
  pub next_console : slice_get n.consoles i
      ≡ Some (kind.next x (due between (λ j. from j e.sent) i (kind.was x) (kind.clock x) players)).0
  pub next_sent : from i n.sent ≡ from i m.sent
      ++ option_to_list (kind.next x (due between (λ j. from j e.sent) i (kind.was x) (kind.clock x) players)).1

goes_move : {C : Type 0} (kind : NodeKind C) (until : ℕ) (m m' n n' e e' : Cut C) (i players players' : ℕ)
    (between between' : ℕ → ℕ → ℕ)
    → m ≡ m' → n ≡ n' → e ≡ e' → players ≡ players' → between ≡ between' → Goes kind until m n e i players between
    → Goes kind until m' n' e' i players' between'
goes_move {C = C} kind until m m' n n' e e' i players players' between between' em en ee ep eb h =
    subst (λ (z : Cut C). Goes kind until z n' e' i players' between') em
    (subst (λ (z : Cut C). Goes kind until m z e' i players' between') en
    (subst (λ (z : Cut C). Goes kind until m n z i players' between') ee
    (subst (λ (z : ℕ). Goes kind until m n e i z between') ep
    (subst (λ (z : ℕ → ℕ → ℕ). Goes kind until m n e i players z) eb h))))

-- a step takes what is due of all that is ever sent
pub due_of_history : {C : Type 0} (kind : NodeKind C) (cut e : Cut C) (i : ℕ) (x : C)
    → clock_at kind cut i ≡ kind.clock x
    → was_at kind cut i ≡ kind.was x
    → ((j : ℕ) → j < count cut → j ≢ i → Later (clock_at kind cut j) (from j cut.sent) (from j e.sent))
    → Ahead kind cut i
    → due (hop cut) (λ j. from j e.sent) i (kind.was x) (kind.clock x) (count cut) ≡ due_at kind cut i
due_of_history kind cut e i x clock_is was_is later ahead =
    ap (λ (w : ℕ). due (hop cut) (λ j. from j e.sent) i w (kind.clock x) (count cut)) (sym was_is)
    ∙ ap (λ (c : ℕ). due (hop cut) (λ j. from j e.sent) i (was_at kind cut i) c (count cut)) (sym clock_is)
    ∙ due_of_all (hop cut) (λ j. from j cut.sent) (λ j. from j e.sent) (clock_at kind cut) i (was_at kind cut i)
    (clock_at kind cut i) (count cut) later ahead

goes_first : {C : Type 0} (kind : NodeKind C) → IsLawful kind → (until : ℕ) (ps : List ℕ) (cut : Cut C) (i : ℕ)
    → Leads kind until cut (i ∷ ps) → IsSound kind cut
    → Goes kind until cut (moment kind (step_of kind cut i) ps i zero) (after_turns kind cut (i ∷ ps)) i (count cut)
    (hop cut)
goes_first {C = C} kind law until ps cut i leads sound =
    let a = advance kind law cut i leads.0 leads.2 sound in
    let e : Cut C = after_turns kind cut (i ∷ ps) in
    let whole = due_of_history kind cut e i a.x a.clock_is a.was_is
    (λ j below apart. later_sent kind law until (i ∷ ps) cut j leads sound) leads.2 in
    let stay = moment_none kind law until ps (step_of kind cut i) i leads.3 a.sound in
    record {
      x = a.x;
      stands = a.stands;
      early = subst (λ (n : ℕ). n < until) a.clock_is leads.1;
      next_console = stay.console ∙ a.own_console ∙ ap (λ (d : List Incoming). Some (kind.next a.x d).0) (sym whole);
      next_sent = stay.signals ∙ a.own_sent
          ∙ ap (λ (d : List Incoming). from i cut.sent ++ option_to_list (kind.next a.x d).1) (sym whole);
    }

pub goes : {C : Type 0} (kind : NodeKind C) → IsLawful kind → (until : ℕ) (ps : List ℕ) (cut : Cut C) (i k : ℕ)
    → Leads kind until cut ps → IsSound kind cut
    → k < count_of i ps
    → Goes kind until (moment kind cut ps i k) (moment kind cut ps i (suc k)) (after_turns kind cut ps) i
    (count cut) (hop cut)
goes kind law until [] cut i k leads sound below = absurd (omega arith)
goes {C = C} kind law until (p ∷ ps) cut i zero leads sound below =
    elim (same_or_apart p i) [
      | inl e ↦
          goes_move kind until cut (moment kind cut (p ∷ ps) i zero) (moment kind (step_of kind cut p) ps i zero)
          (moment kind cut (p ∷ ps) i (suc zero))
          (after_turns kind cut (p ∷ ps)) (after_turns kind cut (p ∷ ps)) i (count cut) (count cut) (hop cut) (hop cut)
          (sym (moment_first kind cut p ps i e)) (sym (moment_own kind cut p ps i zero e)) refl refl refl
          (subst (λ (q : ℕ). Leads kind until cut (q ∷ ps)
          → Goes kind until cut (moment kind (step_of kind cut q) ps i zero) (after_turns kind cut (q ∷ ps)) i
          (count cut) (hop cut))
          (sym e) (λ l. goes_first kind law until ps cut i l sound) leads)
      | inr e ↦
          let a = advance kind law cut p leads.0 leads.2 sound in
          let c = count_other i p ps e in
          goes_move kind until (moment kind (step_of kind cut p) ps i zero) (moment kind cut (p ∷ ps) i zero)
          (moment kind (step_of kind cut p) ps i (suc zero)) (moment kind cut (p ∷ ps) i (suc zero))
          (after_turns kind (step_of kind cut p) ps) (after_turns kind cut (p ∷ ps)) i (count (step_of kind cut p))
          (count cut) (hop (step_of kind cut p)) (hop cut)
          (sym (moment_other kind cut p ps i zero e)) (sym (moment_other kind cut p ps i (suc zero) e))
          (sym (after_one kind cut p ps)) a.count_is
          (hop_same (step_of kind cut p) cut a.delays_are)
          (goes kind law until ps (step_of kind cut p) i zero leads.3 a.sound (omega arith))
    ]
goes {C = C} kind law until (p ∷ ps) cut i (suc k) leads sound below =
    let a = advance kind law cut p leads.0 leads.2 sound in
    elim (same_or_apart p i) [
      | inl e ↦
          let c = count_own i p ps e in
          goes_move kind until (moment kind (step_of kind cut p) ps i k) (moment kind cut (p ∷ ps) i (suc k))
          (moment kind (step_of kind cut p) ps i (suc k)) (moment kind cut (p ∷ ps) i (suc (suc k)))
          (after_turns kind (step_of kind cut p) ps) (after_turns kind cut (p ∷ ps)) i (count (step_of kind cut p))
          (count cut) (hop (step_of kind cut p)) (hop cut)
          (sym (moment_own kind cut p ps i k e)) (sym (moment_own kind cut p ps i (suc k) e))
          (sym (after_one kind cut p ps)) a.count_is
          (hop_same (step_of kind cut p) cut a.delays_are)
          (goes kind law until ps (step_of kind cut p) i k leads.3 a.sound (omega arith))
      | inr e ↦
          let c = count_other i p ps e in
          goes_move kind until (moment kind (step_of kind cut p) ps i (suc k)) (moment kind cut (p ∷ ps) i (suc k))
          (moment kind (step_of kind cut p) ps i (suc (suc k))) (moment kind cut (p ∷ ps) i (suc (suc k)))
          (after_turns kind (step_of kind cut p) ps) (after_turns kind cut (p ∷ ps)) i (count (step_of kind cut p))
          (count cut) (hop (step_of kind cut p)) (hop cut)
          (sym (moment_other kind cut p ps i (suc k) e)) (sym (moment_other kind cut p ps i (suc (suc k)) e))
          (sym (after_one kind cut p ps)) a.count_is
          (hop_same (step_of kind cut p) cut a.delays_are)
          (goes kind law until ps (step_of kind cut p) i (suc k) leads.3 a.sound (omega arith))
    ]

-- the end of the history
pub record Ends {C : Type 0} (kind : NodeKind C) (until : ℕ) (cut e : Cut C) : Type 0 where
  pub count_is : count e ≡ count cut
  pub delays_are : e.delays ≡ cut.delays
  pub sound : IsSound kind e
  pub late : (i : ℕ) → i < count cut → until ≤ clock_at kind e i

pub history_ends : {C : Type 0} (kind : NodeKind C) → IsLawful kind → (until : ℕ) (ps : List ℕ) (cut : Cut C)
    → Leads kind until cut ps → IsSound kind cut
    → Ends kind until cut (after_turns kind cut ps)
history_ends {C = C} kind law until [] cut leads sound =
    subst (Ends kind until cut) (sym (after_none kind cut)) (record {
      count_is = refl;
      delays_are = refl;
      sound = sound;
      late = leads;
    })
history_ends {C = C} kind law until (p ∷ ps) cut leads sound =
    let a = advance kind law cut p leads.0 leads.2 sound in
    let h = history_ends kind law until ps (step_of kind cut p) leads.3 a.sound in
    subst (Ends kind until cut) (sym (after_one kind cut p ps)) (record {
      count_is = h.count_is ∙ a.count_is;
      delays_are = h.delays_are ∙ a.delays_are;
      sound = h.sound;
      late = λ i below. h.late i (subst (λ (n : ℕ). i < n) (sym a.count_is) below);
    })

-- a cut in which each console has made some of its steps of the history, with the signals of these steps
pub record On {C : Type 0} (kind : NodeKind C) (cut : Cut C) (ps : List ℕ) (d : Cut C) (made : ℕ → ℕ) : Type 0 where
  pub count_is : count d ≡ count cut
  pub delays_are : d.delays ≡ cut.delays
  pub sound : IsSound kind d
  pub within : (i : ℕ) → i < count cut → made i ≤ count_of i ps
  pub same : (i : ℕ) → i < count cut → Same d (moment kind cut ps i (made i)) i

-- a console below `until` has another step to make
pub further_step : {C : Type 0} (kind : NodeKind C) → IsLawful kind → (until : ℕ) (ps : List ℕ) (cut : Cut C) (i k : ℕ)
    → Leads kind until cut ps → IsSound kind cut → i < count cut → clock_at kind (moment kind cut ps i k) i < until
    → k < count_of i ps
further_step {C = C} kind law until ps cut i k leads sound below early =
    elim (cases_lt k (count_of i ps)) [
      | inl less ↦ less
      | inr past ↦
          let all = ap (λ (d : Cut C). clock_at kind d i) (moment_all kind ps cut i k past) in
          let late = (history_ends kind law until ps cut leads sound).late i below in
          absurd (omega arith)
    ]

-- the same of a cut that stands on the history
pub not_over : {C : Type 0} (kind : NodeKind C) → IsLawful kind
    → (until : ℕ) (cut : Cut C) (ps : List ℕ) (d : Cut C) (made : ℕ → ℕ) (i : ℕ)
    → Leads kind until cut ps → IsSound kind cut → On kind cut ps d made → i < count cut → clock_at kind d i < until
    → made i < count_of i ps
not_over kind law until cut ps d made i leads sound on below early =
    let s = on.same i below in
    let same = number_same kind.clock d.consoles (moment kind cut ps i (made i)).consoles i s.console in
    further_step kind law until ps cut i (made i) leads sound below (omega arith)

-- a step of a console that is ahead of no horizon is the next one of its history
pub on_step : {C : Type 0} (kind : NodeKind C) → IsLawful kind
    → (until : ℕ) (cut : Cut C) (ps : List ℕ) (d : Cut C) (made : ℕ → ℕ) (i : ℕ)
    → Leads kind until cut ps → IsSound kind cut → On kind cut ps d made → i < count cut → clock_at kind d i < until
    → Ahead kind d i
    → On kind cut ps (step_of kind d i) (put i (suc (made i)) made)
on_step {C = C} kind law until cut ps d made i leads sound on below early ahead =
    let cycles_left = not_over kind law until cut ps d made i leads sound on below early in
    let e : Cut C = after_turns kind cut ps in
    let g = goes kind law until ps cut i (made i) leads sound cycles_left in
    let s = on.same i below in
    let below_d : i < count d = subst (λ (n : ℕ). i < n) (sym on.count_is) below in
    let a = advance kind law d i below_d ahead on.sound in
    let x_is : Some a.x ≡ Some g.x = sym a.stands ∙ s.console ∙ g.stands in
    let x : a.x ≡ g.x = cc in
    let later : (j : ℕ) → j < count d → j ≢ i → Later (clock_at kind d j) (from j d.sent) (from j e.sent)
    = λ j less apart.
    let less_cut : j < count cut = subst (λ (n : ℕ). j < n) on.count_is less in
    let t = on.same j less_cut in
    let m : Cut C = moment kind cut ps j (made j) in
    let l = later_moment kind law until ps cut j (made j) leads sound in
    let c : clock_at kind d j ≡ clock_at kind m j = number_same kind.clock d.consoles m.consoles j t.console in
    record {
      rest = l.rest;
      all_is = l.all_is ∙ ap (λ (z : List Signal). z ++ l.rest) (sym t.signals);
      late = subst (λ (n : ℕ). All (λ (z : Signal). n ≤ z.clock) l.rest) (sym c) l.late;
    } in
    let whole : due (hop d) (λ j. from j e.sent) i (kind.was a.x) (kind.clock a.x) (count d) ≡ due_at kind d i
    = due_of_history kind d e i a.x a.clock_is a.was_is later ahead in
    let told : due (hop cut) (λ j. from j e.sent) i (kind.was g.x) (kind.clock g.x) (count cut) ≡ due_at kind d i
    = ap (λ (y : C). due (hop cut) (λ j. from j e.sent) i (kind.was y) (kind.clock y) (count cut)) (sym x)
    ∙ ap (λ (b : ℕ → ℕ → ℕ). due b (λ j. from j e.sent) i (kind.was a.x) (kind.clock a.x) (count cut))
    (hop_same cut d (sym on.delays_are))
    ∙ ap (due (hop d) (λ j. from j e.sent) i (kind.was a.x) (kind.clock a.x)) (sym on.count_is)
    ∙ whole in
    let moved : (kind.next g.x (due (hop cut) (λ j. from j e.sent) i (kind.was g.x) (kind.clock g.x) (count cut)))
    ≡ kind.next a.x (due_at kind d i)
    = ap (kind.next g.x) told ∙ ap (λ (y : C). kind.next y (due_at kind d i)) (sym x) in
    let own : Same (step_of kind d i) (moment kind cut ps i (suc (made i))) i = record {
      console = a.own_console ∙ sym (g.next_console ∙ ap (λ (o : C × Option Signal). Some o.0) moved);
      signals = a.own_sent ∙ sym (g.next_sent
          ∙ ap (λ (o : C × Option Signal). from i (moment kind cut ps i (made i)).sent ++ option_to_list o.1) moved
          ∙ ap (λ (z : List Signal). z ++ option_to_list (kind.next a.x (due_at kind d i)).1) (sym s.signals));
    } in
    record {
      count_is = a.count_is ∙ on.count_is;
      delays_are = a.delays_are ∙ on.delays_are;
      sound = a.sound;
      within = λ j less. elim (same_or_apart j i) [
        | inl t ↦
            let at_j : put i (suc (made i)) made j ≡ suc (made i) = ap (put i (suc (made i)) made) t
            ∙ put_same i (suc (made i)) made in
            let c : count_of j ps ≡ count_of i ps = ap (λ (q : ℕ). count_of q ps) t in
            omega (arith, cycles_left, at_j, c)
        | inr apart ↦ omega (arith, put_other i j (suc (made i)) made apart, on.within j less)
      ];
      same = λ j less. elim (same_or_apart j i) [
        | inl t ↦
            let at_i : put i (suc (made i)) made i ≡ suc (made i) = put_same i (suc (made i)) made in
            subst (λ (q : ℕ). Same (step_of kind d i) (moment kind cut ps q (put i (suc (made i)) made q)) q) (sym t)
            (subst (λ (k : ℕ). Same (step_of kind d i) (moment kind cut ps i k) i) (sym at_i) own)
        | inr apart ↦
            let at_j : put i (suc (made i)) made j ≡ made j = put_other i j (suc (made i)) made apart in
            subst (λ (k : ℕ). Same (step_of kind d i) (moment kind cut ps j k) j) (sym at_j)
            (same_trans (step_of kind d i) d (moment kind cut ps j (made j)) j
            (record { console = a.other_console j apart; signals = a.other_sent j apart }) (on.same j less))
      ];
    }
