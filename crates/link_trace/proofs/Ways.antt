-- One console's way through a list of steps.
use Rattle.std.specs.Prelude.{List, [], ◌∷◌, ◌++◌, length, take, Option, Some, IfSome, slice_get, option_to_list}
use Rattle.std.specs.Prelude.{true, false, ◌==◌, if◌then◌else◌}
use Rattle.std.proofs.Common.{ℕ, zero, suc, ◌≡◌, ◌≢◌, ◌<◌, inl, inr, arith, refl, sym, ap, ◌∙◌, subst}
use Rattle.std.proofs.Common.{append_assoc, drop}
use Rattle.std.proofs.lemmas.Bool.Decides.{nat_tests}
use Rattle.std.proofs.lemmas.List.{append-nil, take-append-drop}
use Rattle.std.proofs.Math.Seq.{take-append_seam}
use Rattle.link_node.specs.declared.signal.Incoming.{Incoming}
use Rattle.link_node.specs.declared.signal.Signal.{Signal}
use Rattle.link_node.specs.Due.{FitsWidths}
use Rattle.link_order.specs.NodeKind.{NodeKind, IsLawful}
use Rattle.link_order.specs.Order.{from}
use Rattle.link_order.specs.Due.{due}
use Rattle.link_order.specs.Cut.{Cut, hop, count, clock_at, was_at, IsSound, IsCable}
use Rattle.link_order.specs.GlobalOrder.{step_of, due_at, trace, after_turns}
use Rattle.link_order.specs.Interleaving.{moment, count_of}
use Rattle.link_order.specs.Way.{signals_after, told_by, Move, move_of, moves_of, clock_after, told_in, told_count}
use Rattle.link_order.proofs.Numbers.{same_or_apart}
use Rattle.link_order.proofs.Hops.{hop_same}
use Rattle.link_order.proofs.Runs.{after_one}
use Rattle.link_laws.proofs.Advance.{advance, number_same, number_found, due_of_all}
use Rattle.link_laws.proofs.History.{count_own, count_other, moment_first, moment_own, moment_other, Leads, trace_leads}
use Rattle.link_laws.proofs.History.{moment_none, further_step, goes, due_of_history, later_sent}
use Rattle.link_trace.specs.Law.{IsStep, IsWay, Knows, Turns}

pub moves_own : {C : Type 0} (kind : NodeKind C) (cut : Cut C) (p : ℕ) (ps : List ℕ) (i : ℕ) → p ≡ i
    → moves_of kind cut (p ∷ ps) i ≡ move_of kind cut i ∷ moves_of kind (step_of kind cut p) ps i
moves_own kind cut p ps i e =
    let t : (p == i) ≡ true = grind (arith, nat_tests) in
    ap (λ b. if b then move_of kind cut i ∷ moves_of kind (step_of kind cut p) ps i
    else moves_of kind (step_of kind cut p) ps i) t

pub moves_other : {C : Type 0} (kind : NodeKind C) (cut : Cut C) (p : ℕ) (ps : List ℕ) (i : ℕ) → p ≢ i
    → moves_of kind cut (p ∷ ps) i ≡ moves_of kind (step_of kind cut p) ps i
moves_other kind cut p ps i e =
    let t : (p == i) ≡ false = grind (arith, nat_tests) in
    ap (λ b. if b then move_of kind cut i ∷ moves_of kind (step_of kind cut p) ps i
    else moves_of kind (step_of kind cut p) ps i) t

-- as many moves as steps
pub moves_count : {C : Type 0} (kind : NodeKind C) (cut : Cut C) (ps : List ℕ) (i : ℕ)
    → length (moves_of kind cut ps i) ≡ count_of i ps
moves_count kind cut [] i = refl
moves_count kind cut (p ∷ ps) i =
    let ih = moves_count kind (step_of kind cut p) ps i in
    elim (same_or_apart p i) [
      | inl e ↦ ap length (moves_own kind cut p ps i e) ∙ omega (arith, ih, count_own i p ps e)
      | inr e ↦ ap length (moves_other kind cut p ps i e) ∙ ih ∙ sym (count_other i p ps e)
    ]

-- a step of console i at this cut: after it come these others, and it is the move that stands in its place
pub record StandsAt {C : Type 0} (kind : NodeKind C) (until i : ℕ) (start now next end : Cut C)
    (move : Option Move) : Type
    0
  where
    pub rest : List ℕ
    pub leads : Leads kind until now (i ∷ rest)
    pub sound : IsSound kind now
    pub count_is : count now ≡ count start
    pub delays_are : now.delays ≡ start.delays
    pub next_is : next ≡ moment kind (step_of kind now i) rest i zero
    pub end_is : after_turns kind now (i ∷ rest) ≡ end
    pub move_is : move ≡ Some (move_of kind now i)

stands_move : {C : Type 0} (kind : NodeKind C) (until i : ℕ) (start now now' next next' end end' : Cut C)
    (move move' : Option Move) → now ≡ now' → next ≡ next' → end ≡ end' → move ≡ move'
    → StandsAt kind until i start now next end move → StandsAt kind until i start now' next' end' move'
stands_move {C = C} kind until i start now now' next next' end end' move move' en ex ee em h =
    subst (λ (z : Cut C). StandsAt kind until i start z next' end' move') en
    (subst (λ (z : Cut C). StandsAt kind until i start now z end' move') ex
    (subst (λ (z : Cut C). StandsAt kind until i start now next z move') ee
    (subst (λ (z : Option Move). StandsAt kind until i start now next end z) em h)))

stands_from : {C : Type 0} (kind : NodeKind C) (until i : ℕ) (start other now next end : Cut C) (move : Option Move)
    → count start ≡ count other → start.delays ≡ other.delays
    → StandsAt kind until i start now next end move → StandsAt kind until i other now next end move
stands_from kind until i start other now next end move counts delays h = record {
  rest = h.rest;
  leads = h.leads;
  sound = h.sound;
  count_is = h.count_is ∙ counts;
  delays_are = h.delays_are ∙ delays;
  next_is = h.next_is;
  end_is = h.end_is;
  move_is = h.move_is;
}

pub stands : {C : Type 0} (kind : NodeKind C) → IsLawful kind → (until : ℕ) (ps : List ℕ) (cut : Cut C) (i k : ℕ)
    → Leads kind until cut ps → IsSound kind cut → k < count_of i ps
    → StandsAt kind until i cut (moment kind cut ps i k) (moment kind cut ps i (suc k)) (after_turns kind cut ps)
    (slice_get (moves_of kind cut ps i) k)
stands kind law until [] cut i k leads sound below = absurd (omega arith)
stands {C = C} kind law until (p ∷ ps) cut i zero leads sound below =
    elim (same_or_apart p i) [
      | inl e ↦
          stands_move kind until i cut cut (moment kind cut (p ∷ ps) i zero)
          (moment kind (step_of kind cut p) ps i zero) (moment kind cut (p ∷ ps) i (suc zero))
          (after_turns kind cut (p ∷ ps)) (after_turns kind cut (p ∷ ps))
          (Some (move_of kind cut i)) (slice_get (moves_of kind cut (p ∷ ps) i) zero)
          (sym (moment_first kind cut p ps i e)) (sym (moment_own kind cut p ps i zero e)) refl
          (ap (λ (l : List Move). slice_get l zero) (sym (moves_own kind cut p ps i e)))
          (record {
            rest = ps;
            leads = subst (λ (q : ℕ). Leads kind until cut (q ∷ ps)) e leads;
            sound = sound;
            count_is = refl;
            delays_are = refl;
            next_is = ap (λ (q : ℕ). moment kind (step_of kind cut q) ps i zero) e;
            end_is = ap (λ (q : ℕ). after_turns kind cut (q ∷ ps)) (sym e);
            move_is = refl;
          })
      | inr e ↦
          let a = advance kind law cut p leads.0 leads.2 sound in
          let c = count_other i p ps e in
          stands_move kind until i cut (moment kind (step_of kind cut p) ps i zero) (moment kind cut (p ∷ ps) i zero)
          (moment kind (step_of kind cut p) ps i (suc zero)) (moment kind cut (p ∷ ps) i (suc zero))
          (after_turns kind (step_of kind cut p) ps) (after_turns kind cut (p ∷ ps))
          (slice_get (moves_of kind (step_of kind cut p) ps i) zero) (slice_get (moves_of kind cut (p ∷ ps) i) zero)
          (sym (moment_other kind cut p ps i zero e)) (sym (moment_other kind cut p ps i (suc zero) e))
          (sym (after_one kind cut p ps))
          (ap (λ (l : List Move). slice_get l zero) (sym (moves_other kind cut p ps i e)))
          (stands_from kind until i (step_of kind cut p) cut _ _ _ _ a.count_is a.delays_are
          (stands kind law until ps (step_of kind cut p) i zero leads.3 a.sound (omega arith)))
    ]
stands {C = C} kind law until (p ∷ ps) cut i (suc k) leads sound below =
    let a = advance kind law cut p leads.0 leads.2 sound in
    elim (same_or_apart p i) [
      | inl e ↦
          let c = count_own i p ps e in
          stands_move kind until i cut (moment kind (step_of kind cut p) ps i k) (moment kind cut (p ∷ ps) i (suc k))
          (moment kind (step_of kind cut p) ps i (suc k)) (moment kind cut (p ∷ ps) i (suc (suc k)))
          (after_turns kind (step_of kind cut p) ps) (after_turns kind cut (p ∷ ps))
          (slice_get (moves_of kind (step_of kind cut p) ps i) k) (slice_get (moves_of kind cut (p ∷ ps) i) (suc k))
          (sym (moment_own kind cut p ps i k e)) (sym (moment_own kind cut p ps i (suc k) e))
          (sym (after_one kind cut p ps))
          (ap (λ (l : List Move). slice_get l (suc k)) (sym (moves_own kind cut p ps i e)))
          (stands_from kind until i (step_of kind cut p) cut _ _ _ _ a.count_is a.delays_are
          (stands kind law until ps (step_of kind cut p) i k leads.3 a.sound (omega arith)))
      | inr e ↦
          let c = count_other i p ps e in
          stands_move kind until i cut (moment kind (step_of kind cut p) ps i (suc k))
          (moment kind cut (p ∷ ps) i (suc k))
          (moment kind (step_of kind cut p) ps i (suc (suc k))) (moment kind cut (p ∷ ps) i (suc (suc k)))
          (after_turns kind (step_of kind cut p) ps) (after_turns kind cut (p ∷ ps))
          (slice_get (moves_of kind (step_of kind cut p) ps i) (suc k))
          (slice_get (moves_of kind cut (p ∷ ps) i) (suc k))
          (sym (moment_other kind cut p ps i (suc k) e)) (sym (moment_other kind cut p ps i (suc (suc k)) e))
          (sym (after_one kind cut p ps))
          (ap (λ (l : List Move). slice_get l (suc k)) (sym (moves_other kind cut p ps i e)))
          (stands_from kind until i (step_of kind cut p) cut _ _ _ _ a.count_is a.delays_are
          (stands kind law until ps (step_of kind cut p) i (suc k) leads.3 a.sound (omega arith)))
    ]

-- the clock after k steps is the one of the k-th move
pub way_clock : {C : Type 0} (kind : NodeKind C) → IsLawful kind → (until : ℕ) (ps : List ℕ) (cut : Cut C) (i k : ℕ)
    → Leads kind until cut ps → IsSound kind cut
    → clock_at kind (moment kind cut ps i k) i ≡ clock_after (clock_at kind cut i) (moves_of kind cut ps i) k
way_clock kind law until [] cut i zero leads sound = refl
way_clock kind law until [] cut i (suc k) leads sound = refl
way_clock {C = C} kind law until (p ∷ ps) cut i zero leads sound =
    elim (same_or_apart p i) [
      | inl e ↦ ap (λ (d : Cut C). clock_at kind d i) (moment_first kind cut p ps i e)
      | inr e ↦
          let a = advance kind law cut p leads.0 leads.2 sound in
          ap (λ (d : Cut C). clock_at kind d i) (moment_other kind cut p ps i zero e)
          ∙ way_clock kind law until ps (step_of kind cut p) i zero leads.3 a.sound
          ∙ a.other_clock i (λ t. e (sym t))
    ]
way_clock {C = C} kind law until (p ∷ ps) cut i (suc k) leads sound =
    let a = advance kind law cut p leads.0 leads.2 sound in
    elim (same_or_apart p i) [
      | inl e ↦
          ap (λ (d : Cut C). clock_at kind d i) (moment_own kind cut p ps i k e)
          ∙ way_clock kind law until ps (step_of kind cut p) i k leads.3 a.sound
          ∙ ap (λ (q : ℕ). clock_after (clock_at kind (step_of kind cut q) i)
          (moves_of kind (step_of kind cut p) ps i) k) e
          ∙ ap (λ (l : List Move). clock_after (clock_at kind cut i) l (suc k)) (sym (moves_own kind cut p ps i e))
      | inr e ↦
          ap (λ (d : Cut C). clock_at kind d i) (moment_other kind cut p ps i (suc k) e)
          ∙ way_clock kind law until ps (step_of kind cut p) i (suc k) leads.3 a.sound
          ∙ ap (λ (c : ℕ). clock_after c (moves_of kind (step_of kind cut p) ps i) (suc k))
          (a.other_clock i (λ t. e (sym t)))
          ∙ ap (λ (l : List Move). clock_after (clock_at kind cut i) l (suc k)) (sym (moves_other kind cut p ps i e))
    ]

-- the signals after k steps are the cut's, and then what the first k moves tell
pub way_signals : {C : Type 0} (kind : NodeKind C) → IsLawful kind → (until : ℕ) (ps : List ℕ) (cut : Cut C) (i k : ℕ)
    → Leads kind until cut ps → IsSound kind cut
    → signals_after kind cut ps i k ≡ from i cut.sent ++ told_in (take k (moves_of kind cut ps i))
way_signals kind law until [] cut i zero leads sound = sym (append-nil (from i cut.sent))
way_signals kind law until [] cut i (suc k) leads sound = sym (append-nil (from i cut.sent))
way_signals kind law until (p ∷ ps) cut i zero leads sound =
    (moment_none kind law until (p ∷ ps) cut i leads sound).signals ∙ sym (append-nil (from i cut.sent))
way_signals {C = C} kind law until (p ∷ ps) cut i (suc k) leads sound =
    let a = advance kind law cut p leads.0 leads.2 sound in
    let moves : List Move = moves_of kind (step_of kind cut p) ps i in
    elim (same_or_apart p i) [
      | inl e ↦
          let tells : told_by kind (slice_get cut.consoles i) (due_at kind cut i)
          ≡ (kind.next a.x (due_at kind cut p)).1
          = ap (λ (q : ℕ). told_by kind (slice_get cut.consoles q) (due_at kind cut q)) (sym e)
          ∙ ap (λ (o : Option C). told_by kind o (due_at kind cut p)) a.stands in
          let own : from i (step_of kind cut p).sent
          ≡ from i cut.sent ++ option_to_list (told_by kind (slice_get cut.consoles i) (due_at kind cut i))
          = subst (λ (q : ℕ). from q (step_of kind cut p).sent
          ≡ from q cut.sent ++ option_to_list (kind.next a.x (due_at kind cut p)).1) e a.own_sent
          ∙ ap (λ (o : Option Signal). from i cut.sent ++ option_to_list o) (sym tells) in
          ap (λ (d : Cut C). from i d.sent) (moment_own kind cut p ps i k e)
          ∙ way_signals kind law until ps (step_of kind cut p) i k leads.3 a.sound
          ∙ ap (λ (l : List Signal). l ++ told_in (take k moves)) own
          ∙ append_assoc (from i cut.sent)
          (option_to_list (told_by kind (slice_get cut.consoles i) (due_at kind cut i))) (told_in (take k moves))
          ∙ ap (λ (l : List Move). from i cut.sent ++ told_in (take (suc k) l)) (sym (moves_own kind cut p ps i e))
      | inr e ↦
          ap (λ (d : Cut C). from i d.sent) (moment_other kind cut p ps i (suc k) e)
          ∙ way_signals kind law until ps (step_of kind cut p) i (suc k) leads.3 a.sound
          ∙ ap (λ (l : List Signal). l ++ told_in (take (suc k) moves)) (a.other_sent i (λ t. e (sym t)))
          ∙ ap (λ (l : List Move). from i cut.sent ++ told_in (take (suc k) l)) (sym (moves_other kind cut p ps i e))
    ]

-- a step in its place, by what stands there
way_step : {C : Type 0} (kind : NodeKind C) → IsLawful kind → (until : ℕ) (ps : List ℕ) (cut : Cut C) (i k : ℕ)
    → StandsAt kind until i cut (moment kind cut ps i k) (moment kind cut ps i (suc k)) (after_turns kind cut ps)
    (slice_get (moves_of kind cut ps i) k)
    → IsStep kind cut ps until i k
way_step {C = C} kind law until ps cut i k at =
    let m : Cut C = moment kind cut ps i k in
    let n : Cut C = moment kind cut ps i (suc k) in
    let a = advance kind law m i at.leads.0 at.leads.2 at.sound in
    let later = moment_none kind law until at.rest (step_of kind m i) i at.leads.3 a.sound in
    let stay : slice_get n.consoles i ≡ slice_get (step_of kind m i).consoles i
    = ap (λ (d : Cut C). slice_get d.consoles i) at.next_is ∙ later.console in
    let clock_is = number_same kind.clock n.consoles (step_of kind m i).consoles i stay in
    let was_is = number_same kind.was n.consoles (step_of kind m i).consoles i stay in
    let tells : (kind.next a.x (due_at kind m i)).1 ≡ told_by kind (slice_get m.consoles i) (due_at kind m i)
    = ap (λ (o : Option C). told_by kind o (due_at kind m i)) (sym a.stands) in
    let bears : IfSome (kind.next a.x (due_at kind m i)).1 (λ s. s.clock ≡ clock_at kind m i)
    = subst (λ (c : ℕ). IfSome (kind.next a.x (due_at kind m i)).1 (λ s. s.clock ≡ c)) (sym a.clock_is)
    (law.bears a.x (due_at kind m i)) in
    record {
      move_is = at.move_is;
      early = at.leads.1;
      rises = omega (arith, clock_is, a.own_clock);
      short = omega (arith, clock_is, a.short);
      was_is = was_is ∙ a.own_was;
      bears = subst (λ (o : Option Signal). IfSome o (λ s. s.clock ≡ clock_at kind m i)) tells bears;
      fits = subst (λ (o : Option Signal). IfSome o FitsWidths) tells (law.fits a.x (due_at kind m i));
    }

pub told_in-append : (xs ys : List Move) → told_in (xs ++ ys) ≡ told_in xs ++ told_in ys
told_in-append [] ys = refl
told_in-append (x ∷ xs) ys =
    ap (λ (l : List Signal). option_to_list x.tells ++ l) (told_in-append xs ys)
    ∙ sym (append_assoc (option_to_list x.tells) (told_in xs) (told_in ys))

-- what the first moves tell comes first of all that is told
pub way_first_ones : (moves : List Move) (k : ℕ)
    → told_in (take k moves) ≡ take (told_count moves k) (told_in moves)
way_first_ones moves k =
    let whole : told_in moves ≡ told_in (take k moves) ++ told_in (drop k moves)
    = ap told_in (sym (take-append-drop k moves)) ∙ told_in-append (take k moves) (drop k moves) in
    sym (ap (take (told_count moves k)) whole ∙ take-append_seam (told_in (take k moves)) (told_in (drop k moves)))

pub way_of : {C : Type 0} (kind : NodeKind C) → IsLawful kind → (until : ℕ) (ps : List ℕ) (cut : Cut C) (i : ℕ)
    → Leads kind until cut ps → IsSound kind cut → i < count cut → IsWay kind cut ps until i
way_of kind law until ps cut i leads sound below = record {
  count_is = moves_count kind cut ps i;
  clock_is = λ k. way_clock kind law until ps cut i k leads sound;
  signals_are = λ k. way_signals kind law until ps cut i k leads sound;
  first_ones = way_first_ones (moves_of kind cut ps i);
  steps = λ k less. way_step kind law until ps cut i k (stands kind law until ps cut i k leads sound less);
  goes_on = λ k early. further_step kind law until ps cut i k leads sound below early;
}

pub ways : {C : Type 0} (kind : NodeKind C) → IsLawful kind → (cut : Cut C) (until i : ℕ) → IsCable cut
    → IsSound kind cut → i < count cut → IsWay kind cut (trace kind cut until) until i
ways kind law cut until i cable sound below =
    way_of kind law until (trace kind cut until) cut i
    (trace_leads kind law cut until cable.some_console cable.some_delay sound) sound below

-- the trace's next step, by what is known of the peers
pub turns : {C : Type 0} (kind : NodeKind C) → IsLawful kind
    → (cut : Cut C) (until i k : ℕ) (x : C) (known : ℕ → List Signal) (base : ℕ → ℕ) → IsCable cut → IsSound kind cut
    → Knows kind cut until i k x known base → Turns kind cut until i k x known
turns {C = C} kind law cut until i k x known base cable sound knows =
    let ps : List ℕ = trace kind cut until in
    let leads = trace_leads kind law cut until cable.some_console cable.some_delay sound in
    let m : Cut C = moment kind cut ps i k in
    let clock_is : clock_at kind m i ≡ kind.clock x = number_found kind.clock m.consoles i x knows.stands in
    let early = knows.early in
    let less = further_step kind law until ps cut i k leads sound knows.player (omega arith) in
    let g = goes kind law until ps cut i k leads sound less in
    let at = stands kind law until ps cut i k leads sound less in
    let x_is : Some g.x ≡ Some x = sym g.stands ∙ knows.stands in
    let x_same : g.x ≡ x = cc in
    let all : ℕ → List Signal = λ j. from j (after_turns kind cut ps).sent in
    let whole : due (hop cut) all i (kind.was x) (kind.clock x) (count cut)
    ≡ due (hop cut) known i (kind.was x) (kind.clock x) (count cut)
    = due_of_all (hop cut) known all base i (kind.was x) (kind.clock x) (count cut)
    (λ j below apart. let h = knows.knows j below apart in record { rest = h.rest; all_is = h.all_is; late = h.late })
    knows.ahead in
    let made : kind.next g.x (due (hop cut) all i (kind.was g.x) (kind.clock g.x) (count cut))
    ≡ kind.next x (due (hop cut) known i (kind.was x) (kind.clock x) (count cut))
    = ap (λ (y : C). kind.next y (due (hop cut) all i (kind.was y) (kind.clock y) (count cut))) x_same
    ∙ ap (kind.next x) whole in
    let was_is : was_at kind m i ≡ kind.was x = number_found kind.was m.consoles i x knows.stands in
    let due_is : due_at kind m i ≡ due (hop cut) all i (kind.was x) (kind.clock x) (count cut)
    = sym (due_of_history kind m (after_turns kind m (i ∷ at.rest)) i x clock_is was_is
    (λ j below apart. later_sent kind law until (i ∷ at.rest) m j at.leads at.sound) at.leads.2)
    ∙ ap (λ (d : Cut C). due (hop m) (λ j. from j d.sent) i (kind.was x) (kind.clock x) (count m)) at.end_is
    ∙ ap (λ (h : ℕ → ℕ → ℕ). due h all i (kind.was x) (kind.clock x) (count m)) (hop_same m cut at.delays_are)
    ∙ ap (due (hop cut) all i (kind.was x) (kind.clock x)) at.count_is in
    record {
      goes = less;
      console = g.next_console ∙ ap (λ (o : C × Option Signal). Some o.0) made;
      tells = ap (λ (o : Option C). told_by kind o (due_at kind m i)) knows.stands
          ∙ ap (λ (d : List Incoming). (kind.next x d).1) (due_is ∙ whole);
      signals = g.next_sent
          ∙ ap (λ (o : C × Option Signal). signals_after kind cut ps i k ++ option_to_list o.1) made;
    }
