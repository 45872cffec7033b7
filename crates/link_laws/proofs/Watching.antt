-- What holds of consoles that step by what they have seen, whatever the order.
use Rattle.std.specs.Prelude.{true, false, List, [], ◌++◌, option_to_list, ◌==◌, ◌&&◌, if◌then◌else◌}
use Rattle.std.proofs.Common.{ℕ, ◌≡◌, ◌≢◌, ◌+◌, ◌<◌, ◌≤◌, ◌⊎◌, inl, inr, arith, refl, sym, ap, ◌∙◌, subst, append_assoc}
use Rattle.std.proofs.lemmas.Bool.Decides.{nat_tests}
use Rattle.std.proofs.lemmas.List.{append-nil}
use Rattle.std.proofs.lemmas.List.Elements.{All-append}
use Rattle.link_node.specs.declared.signal.Signal.{Signal}
use Rattle.link_order.specs.NodeKind.{NodeKind, IsLawful}
use Rattle.link_order.specs.Order.{from}
use Rattle.link_order.specs.Cut.{Cut, hop, count, clock_at, was_at, IsSound}
use Rattle.link_order.specs.GlobalOrder.{step_with, step_of, due_at}
use Rattle.link_order.specs.Interleaving.{Watched, first_watch, Action, Look, Step, update, due_seen, happens, MayStepHere}
use Rattle.link_order.specs.Interleaving.{May}
use Rattle.link_order.proofs.Numbers.{same_or_apart}
use Rattle.link_order.proofs.Lists.{all_nil, all_map}
use Rattle.link_order.proofs.Hops.{hop_same}
use Rattle.link_laws.proofs.Advance.{Ahead, advance, Later, due_of_all}

-- a place that a look changed, or didn't
pub changed_cases : {A : Type 0} (i j : ℕ) (y : A) (f : ℕ → ℕ → A) (a b : ℕ)
    → ((a ≡ i) × (b ≡ j) × (update i j y f a b ≡ y)) ⊎ (update i j y f a b ≡ f a b)
changed_cases i j y f a b =
    elim (same_or_apart a i) [
      | inl p ↦ elim (same_or_apart b j) [
        | inl q ↦
            let t : ((a == i) && (b == j)) ≡ true = grind (arith, nat_tests) in
            inl (p, q, ap (λ c. if c then y else f a b) t)
        | inr q ↦
            let t : ((a == i) && (b == j)) ≡ false = grind (arith, nat_tests) in
            inr (ap (λ c. if c then y else f a b) t)
      ]
      | inr p ↦
          let t : ((a == i) && (b == j)) ≡ false = grind (arith, nat_tests) in
          inr (ap (λ c. if c then y else f a b) t)
    ]

pub looked : {A : Type 0} (a b : ℕ) (y : A) (f : ℕ → ℕ → A) → update a b y f a b ≡ y
looked a b y f =
    let t : ((a == a) && (b == b)) ≡ true = grind (arith, nat_tests) in ap (λ c. if c then y else f a b) t

-- what each console has seen lies behind, and what it hasn't seen was sent at the seen clock or later
pub record Watching {C : Type 0} (kind : NodeKind C) (cut : Cut C) (w : Watched C) : Type 0 where
  pub count_is : count w.cut ≡ count cut
  pub delays_are : w.cut.delays ≡ cut.delays
  pub sound : IsSound kind w.cut
  pub behind : (i j : ℕ) → j < count w.cut → w.seen i j ≤ clock_at kind w.cut j
  pub known : (i j : ℕ) → j < count w.cut → Later (w.seen i j) (w.got i j) (from j w.cut.sent)
  pub close : (i j : ℕ) → i < count w.cut → j < count w.cut → i ≢ j
      → clock_at kind w.cut i < w.seen i j + hop w.cut j i + 512

-- each console's last step began before what it has seen of its peers could be exceeded
abbrev pub HearsInTime : {C : Type 0} → NodeKind C → Watched C → Type 0
HearsInTime kind w = (i j : ℕ) → i < count w.cut → j < count w.cut → i ≢ j
    → was_at kind w.cut i < w.seen i j + hop w.cut j i

all_known : (clock : ℕ) (xs : List Signal) → Later clock xs xs
all_known clock xs = record {
  rest = [];
  all_is = sym (append-nil xs);
  late =
      all_nil (λ (s : Signal). clock ≤ s.clock);
}

pub watching_opened : {C : Type 0} (kind : NodeKind C) (cut : Cut C) → IsSound kind cut
    → Watching kind cut (first_watch kind cut)
watching_opened kind cut sound = record {
  count_is = refl;
  delays_are = refl;
  sound = sound;
  behind = λ i j below. omega arith;
  known = λ i j below. all_known (clock_at kind cut j) (from j cut.sent);
  close = λ i j a b apart. sound.near i j a b apart;
}

-- a console that may step by what it has seen is ahead of no horizon
pub may_ahead : {C : Type 0} (kind : NodeKind C) (cut : Cut C) (until : ℕ) (w : Watched C) (i : ℕ) → Watching kind cut w
    → MayStepHere kind until w i → Ahead kind w.cut i
may_ahead kind cut until w i watch may j below apart = omega (arith, may.ahead j below apart, watch.behind i j below)

-- and what it has seen is all that is due to it
pub may_due : {C : Type 0} (kind : NodeKind C) (cut : Cut C) (until : ℕ) (w : Watched C) (i : ℕ) → Watching kind cut w
    → MayStepHere kind until w i
    → step_with kind w.cut i (due_seen kind w i) ≡ step_of kind w.cut i
may_due kind cut until w i watch may =
    ap (step_with kind w.cut i) (sym (due_of_all (hop w.cut) (w.got i) (λ j. from j w.cut.sent) (w.seen i) i
    (was_at kind w.cut i) (clock_at kind w.cut i) (count w.cut)
    (λ j below apart. watch.known i j below) may.ahead))

pub watching_look : {C : Type 0} (kind : NodeKind C) (cut : Cut C) (w : Watched C) (i j : ℕ) → Watching kind cut w
    → Watching kind cut (happens kind (Look i j) w)
watching_look kind cut w i j watch = record {
  count_is = watch.count_is;
  delays_are = watch.delays_are;
  sound = watch.sound;
  behind = λ a b below. elim (changed_cases i j (clock_at kind w.cut j) w.seen a b) [
    | inl e ↦ let f = ap (clock_at kind w.cut) e.1 in omega (arith, e.2, f)
    | inr e ↦ omega (arith, e, watch.behind a b below)
  ];
  known = λ a b below. elim (changed_cases i j (clock_at kind w.cut j) w.seen a b) [
    | inl e ↦
        let got : update i j (from j w.cut.sent) w.got a b ≡ from b w.cut.sent
        = rw (e.0, e.1) (looked i j (from j w.cut.sent) w.got) in
        subst (λ (z : List Signal). Later (update i j (clock_at kind w.cut j) w.seen a b) z (from b w.cut.sent))
        (sym got)
        (all_known (update i j (clock_at kind w.cut j) w.seen a b) (from b w.cut.sent))
    | inr e ↦ elim (changed_cases i j (from j w.cut.sent) w.got a b) [
      | inl g ↦
          let got : update i j (from j w.cut.sent) w.got a b ≡ from b w.cut.sent = g.2
          ∙ ap (λ (k : ℕ). from k w.cut.sent) (sym g.1) in
          subst (λ (z : List Signal). Later (update i j (clock_at kind w.cut j) w.seen a b) z (from b w.cut.sent))
          (sym got)
          (all_known (update i j (clock_at kind w.cut j) w.seen a b) (from b w.cut.sent))
      | inr g ↦
          subst (λ (n : ℕ). Later n (update i j (from j w.cut.sent) w.got a b) (from b w.cut.sent)) (sym e)
          (subst (λ (z : List Signal). Later (w.seen a b) z (from b w.cut.sent)) (sym g) (watch.known a b below))
    ]
  ];
  close = λ a b la lb apart. elim (changed_cases i j (clock_at kind w.cut j) w.seen a b) [
    | inl e ↦
        let f = ap (clock_at kind w.cut) e.1 in
        omega (arith, e.2, f, watch.close a b la lb apart, watch.behind a b lb)
    | inr e ↦ omega (arith, e, watch.close a b la lb apart)
  ];
}

pub watching_step : {C : Type 0} (kind : NodeKind C) → IsLawful kind → (cut : Cut C) (until : ℕ) (w : Watched C) (i : ℕ)
    → Watching kind cut w → MayStepHere kind until w i
    → Watching kind cut (record { cut = step_of kind w.cut i; seen = w.seen; got = w.got })
watching_step {C = C} kind law cut until w i watch may =
    let a = advance kind law w.cut i may.player (may_ahead kind cut until w i watch may) watch.sound in
    let down : (k : ℕ) → k < count (step_of kind w.cut i) → k < count w.cut =
    λ k h. subst (λ (n : ℕ). k < n) a.count_is h in
    let later : (k : ℕ) → clock_at kind w.cut k ≤ clock_at kind (step_of kind w.cut i) k
    = λ k. elim (same_or_apart k i) [
      | inl e ↦ let f = ap (clock_at kind w.cut) e in let g = ap (clock_at kind (step_of kind w.cut i)) e in
          omega (arith, f, g, a.own_clock)
      | inr e ↦ omega (arith, a.other_clock k e)
    ] in
    let hops : (m n : ℕ) → hop (step_of kind w.cut i) m n ≡ hop w.cut m n
    = λ m n. ap (λ (f : ℕ → ℕ → ℕ). f m n) (hop_same (step_of kind w.cut i) w.cut a.delays_are) in
    record {
      count_is = a.count_is ∙ watch.count_is;
      delays_are = a.delays_are ∙ watch.delays_are;
      sound = a.sound;
      behind = λ m j below. omega (arith, later j, watch.behind m j (down j below));
      known = λ m j below.
          let k = watch.known m j (down j below) in
          elim (same_or_apart j i) [
            | inl e ↦
                let new : List Signal = option_to_list (kind.next a.x (due_at kind w.cut i)).1 in
                let sent : from j (step_of kind w.cut i).sent ≡ from j w.cut.sent ++ new = rw e a.own_sent in
                let c : clock_at kind w.cut j ≡ clock_at kind w.cut i = ap (clock_at kind w.cut) e in
                let b = watch.behind m j (down j below) in
                record {
                  rest = k.rest ++ new;
                  all_is = sent ∙ ap (λ (z : List Signal). z ++ new) k.all_is ∙ append_assoc (w.got m j) k.rest new;
                  late = All-append (λ (s : Signal). w.seen m j ≤ s.clock) k.rest new k.late
                      (all_map (λ (s : Signal). s.clock ≡ clock_at kind w.cut i)
                      (λ (s : Signal). w.seen m j ≤ s.clock) new (λ s h. omega arith) a.told);
                }
            | inr e ↦ record { rest = k.rest; all_is = a.other_sent j e ∙ k.all_is; late = k.late }
          ];
      close = λ m j lm lj apart.
          let c = watch.close m j (down m lm) (down j lj) apart in
          let h = hops j m in
          elim (same_or_apart m i) [
            | inl e ↦
                let f = ap (clock_at kind (step_of kind w.cut i)) e in
                let s : w.seen i j ≡ w.seen m j = ap (λ (n : ℕ). w.seen n j) (sym e) in
                let g : hop w.cut j i ≡ hop w.cut j m = ap (hop w.cut j) (sym e) in
                omega (arith, f, a.short, may.ahead j (down j lj) (λ t. apart (e ∙ sym t)), s, g, h)
            | inr e ↦ omega (arith, a.other_clock m e, c, h)
          ];
    }

-- both actions keep it
pub watching_happens : {C : Type 0} (kind : NodeKind C) → IsLawful kind
    → (cut : Cut C) (until : ℕ) (act : Action) (w : Watched C)
    → Watching kind cut w → May kind until w act → Watching kind cut (happens kind act w)
watching_happens kind law cut until (Look i j) w watch may = watching_look kind cut w i j watch
watching_happens {C = C} kind law cut until (Step i) w watch may =
    subst (λ (d : Cut C). Watching kind cut (record { cut = d; seen = w.seen; got = w.got }))
    (sym (may_due kind cut until w i watch may))
    (watching_step kind law cut until w i watch may)
