-- One step of a console that is ahead of no peer's horizon, seen by each console and its signals.
use Rattle.std.specs.Prelude.{Bool, false, List, [], ◌∷◌, ◌++◌, length, map, All, Option, None, Some, IfSome, slice_get}
use Rattle.std.specs.Prelude.{slice_index, option_to_list}
use Rattle.std.proofs.Common.{ℕ, zero, suc, ◌≡◌, ◌≢◌, ◌+◌, ◌<◌, ◌≤◌, inl, inr, arith, refl, sym, ap, ◌∙◌, subst, set}
use Rattle.std.proofs.lemmas.Bool.Decides.{nat_tests}
use Rattle.std.proofs.lemmas.List.{append-nil}
use Rattle.link_node.specs.declared.signal.Incoming.{Incoming}
use Rattle.link_node.specs.declared.signal.Signal.{Signal}
use Rattle.link_order.specs.declared.sent.Sent.{Sent}
use Rattle.link_order.specs.NodeKind.{NodeKind, IsLawful}
use Rattle.link_order.specs.Order.{from, IsOrdered}
use Rattle.link_order.specs.Due.{is_due, arriving, due}
use Rattle.link_order.specs.Cut.{Cut, hop, count, clock_at, was_at, IsSound, IsSoundSignal}
use Rattle.link_order.specs.GlobalOrder.{with_signal, step_of, due_at}
use Rattle.link_order.proofs.Lists.{all_nil, all_cons, all_map}
use Rattle.link_order.proofs.Senders.{OwnBelow, from-place_own, from-place_other}
use Rattle.link_order.proofs.DueSignals.{arriving_none, arriving-append, due_same}
use Rattle.link_order.proofs.Stepping.{console_at, after_step, is_stepped, put_cases}
use Rattle.link_order.proofs.Sound.{sound_after_step}

-- console i may step: each peer's present clock is so far that nothing that it still sends can be due
abbrev pub Ahead : {C : Type 0} → NodeKind C → Cut C → ℕ → Type 0
Ahead kind cut i = (j : ℕ) → j < count cut → j ≢ i → clock_at kind cut i < clock_at kind cut j + hop cut j i

get_set_same : {X : Type 0} (xs : List X) (i : ℕ) (y : X) → i < length xs → slice_get (set xs i y) i ≡ Some y
get_set_same [] i y below = absurd (omega arith)
get_set_same (x ∷ xs) zero y below = refl
get_set_same (x ∷ xs) (suc i) y below = get_set_same xs i y (omega arith)

get_set_other : {X : Type 0} (xs : List X) (i j : ℕ) (y : X) → j ≢ i → slice_get (set xs i y) j ≡ slice_get xs j
get_set_other [] i j y apart = refl
get_set_other (x ∷ xs) zero zero y apart = absurd (apart refl)
get_set_other (x ∷ xs) zero (suc j) y apart = refl
get_set_other (x ∷ xs) (suc i) zero y apart = refl
get_set_other (x ∷ xs) (suc i) (suc j) y apart = get_set_other xs i j y (omega arith)

-- the numbers of a console go by the console alone
abbrev number_in : {C : Type 0} → (C → ℕ) → Option C → ℕ
number_in f None = 0
number_in f (Some x) = f x

number_of : {C : Type 0} (f : C → ℕ) (xs : List C) (i : ℕ) → slice_index (map f xs) i ≡ number_in f (slice_get xs i)
number_of f [] i = refl
number_of f (x ∷ xs) zero = refl
number_of f (x ∷ xs) (suc i) = number_of f xs i

pub number_same : {C : Type 0} (f : C → ℕ) (xs ys : List C) (i : ℕ) → slice_get xs i ≡ slice_get ys i
    → slice_index (map f xs) i ≡ slice_index (map f ys) i
number_same f xs ys i same = number_of f xs i ∙ ap (number_in f) same ∙ sym (number_of f ys i)

pub number_found : {C : Type 0} (f : C → ℕ) (xs : List C) (i : ℕ) (x : C) → slice_get xs i ≡ Some x
    → slice_index (map f xs) i ≡ f x
number_found f [] i x e = let g : None ≡ Some x = e in cc
number_found f (y ∷ ys) zero x e = let g : Some y ≡ Some x = e in let h : y ≡ x = cc in ap f h
number_found f (y ∷ ys) (suc i) x e = number_found f ys i x e

joined_own : (i clock : ℕ) (o : Option Signal) (sent : List Sent) → IfSome o (λ s. s.clock ≡ clock)
    → All (OwnBelow i clock) sent → IsOrdered sent → from i (with_signal i o sent) ≡ from i sent ++ option_to_list o
joined_own i clock None sent bears own ordered = sym (append-nil (from i sent))
joined_own i clock (Some s) sent bears own ordered =
    from-place_own (record {
      sender = i;
      signal =
          s;
    }) sent ordered (subst (λ (m : ℕ). All (OwnBelow i m) sent) (sym bears) own)

joined_other : (i j : ℕ) (o : Option Signal) (sent : List Sent) → j ≢ i → from j (with_signal i o sent) ≡ from j sent
joined_other i j None sent apart = refl
joined_other i j (Some s) sent apart = from-place_other j (record { sender = i; signal = s }) sent (λ e. apart (sym e))

told_clock : (clock : ℕ) (o : Option Signal) → IfSome o (λ s. s.clock ≡ clock)
    → All (λ (s : Signal). s.clock ≡ clock) (option_to_list o)
told_clock clock None bears = all_nil (λ (s : Signal). s.clock ≡ clock)
told_clock clock (Some s) bears =
    all_cons (λ (t : Signal). t.clock ≡ clock) s [] bears (all_nil (λ (t : Signal). t.clock ≡ clock))

-- a step of console i with what is due
pub record Advanced {C : Type 0} (kind : NodeKind C) (cut : Cut C) (i : ℕ) : Type 0 where
  pub x : C
  pub stands : slice_get cut.consoles i ≡ Some x
  pub clock_is : clock_at kind cut i ≡ kind.clock x
  pub was_is : was_at kind cut i ≡ kind.was x
  pub count_is : count (step_of kind cut i) ≡ count cut
  pub delays_are : (step_of kind cut i).delays ≡ cut.delays
  pub sound : IsSound kind (step_of kind cut i)
  pub own_console : slice_get (step_of kind cut i).consoles i ≡ Some (kind.next x (due_at kind cut i)).0
  pub other_console : (j : ℕ) → j ≢ i → slice_get (step_of kind cut i).consoles j ≡ slice_get cut.consoles j
  pub own_sent : from i (step_of kind cut i).sent ≡ from i cut.sent
      ++ option_to_list (kind.next x (due_at kind cut i)).1
  pub other_sent : (j : ℕ) → j ≢ i → from j (step_of kind cut i).sent ≡ from j cut.sent
  pub told : All (λ (s : Signal). s.clock ≡ clock_at kind cut i) (option_to_list (kind.next x (due_at kind cut i)).1)
  pub own_clock : clock_at kind cut i < clock_at kind (step_of kind cut i) i
  pub short : clock_at kind (step_of kind cut i) i ≤ clock_at kind cut i + 512
  pub other_clock : (j : ℕ) → j ≢ i → clock_at kind (step_of kind cut i) j ≡ clock_at kind cut j
  pub own_was : was_at kind (step_of kind cut i) i ≡ clock_at kind cut i
  pub other_was : (j : ℕ) → j ≢ i → was_at kind (step_of kind cut i) j ≡ was_at kind cut j

pub advance : {C : Type 0} (kind : NodeKind C) → IsLawful kind → (cut : Cut C) (i : ℕ) → i < count cut
    → Ahead kind cut i
    → IsSound kind cut → Advanced kind cut i
advance {C = C} kind law cut i below ahead sound =
    let at = console_at kind cut i below in
    let x : C = at.0 in
    let signals : List Incoming = due_at kind cut i in
    let s = is_stepped kind law cut i x signals below at.1 in
    let d : Cut C = after_step kind cut i x signals in
    let is : step_of kind cut i ≡ d = s.cut_is in
    let own = at.1.clock_is in
    let clock_cases = put_cases i (kind.clock (kind.next x signals).0) (clock_at kind cut) (clock_at kind d) s.clocks in
    let was_cases = put_cases i (kind.clock x) (was_at kind cut) (was_at kind d) s.wases in
    let rises = law.rises x signals in
    let short = law.short x signals in
    let to_clock : (k : ℕ) → clock_at kind (step_of kind cut i) k ≡ clock_at kind d k =
    λ k. ap (λ (e : Cut C). clock_at kind e k) is in
    let to_was : (k : ℕ) → was_at kind (step_of kind cut i) k ≡ was_at kind d k =
    λ k. ap (λ (e : Cut C). was_at kind e k) is in
    let bears : IfSome (kind.next x signals).1 (λ t. t.clock ≡ clock_at kind cut i)
    = subst (λ (m : ℕ). IfSome (kind.next x signals).1 (λ t. t.clock ≡ m)) (sym own) (law.bears x signals) in
    let own_below : All (OwnBelow i (clock_at kind cut i)) cut.sent
    = all_map (IsSoundSignal kind cut) (OwnBelow i (clock_at kind cut i)) cut.sent
    (λ one h e. let f = ap (clock_at kind cut) e in omega (arith, h.sent_before, f)) sound.signals in
    record {
      x = x;
      stands = at.1.stands;
      clock_is = own;
      was_is = at.1.was_is;
      count_is = ap count is ∙ s.count_is;
      delays_are = ap (λ (e : Cut C). e.delays) is;
      sound = subst (IsSound kind) (sym is) (sound_after_step kind law cut i x signals below at.1 ahead sound);
      own_console = ap (λ (e : Cut C). slice_get e.consoles i) is
          ∙ get_set_same cut.consoles i (kind.next x signals).0 below;
      other_console = λ j apart. ap (λ (e : Cut C). slice_get e.consoles j) is
          ∙ get_set_other cut.consoles i j (kind.next x signals).0 apart;
      own_sent = ap (λ (e : Cut C). from i e.sent) is
          ∙ joined_own i (clock_at kind cut i) (kind.next x signals).1 cut.sent bears own_below sound.ordered;
      other_sent = λ j apart. ap (λ (e : Cut C). from j e.sent) is
          ∙ joined_other i j (kind.next x signals).1 cut.sent apart;
      told = told_clock (clock_at kind cut i) (kind.next x signals).1 bears;
      own_clock = elim (clock_cases i)
          [ inl f ↦ omega (arith, f.1, to_clock i, own, rises) | inr f ↦ absurd (f.0 refl) ];
      short = elim (clock_cases i) [ inl f ↦ omega (arith, f.1, to_clock i, own, short) | inr f ↦ absurd (f.0 refl) ];
      other_clock = λ j apart. elim (clock_cases j) [ inl f ↦ absurd (apart f.0) | inr f ↦ to_clock j ∙ f.1 ];
      own_was = elim (was_cases i) [ inl f ↦ to_was i ∙ f.1 ∙ sym own | inr f ↦ absurd (f.0 refl) ];
      other_was = λ j apart. elim (was_cases j) [ inl f ↦ absurd (apart f.0) | inr f ↦ to_was j ∙ f.1 ];
    }

-- signals after the known ones, each sent at this clock or later
pub record Later (clock : ℕ) (known all : List Signal) : Type 0 where
  pub rest : List Signal
  pub all_is : all ≡ known ++ rest
  pub late : All (λ (s : Signal). clock ≤ s.clock) rest

-- what is sent from now on is due to no step that may be made now
pub due_of_all : (between : ℕ → ℕ → ℕ) (known all : ℕ → List Signal) (clocks : ℕ → ℕ) (i was clock n : ℕ)
    → ((j : ℕ) → j < n → j ≢ i → Later (clocks j) (known j) (all j))
    → ((j : ℕ) → j < n → j ≢ i → clock < clocks j + between j i)
    → due between all i was clock n ≡ due between known i was clock n
due_of_all between known all clocks i was clock n later ahead =
    due_same between all known i (is_due was clock) n (λ j below apart.
    let l = later j below apart in
    let far = ahead j below apart in
    let passes : ℕ → Bool = is_due was clock in
    ap (arriving passes (between j i) j) l.all_is
    ∙ arriving-append passes (between j i) j (known j) l.rest
    ∙ ap (λ (t : List Incoming). arriving passes (between j i) j (known j) ++ t)
    (arriving_none passes (between j i) j l.rest
    (all_map (λ (s : Signal). clocks j ≤ s.clock) (λ (s : Signal). passes (s.clock + between j i) ≡ false) l.rest
    (λ s h. late_is_not_due was clock (s.clock + between j i) (omega arith)) l.late))
    ∙ append-nil (arriving passes (between j i) j (known j)))
  where
    late_is_not_due : (w c a : ℕ) → c < a → is_due w c a ≡ false
    late_is_not_due w c a h = grind (arith, nat_tests)
