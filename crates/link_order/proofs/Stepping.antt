-- What a step does to the numbers of a cut.
use Rattle.std.specs.Prelude.{List, [], ◌∷◌, length, map, Some, slice_get, slice_set, slice_index}
use Rattle.std.proofs.Common.{ℕ, zero, suc, ◌≡◌, ◌≢◌, ◌<◌, ◌⊎◌, inl, inr, arith, refl, sym, ap, ◌∙◌, get_or, set}
use Rattle.std.proofs.lemmas.List.{get_or-set_same, get_or-set_other, map-set, length-map}
use Rattle.std.proofs.Math.ListN.{length-set}
use Rattle.link_node.specs.declared.signal.Incoming.{Incoming}
use Rattle.link_order.specs.NodeKind.{NodeKind, IsLawful}
use Rattle.link_order.specs.Cut.{Cut, count, clock_at, was_at}
use Rattle.link_order.specs.GlobalOrder.{step_with, step_from, with_signal}
use Rattle.link_order.proofs.Numbers.{put, put_same, put_other, same_or_apart}

-- the console of a player below the count, with its clocks
pub record IsConsole {C : Type 0} (kind : NodeKind C) (cut : Cut C) (i : ℕ) (x : C) : Type 0 where
  pub stands : slice_get cut.consoles i ≡ Some x
  pub clock_is : clock_at kind cut i ≡ kind.clock x
  pub was_is : was_at kind cut i ≡ kind.was x

found : {C : Type 0} (kind : NodeKind C) (xs : List C) (i : ℕ) → i < length xs
    → (x : C) × (slice_get xs i ≡ Some x) × (slice_index (map kind.clock xs) i ≡ kind.clock x)
    × (slice_index (map kind.was xs) i ≡ kind.was x)
found kind [] i below = absurd (omega arith)
found kind (x ∷ xs) zero below = (x, refl, refl, refl)
found kind (x ∷ xs) (suc i) below = found kind xs i (omega arith)

pub console_at : {C : Type 0} (kind : NodeKind C) (cut : Cut C) (i : ℕ) → i < count cut
    → (x : C) × IsConsole kind cut i x
console_at kind cut i below =
    let f = found kind cut.consoles i below in
    (f.0, record { stands = f.1; clock_is = f.2; was_is = f.3 })

get_or-put : (xs : List ℕ) (i y k : ℕ) → i < length xs → get_or (set xs i y) k 0 ≡ put i y (λ j. get_or xs j 0) k
get_or-put xs i y k below =
    elim (same_or_apart k i) [
      | inl same ↦ rw same (get_or-set_same xs i y 0 below ∙ sym (put_same i y (λ j. get_or xs j 0)))
      | inr apart ↦ get_or-set_other xs i k y 0 apart ∙ sym (put_other i k y (λ j. get_or xs j 0) apart)
    ]

-- the cut after console x of player i has made a step
abbrev pub after_step : {C : Type 0} → NodeKind C → Cut C → ℕ → C → List Incoming → Cut C
after_step kind cut i x signals = record {
  consoles = slice_set cut.consoles i (kind.next x signals).0;
  delays = cut.delays;
  sent = with_signal i (kind.next x signals).1 cut.sent;
}

-- a step of player i, seen by the clocks of all
pub record IsStepped {C : Type 0} (kind : NodeKind C) (cut : Cut C) (i : ℕ) (x : C) (signals : List Incoming) : Type 0
  where
    pub cut_is : step_with kind cut i signals ≡ after_step kind cut i x signals
    pub count_is : count (after_step kind cut i x signals) ≡ count cut
    pub clocks : clock_at kind (after_step kind cut i x signals)
        ≡ put i (kind.clock (kind.next x signals).0) (clock_at kind cut)
    pub wases : was_at kind (after_step kind cut i x signals) ≡ put i (kind.clock x) (was_at kind cut)

pub is_stepped : {C : Type 0} (kind : NodeKind C) → IsLawful kind
    → (cut : Cut C) (i : ℕ) (x : C) (signals : List Incoming)
    → i < count cut → IsConsole kind cut i x → IsStepped kind cut i x signals
is_stepped {C = C} kind law cut i x signals below at =
    let y : C = (kind.next x signals).0 in
    let clocks : (k : ℕ) → get_or (map kind.clock (set cut.consoles i y)) k 0
    ≡ put i (kind.clock y) (clock_at kind cut) k
    = λ k. rw map-set (get_or-put (map kind.clock cut.consoles) i (kind.clock y) k (rw length-map below)) in
    let wases : (k : ℕ) → get_or (map kind.was (set cut.consoles i y)) k 0 ≡ put i (kind.was y) (was_at kind cut) k
    = λ k. rw map-set (get_or-put (map kind.was cut.consoles) i (kind.was y) k (rw length-map below)) in
    record {
      cut_is = ap (step_from kind cut i signals) at.stands;
      count_is = length-set cut.consoles i y;
      clocks = λ t k. (clocks k) t;
      wases = (λ t k. (wases k) t) ∙ ap (λ (w : ℕ). put i w (was_at kind cut)) (law.moves x signals);
    }

-- one place of a function that was changed in one place
pub put_cases : (i y : ℕ) (f g : ℕ → ℕ) → g ≡ put i y f → (k : ℕ) → ((k ≡ i) × (g k ≡ y)) ⊎ ((k ≢ i) × (g k ≡ f k))
put_cases i y f g e k =
    let at_k : g k ≡ put i y f k = ap (λ (h : ℕ → ℕ). h k) e in
    elim (same_or_apart k i) [
      | inl same ↦ inl (same, at_k ∙ ap (put i y f) same ∙ put_same i y f)
      | inr apart ↦ inr (apart, at_k ∙ put_other i k y f apart)
    ]
