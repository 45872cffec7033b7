-- Consoles that all stand at clock 0, with nothing sent, make a sound cut in time.
use Rattle.std.specs.Prelude.{List, [], ◌∷◌, length, map, All, slice_index}
use Rattle.std.proofs.Common.{ℕ, zero, suc, ◌≡◌, ◌<◌, arith, refl, sym, get_or}
use Rattle.link_order.specs.NodeKind.{NodeKind}
use Rattle.link_order.specs.Order.{sender_of, clock_of}
use Rattle.link_node.specs.declared.delays.Delays.{Delays}
use Rattle.link_order.specs.Cut.{Cut, IsSound, IsSoundSignal, IsFresh, IsInTime, HasDelays, opening}
use Rattle.link_order.proofs.Lists.{all_nil, all_cons, all_head, all_tail, pairs_nil}
use Rattle.link_order.proofs.Places.{Comes}

fresh_clock : {C : Type 0} (kind : NodeKind C) (xs : List C)
    → ((k : ℕ) (d : C) → k < length xs → IsFresh kind (get_or xs k d))
    → (i : ℕ) → (slice_index (map kind.clock xs) i ≡ 0) × (slice_index (map kind.was xs) i ≡ 0)
fresh_clock kind [] h i = (refl, refl)
fresh_clock kind (x ∷ xs) h zero = let f = h 0 x (omega arith) in (f.clock_is, f.was_is)
fresh_clock kind (x ∷ xs) h (suc i) = fresh_clock kind xs (λ k d below. h (suc k) d (omega arith)) i

pub sound_start : {C : Type 0} (kind : NodeKind C) (consoles : List C) (delays : Delays) → All (IsFresh kind) consoles
    → IsSound kind (opening consoles delays)
sound_start {C = C} kind consoles delays fresh =
    let cut : Cut C = opening consoles delays in
    let f = fresh_clock kind consoles fresh in
    record {
      near = λ i j a b apart. omega (arith, (f i).0, (f j).0);
      begun = λ i a. omega (arith, (f i).0, (f i).1);
      short = λ i a. omega (arith, (f i).0, (f i).1);
      signals = all_nil (IsSoundSignal kind cut);
      ordered = pairs_nil (Comes clock_of sender_of);
    }

pub in_time_start : {C : Type 0} (kind : NodeKind C) (consoles : List C) (delays : Delays)
    → HasDelays (opening consoles delays) → All (IsFresh kind) consoles → IsInTime kind (opening consoles delays)
in_time_start kind consoles delays later fresh i j a b apart =
    let f = fresh_clock kind consoles fresh in
    omega (arith, (f i).1, (f j).0, later j i b a (λ t. apart (sym t)))

pub fresh_map : {N C : Type 0} (kind : NodeKind C) (plain : N → C) (xs : List N)
    → All (λ n. (kind.clock (plain n) ≡ 0) × (kind.was (plain n) ≡ 0)) xs → All (IsFresh kind) (map plain xs)
fresh_map kind plain [] h = all_nil (IsFresh kind)
fresh_map {N = N} kind plain (x ∷ xs) h =
    let P : N → Type 0 = λ (n : N). (kind.clock (plain n) ≡ 0) × (kind.was (plain n) ≡ 0) in
    let f = all_head P x xs h in
    all_cons (IsFresh kind) (plain x) (map plain xs) (record { clock_is = f.0; was_is = f.1 })
    (fresh_map kind plain xs (all_tail P x xs h))
