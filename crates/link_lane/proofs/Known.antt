-- What a lane knows of a player's signals.
use Rattle.std.specs.Prelude.{List, [], ◌∷◌, ◌++◌, length, take, Some, All, AllPairs, slice_get}
use Rattle.std.proofs.Common.{ℕ, zero, suc, ◌≡◌, ◌<◌, ◌≤◌, arith, refl, sym, ap, ◌∙◌, subst, append_assoc, drop}
use Rattle.std.proofs.lemmas.List.{take_all, take-append-drop}
use Rattle.link_node.specs.declared.signal.Signal.{Signal}
use Rattle.link_order.specs.NodeKind.{NodeKind, IsLawful}
use Rattle.link_order.specs.Order.{from}
use Rattle.link_order.specs.Cut.{Cut, count, IsSound, IsCable}
use Rattle.link_order.specs.GlobalOrder.{trace, run, after_turns}
use Rattle.link_order.specs.Interleaving.{moment, count_of}
use Rattle.link_order.specs.Way.{Move, moves_of, told_in}
use Rattle.link_order.proofs.Lists.{all_nil, all_cons, all_head, all_tail, pairs_nil, pairs_cons, pairs_head, pairs_tail}
use Rattle.link_order.proofs.DueOrder.{from_rises}
use Rattle.link_laws.proofs.History.{trace_leads, moment_all, history_ends}
use Rattle.link_trace.specs.Law.{IsKnown, Rise}
use Rattle.link_trace.proofs.Ways.{moves_count, way_signals}
use Rattle.link_script.specs.Script.{Script, script, now, sent, told, IsSoundScript}
use Rattle.link_script.proofs.Scripts.{signal_late}

all_first : {X : Type 0} (P : X → Type 0) (xs ys : List X) → All P (xs ++ ys) → All P xs
all_first P [] ys h = all_nil P
all_first P (x ∷ xs) ys h =
    all_cons P x xs (all_head P x (xs ++ ys) h) (all_first P xs ys (all_tail P x (xs ++ ys) h))

pairs_first : {X : Type 0} (R : X → X → Type 0) (xs ys : List X) → AllPairs R (xs ++ ys) → AllPairs R xs
pairs_first R [] ys h = pairs_nil R
pairs_first R (x ∷ xs) ys h =
    pairs_cons R x xs (all_first (R x) xs ys (pairs_head R x (xs ++ ys) h))
    (pairs_first R xs ys (pairs_tail R x (xs ++ ys) h))

-- a fact of each element from a place on, and of each before one
pub all_from : {X : Type 0} (P : X → Type 0) (xs : List X) (t : ℕ)
    → ((n : ℕ) (x : X) → slice_get xs n ≡ Some x → t ≤ n → P x) → All P (drop t xs)
all_from P [] zero h = all_nil P
all_from P [] (suc t) h = all_nil P
all_from P (x ∷ xs) zero h =
    all_cons P x xs (h 0 x refl (omega arith)) (all_from P xs zero (λ n y e le. h (suc n) y e (omega arith)))
all_from P (x ∷ xs) (suc t) h = all_from P xs t (λ n y e le. h (suc n) y e (omega arith))

pub all_before : {X : Type 0} (P : X → Type 0) (xs : List X) (t : ℕ)
    → ((n : ℕ) (x : X) → slice_get xs n ≡ Some x → n < t → P x) → All P (take t xs)
all_before P [] zero h = all_nil P
all_before P [] (suc t) h = all_nil P
all_before P (x ∷ xs) zero h = all_nil P
all_before P (x ∷ xs) (suc t) h =
    all_cons P x (take t xs) (h 0 x refl (omega arith)) (all_before P xs t (λ n y e le. h (suc n) y e (omega arith)))

-- all that player j sends to the end
all_sent : {C : Type 0} (kind : NodeKind C) → IsLawful kind → (cut : Cut C) (until j : ℕ) → IsCable cut
    → IsSound kind cut
    → from j (run kind cut until).sent ≡ from j cut.sent ++ told (script kind cut until) j
all_sent {C = C} kind law cut until j cable sound =
    let ps : List ℕ = trace kind cut until in
    let leads = trace_leads kind law cut until cable.some_console cable.some_delay sound in
    let moves : List Move = moves_of kind cut ps j in
    let total : length moves ≡ count_of j ps = moves_count kind cut ps j in
    let end : moment kind cut ps j (length moves) ≡ after_turns kind cut ps
    = moment_all kind ps cut j (length moves) (omega arith) in
    ap (λ (d : Cut C). from j d.sent) (sym end)
    ∙ way_signals kind law until ps cut j (length moves) leads sound
    ∙ ap (λ (l : List Move). from j cut.sent ++ told_in l) (take_all (length moves) moves (omega arith))

-- the first ones of these, and the others
parts : {C : Type 0} (kind : NodeKind C) → IsLawful kind → (cut : Cut C) (until j taken : ℕ) → IsCable cut
    → IsSound kind cut
    → from j (run kind cut until).sent
    ≡ (from j cut.sent ++ take taken (told (script kind cut until) j)) ++ drop taken (told (script kind cut until) j)
parts kind law cut until j taken cable sound =
    let all : List Signal = told (script kind cut until) j in
    all_sent kind law cut until j cable sound
    ∙ ap (λ (l : List Signal). from j cut.sent ++ l) (sym (take-append-drop taken all))
    ∙ sym (append_assoc (from j cut.sent) (take taken all) (drop taken all))

-- what is known rises
pub known_rises : {C : Type 0} (kind : NodeKind C) → IsLawful kind → (cut : Cut C) (until : ℕ) (taken : ℕ → ℕ)
    → IsCable cut → IsSound kind cut
    → Rise (λ j. from j cut.sent ++ take (taken j) (told (script kind cut until) j))
known_rises kind law cut until taken cable sound j =
    let ps : List ℕ = trace kind cut until in
    let R : Signal → Signal → Type 0 = λ (a b : Signal). a.clock < b.clock in
    let leads = trace_leads kind law cut until cable.some_console cable.some_delay sound in
    let ends = history_ends kind law until ps cut leads sound in
    let ordered : AllPairs R (from j (run kind cut until).sent)
    = from_rises j (after_turns kind cut ps).sent ends.sound.ordered in
    pairs_first R (from j cut.sent ++ take (taken j) (told (script kind cut until) j))
    (drop (taken j) (told (script kind cut until) j))
    (subst (AllPairs R) (parts kind law cut until j (taken j) cable sound) ordered)

-- what is known by a clock, where all that was sent in the steps before it is fetched
pub known_by : {C : Type 0} (kind : NodeKind C) → IsLawful kind → (cut : Cut C) (until j base taken at : ℕ)
    → IsCable cut → IsSound kind cut → IsSoundScript (script kind cut until) → j < count cut
    → base ≡ now (script kind cut until) j at → sent (script kind cut until) j at ≤ taken
    → IsKnown kind cut until j base (from j cut.sent ++ take taken (told (script kind cut until) j))
known_by kind law cut until j base taken at cable sound plain below base_is all_taken =
    let s : Script = script kind cut until in
    record {
      rest = drop taken (told s j);
      all_is = parts kind law cut until j taken cable sound;
      late = all_from (λ (x : Signal). base ≤ x.clock) (told s j) taken (λ n x e past.
          let late : now s j at ≤ x.clock = signal_late s plain j n at x below e (omega arith) in
          omega arith);
    }
