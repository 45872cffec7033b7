-- What each step of a console keeps, a run keeps: for proofs of other crates too, by the law of `steps`.
use Rattle.std.specs.List.{AllZip}
use Rattle.std.specs.Prelude.{List, [], ◌∷◌, length, Some, slice_get}
use Rattle.std.proofs.Common.{ℕ, zero, suc, ◌≡◌, arith, refl, ◌∙◌, subst}
use Rattle.std.proofs.lemmas.Slice.Zip.{AllZip-long}
use Rattle.link_node.specs.declared.signal.Incoming.{Incoming}
use Rattle.link_order.specs.NodeKind.{NodeKind}
use Rattle.link_order.specs.Cut.{Cut, IsCable, IsSound}
use Rattle.link_order.specs.GlobalOrder.{run}
use Rattle.link_cut_laws.specs.Law.{ComesBySteps}
use Rattle.link_cut_laws.specs.Steps.{MayTurn, StepsTo, Stays, Steps}
use Rattle.link_cut_laws.proofs.Turning.{runs-cable}

-- ---- what holds of each console

-- what holds of each console of a sound cut on its cable, and of each console after a step if it did before
pub record KeptInSteps {C : Type 0} (kind : NodeKind C) (cut : Cut C) (until : ℕ) (holds : ℕ → C → Type 0) : Type 0
  where
    pub cable : IsCable cut
    pub sound : IsSound kind cut
    pub begins : (i : ℕ) (x : C) → slice_get cut.consoles i ≡ Some x → holds i x
    pub steps : (i : ℕ) (x : C) (dues : List Incoming) → MayTurn kind until x dues → holds i x
        → holds i (kind.next x dues).0

-- along the steps of one console
pub steps-keep : {C : Type 0} (kind : NodeKind C) (until : ℕ) (holds : C → Type 0)
    → ((x : C) (dues : List Incoming) → MayTurn kind until x dues → holds x → holds (kind.next x dues).0)
    → (x : C) → holds x → {y : C} → StepsTo kind until x y → holds y
steps-keep kind until holds keeps x here Stays = here
steps-keep kind until holds keeps x here (Steps y dues before may) =
    keeps y dues may (steps-keep kind until holds keeps x here before)

-- it holds of each console that a run leaves
pub runs-keep : {C : Type 0} (kind : NodeKind C) → ComesBySteps kind
    → (cut : Cut C) (until : ℕ) (holds : ℕ → C → Type 0) → KeptInSteps kind cut until holds
    → (i : ℕ) (y : C) → slice_get (run kind cut until).consoles i ≡ Some y → holds i y
runs-keep kind comes cut until holds kept i y there =
    let come = comes cut until i y kept.cable kept.sound there in
    steps-keep kind until (holds i) (kept.steps i) come.start (kept.begins i come.start come.stands) come.steps

-- ---- what holds of each console beside something else, as the one that it was at the start

beside-at : {S C : Type 0} (fits : S → C → Type 0) (ss : List S) (xs : List C) (i : ℕ) (s : S) (x : C)
    → AllZip fits ss xs → slice_get ss i ≡ Some s → slice_get xs i ≡ Some x → fits s x
beside-at fits [] xs i s x all one other = absurd cc
beside-at fits (r ∷ ss) [] i s x all one other = absurd all
beside-at {S = S} fits (r ∷ ss) (y ∷ xs) zero s x all one other =
    let same : r ≡ s = cc in
    let here : y ≡ x = cc in
    subst (λ (z : S). fits z x) same (subst (fits r) here all.0)
beside-at fits (r ∷ ss) (y ∷ xs) (suc i) s x all one other = beside-at fits ss xs i s x all.1 one other

beside-each : {S C : Type 0} (fits : S → C → Type 0) (ss : List S) (xs : List C) → length xs ≡ length ss
    → ((i : ℕ) (s : S) (x : C) → slice_get ss i ≡ Some s → slice_get xs i ≡ Some x → fits s x) → AllZip fits ss xs
beside-each fits [] [] many each = tt
beside-each fits [] (x ∷ xs) many each = absurd (omega (arith, many))
beside-each fits (s ∷ ss) [] many each = absurd (omega (arith, many))
beside-each fits (s ∷ ss) (x ∷ xs) many each =
    (each 0 s x refl refl, beside-each fits ss xs (omega (arith, many)) (λ i. each (suc i)))

-- the same of two lists, place by place
pub record KeptBeside {S C : Type 0} (kind : NodeKind C) (cut : Cut C) (until : ℕ) (fits : S → C → Type 0) (ss : List S)
    : Type 0
  where
    pub cable : IsCable cut
    pub sound : IsSound kind cut
    pub begins : AllZip fits ss cut.consoles
    pub steps : (s : S) (x : C) (dues : List Incoming) → MayTurn kind until x dues → fits s x
        → fits s (kind.next x dues).0

pub runs-keep-beside : {S C : Type 0} (kind : NodeKind C) → ComesBySteps kind
    → (cut : Cut C) (until : ℕ) (fits : S → C → Type 0) (ss : List S) → KeptBeside kind cut until fits ss
    → AllZip fits ss (run kind cut until).consoles
runs-keep-beside {S = S} {C = C} kind comes cut until fits ss kept =
    let holds : ℕ → C → Type 0 = λ i x. (s : S) → slice_get ss i ≡ Some s → fits s x in
    beside-each fits ss (run kind cut until).consoles
    ((runs-cable kind cut until).count_is ∙ AllZip-long fits ss cut.consoles kept.begins)
    (λ i s y one there. runs-keep kind comes cut until holds (record {
      cable = kept.cable;
      sound = kept.sound;
      begins = λ j x stands r is. beside-at fits ss cut.consoles j r x kept.begins is stands;
      steps = λ j x dues may here r is. kept.steps r x dues may (here r is);
    }) i y there s one)
