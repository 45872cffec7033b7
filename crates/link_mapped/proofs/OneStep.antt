-- One step of alike cuts.
use Rattle.std.specs.Prelude.{List, [], ◌∷◌, Option, None, Some, option_map, slice_get, slice_index, slice_set}
use Rattle.std.proofs.Common.{ℕ, zero, suc, ◌≡◌, ◌∙◌, refl, sym, ap, subst}
use Rattle.link_node.specs.declared.signal.Incoming.{Incoming}
use Rattle.link_order.specs.NodeKind.{NodeKind}
use Rattle.link_order.specs.Cut.{Cut, live}
use Rattle.link_order.specs.GlobalOrder.{due_at, least, least_below, step, step_from, step_of, step_with}
use Rattle.link_mapped.specs.Law.{StepsAlike}
use Rattle.link_mapped.specs.Mapped.{IsUnseen}
use Rattle.link_mapped.proofs.InCommon.{Alike, Sight, alike-of, due-same, least-same, live-alike, mapped-same, sight-same}
use Rattle.link_mapped.proofs.Matching.{Both, Matched, get-matched}
use Rattle.link_mapped.proofs.Running.{next-alike}

-- what is told of an element that is put into a list
set-told : {C : Type 0} (f g : ℕ → C → C) (h : C → List ℕ) (xs ys : List C) (i : ℕ) (a b : C) → Matched f g xs ys
    → h a ≡ h b → option_map h (slice_get (slice_set xs i a) i) ≡ option_map h (slice_get (slice_set ys i b) i)
set-told f g h [] [] i a b m same = refl
set-told f g h [] (y ∷ ys) i a b m same = absurd m
set-told f g h (x ∷ xs) [] i a b m same = absurd m
set-told f g h (x ∷ xs) (y ∷ ys) zero a b m same = ap Some same
set-told f g h (x ∷ xs) (y ∷ ys) (suc i) a b m same =
    set-told (λ j. f (suc j)) (λ j. g (suc j)) h xs ys i a b m.1 same

module _ {C : Type 0} (kind : NodeKind C) (f g : ℕ → C → C) (unseen : IsUnseen kind f g) (h : C → List ℕ)
    (tells : (i : ℕ) (x y : C) (due : List Incoming) → f i x ≡ g i y
    → h (kind.next x due).0 ≡ h (kind.next y due).0) where
  told-by : (cut other : Cut C) (i : ℕ) (signals : List Incoming) (o p : Option C) → slice_get cut.consoles i ≡ o
      → slice_get other.consoles i ≡ p → Both (λ x y. f i x ≡ g i y) o p → Alike f g cut other
      → option_map h (slice_get (step_from kind cut i signals o).consoles i)
      ≡ option_map h (slice_get (step_from kind other i signals p).consoles i)
  told-by cut other i signals None None one two both alike = ap (option_map h) (one ∙ sym two)
  told-by cut other i signals None (Some y) one two both alike = absurd both
  told-by cut other i signals (Some x) None one two both alike = absurd both
  told-by cut other i signals (Some x) (Some y) one two both alike =
      set-told f g h cut.consoles other.consoles i (kind.next x signals).0 (kind.next y signals).0 alike.consoles
      (tells i x y signals both)

  told-of : (cut other : Cut C) (i : ℕ) → Alike f g cut other
      → option_map h (slice_get (step_of kind cut i).consoles i)
      ≡ option_map h (slice_get (step_of kind other i).consoles i)
  told-of cut other i alike =
      subst (λ (signals : List Incoming). option_map h (slice_get (step_of kind cut i).consoles i)
      ≡ option_map h (slice_get (step_with kind other i signals).consoles i))
      (due-same kind f g unseen.clocks cut other alike i)
      (told-by cut other i (due_at kind cut i) (slice_get cut.consoles i) (slice_get other.consoles i) refl refl
      (get-matched f g cut.consoles other.consoles i alike.consoles) alike)

  told-next : (cut other : Cut C) → Alike f g cut other
      → option_map h (slice_get (step kind cut).consoles (least kind cut))
      ≡ option_map h (slice_get (step kind other).consoles (least kind other))
  told-next cut other alike =
      subst (λ (i : ℕ). option_map h (slice_get (step kind cut).consoles (least kind cut))
      ≡ option_map h (slice_get (step_of kind other i).consoles i))
      (least-same kind f g unseen.clocks cut other alike) (told-of cut other (least kind cut) alike)

pub steps-alike : {C : Type 0} (kind : NodeKind C) → StepsAlike kind
steps-alike {C = C} kind f g cut other unseen same =
    let alike = alike-of f g cut other same in
    record {
      clock = ap (λ (v : Sight). slice_index v.clocks (least_below (slice_index v.clocks) v.many))
          (sight-same kind f g unseen.clocks cut other alike);
      next =
          mapped-same f g (live kind (step kind cut)) (live kind (step kind other))
          (live-alike kind f g unseen.clocks (step kind cut) (step kind other)
          (next-alike kind f g unseen cut other alike));
      told = λ h tells. told-next kind f g unseen h tells cut other alike;
    }
