-- Consoles with the lists of others in front of theirs.
use Rattle.std.proofs.Common.{◌≡◌, ◌<◌, ◌∙◌, ℕ, zero, suc, List, [], ◌∷◌, ◌++◌, length, get_or, map, Option, None, Some, refl, ap, arith}
use Rattle.std.specs.List.{flat_map}
use Rattle.std.specs.Prelude.{slice_get}
use Rattle.std.proofs.lemmas.Option.{slice_get-get_or}
use Rattle.gba_console.specs.Machine.{Machine, forgotten}
use Rattle.gba_console.specs.Segments.{behind, behind_if, forgotten_cut, joined}
use Rattle.gba_output.specs.StateFile.{summary_line}
use Rattle.link_mapped.specs.Mapped.{each_mapped}
use Rattle.link_order.specs.Cut.{Cut}

each-get : (f : ℕ → Machine → Machine) (xs : List Machine) (k : ℕ) (d : Machine) → k < length xs
    → get_or (each_mapped f xs) k d ≡ f k (get_or xs k d)
each-get f [] k d within = absurd (omega (arith, within))
each-get f (x ∷ xs) zero d within = refl
each-get f (x ∷ xs) (suc k) d within = each-get (λ i. f (suc i)) xs k d (omega (arith, within))

-- the console of a player in two parts of a run that were joined
pub joined-get : (first cut : Cut Machine) (k : ℕ) (d e : Machine) → k < length cut.consoles → k < length first.consoles
    → get_or (joined first cut).consoles k d ≡ behind (get_or first.consoles k e) (get_or cut.consoles k d)
joined-get first cut k d e within there =
    each-get (λ i. behind_if (slice_get first.consoles i)) cut.consoles k d within
    ∙ ap (λ (o : Option Machine). behind_if o (get_or cut.consoles k d)) (slice_get-get_or first.consoles k e there)

-- what is emptied doesn't tell what was in front
forgotten-behind : (first : Option Machine) (m : Machine) → forgotten (behind_if first m) ≡ forgotten m
forgotten-behind None m = refl
forgotten-behind (Some first) m = refl

each-forgotten : (firsts : ℕ → Option Machine) (ms : List Machine)
    → map forgotten (each_mapped (λ i. behind_if (firsts i)) ms) ≡ map forgotten ms
each-forgotten firsts [] = refl
each-forgotten firsts (m ∷ ms) =
    ap (λ (one : Machine). one ∷ map forgotten (each_mapped (λ i. behind_if (firsts (suc i))) ms))
    (forgotten-behind (firsts 0) m)
    ∙ ap (λ (rest : List Machine). forgotten m ∷ rest) (each-forgotten (λ i. firsts (suc i)) ms)

pub joined-forgotten : (first cut : Cut Machine) → forgotten_cut (joined first cut) ≡ forgotten_cut cut
joined-forgotten first cut =
    ap (λ (ms : List Machine). let c : Cut Machine = record cut { consoles = ms } in c)
    (each-forgotten (λ i. slice_get first.consoles i) cut.consoles)

-- nor does the line of the summary
line-behind : (first : Option Machine) (m : Machine) → summary_line (behind_if first m) ≡ summary_line m
unfolding summary_line
line-behind None m = refl
line-behind (Some first) m = refl

each-line : (firsts : ℕ → Option Machine) (ms : List Machine)
    → flat_map summary_line (each_mapped (λ i. behind_if (firsts i)) ms) ≡ flat_map summary_line ms
each-line firsts [] = refl
each-line firsts (m ∷ ms) =
    ap (λ (line : List ℕ). line ++ flat_map summary_line (each_mapped (λ i. behind_if (firsts (suc i))) ms))
    (line-behind (firsts 0) m)
    ∙ ap (λ (rest : List ℕ). summary_line m ++ rest) (each-line (λ i. firsts (suc i)) ms)

pub joined-lines : (first cut : Cut Machine)
    → flat_map summary_line (joined first cut).consoles ≡ flat_map summary_line cut.consoles
joined-lines first cut = each-line (λ i. slice_get first.consoles i) cut.consoles
