-- A run in segments is the run.
use Rattle.std.proofs.Common.{◌≡◌, ℕ, List, [], ◌∷◌, map, refl, sym, ◌∙◌, ap}
use Rattle.std.specs.Prelude.{slice_get}
use Rattle.link_mapped.specs.Law.{AreAlike, MapsRuns, RunsLiveInParts}
use Rattle.link_mapped.specs.Mapped.{KeepsClocks, each_mapped, mapped}
use Rattle.link_laws.specs.Law.{RunsInParts}
use Rattle.link_order.specs.Cut.{Cut, live}
use Rattle.link_order.specs.GlobalOrder.{run}
use Rattle.gba_console.specs.Alone.{console_kind}
use Rattle.gba_console.specs.Machine.{Machine, clock_of, forgotten}
use Rattle.gba_console.specs.Segments.{ForgetsSoundly, LiveSegments, Segments, behind_if, forgotten_cut, joined}
use Rattle.link_mapped.proofs.Running.{left-mapped}
use Rattle.gba_console.proofs.Behind.{behind-forgotten, behind-unseen}

-- consoles whose lists were emptied, behind themselves
each-again : (ms : List Machine) → each_mapped (λ i. behind_if (slice_get ms i)) (map forgotten ms) ≡ ms
each-again [] = refl
each-again (m ∷ ms) =
    ap (λ (one : Machine). one ∷ each_mapped (λ i. behind_if (slice_get ms i)) (map forgotten ms)) (behind-forgotten m)
    ∙ ap (λ (rest : List Machine). m ∷ rest) (each-again ms)

cut-again : (cut : Cut Machine) → joined cut (forgotten_cut cut) ≡ cut
cut-again cut =
    ap (λ (ms : List Machine). let c : Cut Machine = record cut { consoles = ms } in c) (each-again cut.consoles)

-- from a cut and from the same one with emptied lists
goes-on : MapsRuns console_kind → (cut : Cut Machine) (until : ℕ)
    → run console_kind cut until ≡ joined cut (run console_kind (forgotten_cut cut) until)
goes-on maps cut until =
    ap (λ (c : Cut Machine). run console_kind c until) (sym (cut-again cut))
    ∙ maps (λ i. behind_if (slice_get cut.consoles i)) (forgotten_cut cut) until
    (behind-unseen (λ i. slice_get cut.consoles i))

pub segments : MapsRuns console_kind → RunsInParts console_kind → Segments
segments maps parts cut first until within =
    sym (parts cut first until within) ∙ goes-on maps (run console_kind cut first) until

pub live-segments : MapsRuns console_kind → AreAlike console_kind → RunsLiveInParts console_kind → LiveSegments
live-segments maps alike parts cut first until some later sound within =
    let start : Cut Machine = live console_kind (run console_kind cut first) in
    let rest : Cut Machine = run console_kind (forgotten_cut start) until in
    let front : ℕ → Machine → Machine = λ i. behind_if (slice_get start.consoles i) in
    sym (parts cut first until some later sound within)
    ∙ ap (live console_kind) (goes-on maps start until)
    ∙ sym ((alike front (λ i m. m) rest (mapped front rest) (behind-unseen (λ i. slice_get start.consoles i)).clocks
    (sym (left-mapped (mapped front rest)))).same_live
    ∙ left-mapped (live console_kind (mapped front rest)))

each-forgotten : (ms : List Machine) → each_mapped (λ i. forgotten) ms ≡ map forgotten ms
each-forgotten [] = refl
each-forgotten (m ∷ ms) = ap (λ (rest : List Machine). forgotten m ∷ rest) (each-forgotten ms)

forgotten-clocks : KeepsClocks console_kind (λ i. forgotten) (λ i m. m)
forgotten-clocks = record {
  clock = λ i x y same. ap clock_of same;
  was = λ i x y same. ap (λ (m : Machine). m.was) same;
}

pub forgets-soundly : AreAlike console_kind → (cut : Cut Machine) → ForgetsSoundly cut
forgets-soundly alike cut =
    let same =
    ap (λ (ms : List Machine). let c : Cut Machine = record cut { consoles = ms } in c) (each-forgotten cut.consoles) in
    let both = alike (λ i. forgotten) (λ i m. m) cut (forgotten_cut cut) forgotten-clocks
    (same ∙ sym (left-mapped (forgotten_cut cut))) in
    record { sound = both.sound; awaited = λ one. sym (both.same_awaited one) }
