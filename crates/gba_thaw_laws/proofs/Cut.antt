-- Consoles on their cable.
use Rattle.std.proofs.Common.{suc, ◌≡◌, ℕ, ◌≤◌, ◌∙◌, ap, sym, subst, Bool, true, ◌&&◌, List, [], ◌∷◌, length, map, Option, Some, None, option_map, slice_index, if◌then◌else◌, refl, le-leb, All, Ok, arith}
use Rattle.std.proofs.lemmas.List.{length-map}
use Rattle.gba_console.specs.Alone.{console_kind}
use Rattle.gba_console.specs.Machine.{Machine, clock_of, forgotten, without_limit}
use Rattle.gba_console.specs.Segments.{forgotten_cut}
use Rattle.gba_console.specs.Shorn.{rested, shorn}
use Rattle.gba_console.specs.Step.{stepped, stepped_off, stepped_on, told, told_on}
use Rattle.gba_console.proofs.Unlimited.{stepped-unlimited, told-unlimited}
use Rattle.gba_filling.specs.Signals.{most_signals}
use Rattle.gba_frozen.specs.Reading.{frozen_language, judged, longest_file}
use Rattle.gba_frozen_text.specs.Text.{frozen_lines, frozen_text}
use Rattle.gba_frozen_text.proofs.Whole.{files-again}
use Rattle.gba_snapshot.specs.Console.{draft_of}
use Rattle.gba_snapshot.specs.File.{frozen_file}
use Rattle.gba_snapshot.specs.Laws.{cut_draft}
use Rattle.gba_text.specs.Languages.{answer_of}
use Rattle.gba_thaw.specs.Cut.{can_run, consoles_thawed, cut_if, draft_thawed, in_front, joined, setup_of, thaw_of, whole_of}
use Rattle.gba_thaw.proofs.Read.{thawed-as}
use Rattle.gba_thaw.proofs.Sound.{thaws-soundly}
use Rattle.gba_thaw_laws.specs.Cut.{AreReady, CanBeFrozen, FilesThawAgain, IsAgain, as_it_runs}
use Rattle.gba_thaw_laws.proofs.Lines.{lines-thaw-again}
use Rattle.gba_thaw_laws.proofs.Setups.{draft-whole, file-is-text, signals-again}
use Rattle.link_core.specs.Whole.{IsWhole, is_whole, is_whole_by}
use Rattle.link_core.proofs.Wholeness.{whole-tested}
use Rattle.link_mapped.specs.Mapped.{IsUnseen, each_mapped, mapped}
use Rattle.link_mapped.proofs.Running.{runs-alike}
use Rattle.link_node.specs.Delays.{hop_of}
use Rattle.link_node.specs.declared.signal.Incoming.{Incoming}
use Rattle.link_node.specs.declared.delays.Delays.{Delays}
use Rattle.link_order.specs.Cut.{Cut, plain_cut}
use Rattle.link_order.specs.declared.sent.Sent.{Sent}

-- ---- the consoles

record IsMade (m : Machine) (answer : Option Machine) : Type 0 where
  made : Machine
  thawed : answer ≡ Some made
  same : shorn made ≡ shorn m

made-by : (m : Machine) (answer : Option Machine) → option_map shorn answer ≡ Some (shorn m) → IsMade m answer
made-by m (Some made) is = record { made = made; thawed = refl; same = cc }
made-by m None is = absurd cc

record AreMade (ms : List Machine) (answer : Option (List Machine)) : Type 0 where
  made : List Machine
  thawed : answer ≡ Some made
  same : map shorn made ≡ map shorn ms

consoles-made : (until : ℕ) (starts ms : List Machine) → AreReady until starts ms
    → AreMade ms (consoles_thawed until starts (map draft_of ms))
unfolding AreReady consoles_thawed
consoles-made until [] [] ready = record { made = []; thawed = refl; same = refl }
consoles-made until [] (m ∷ ms) ready = absurd ready
consoles-made until (start ∷ starts) [] ready = absurd ready
consoles-made until (start ∷ starts) (m ∷ ms) ready =
    let r = ready.0 in
    let one = made-by m (draft_thawed until start (draft_of m))
    (lines-thaw-again until start m r.begins r.holds r.spelled r.early) in
    let rest = consoles-made until starts ms ready.1 in
    record {
      made = one.made ∷ rest.made;
      thawed = λ i. in_front (one.thawed i) (rest.thawed i);
      same = λ i. one.same i ∷ rest.same i;
    }

-- ---- a run can go on from them

-- what no step looks at isn't looked at here
map-plain : {B : Type 0} (f : Machine → B) → ((m : Machine) → f (without_limit m) ≡ f (shorn m)) → (ms : List Machine)
    → map f (map without_limit ms) ≡ map f (map shorn ms)
map-plain f same [] = refl
map-plain f same (m ∷ ms) =
    let one = same m in
    let rest = map-plain f same ms in
    λ i. one i ∷ rest i

map-shorn : {B : Type 0} (f : Machine → B) → ((m : Machine) → f (shorn m) ≡ f m) → (ms : List Machine)
    → map f (map shorn ms) ≡ map f ms
map-shorn f same [] = refl
map-shorn f same (m ∷ ms) =
    let one = same m in
    let rest = map-shorn f same ms in
    λ i. one i ∷ rest i

goes-on : (delays : Delays) (sent : List Sent) (made ms : List Machine) → map shorn made ≡ map shorn ms
    → length sent ≤ most_signals
    → IsWhole console_kind (let cut : Cut Machine = record { consoles = ms; delays = delays; sent = sent } in cut)
    → can_run (joined delays sent made) ≡ true
unfolding is_whole
goes-on delays sent made ms same few whole =
    let clocks =
    map-plain clock_of (λ m. refl) made ∙ ap (λ (xs : List Machine). map clock_of xs) same
    ∙ map-shorn clock_of (λ m. refl) ms in
    let begun =
    map-plain (λ (m : Machine). m.was) (λ m. refl) made
    ∙ ap (λ (xs : List Machine). map (λ (m : Machine). m.was) xs) same
    ∙ map-shorn (λ (m : Machine). m.was) (λ m. refl) ms in
    let many = length-map made without_limit ∙ sym (length-map made shorn) ∙ ap (λ (xs : List Machine). length xs) same
    ∙ length-map ms shorn in
    let signals = le-leb (length sent) most_signals few in
    let tested = whole-tested console_kind (record { consoles = ms; delays = delays; sent = sent }) whole in
    let can : is_whole console_kind (plain_cut without_limit (joined delays sent made)) ≡ true =
    (λ i. is_whole_by (hop_of delays) (slice_index (clocks i)) (slice_index (begun i)) (many i) sent) ∙ tested in
    λ i. signals i && can i

-- ---- the file

whole-again : (until : ℕ) (start cut : Cut Machine) → CanBeFrozen until start cut
    → (made : AreMade cut.consoles (consoles_thawed until start.consoles (map draft_of cut.consoles)))
    → whole_of until start (cut_draft cut) ≡ Some (joined start.delays cut.sent made.made)
unfolding whole_of
whole-again until start cut can made =
    let delays = can.delays in
    let whole : IsWhole console_kind
    (let c : Cut Machine = record { consoles = cut.consoles; delays = start.delays; sent = cut.sent } in c) =
    subst
    (λ (d : Delays). IsWhole console_kind
    (let c : Cut Machine = record { consoles = cut.consoles; delays = d; sent = cut.sent } in c))
    (sym delays) can.whole in
    let goes = goes-on start.delays cut.sent made.made cut.consoles made.same can.signals whole in
    let signals = signals-again cut.sent in
    (λ i. cut_if start.delays (signals i) (made.thawed i))
    ∙ ap (λ (test : Bool). if test then Some (joined start.delays cut.sent made.made) else None) goes

-- ---- its run

each-mapped : (f : Machine → Machine) (ms : List Machine) → each_mapped (λ i. f) ms ≡ map f ms
each-mapped f [] = refl
each-mapped f (m ∷ ms) = ap (λ (rest : List Machine). f m ∷ rest) (each-mapped f ms)

stepped-alike : (dues : List Incoming) (m : Machine) → stepped dues (as_it_runs m) ≡ without_limit (stepped dues m)
unfolding stepped stepped_off stepped_on
stepped-alike dues m = stepped-unlimited dues m

told-alike : (dues : List Incoming) (m : Machine) → told dues (as_it_runs m) ≡ told dues m
unfolding told told_on
told-alike dues m = told-unlimited dues m

pub runs-unseen : IsUnseen console_kind (λ i. as_it_runs) (λ i. as_it_runs)
runs-unseen = record {
  clocks = record {
    clock = λ i x y same. ap clock_of same;
    was = λ i x y same. ap (λ (m : Machine). m.was) same;
  };
  next = λ i x y dues same.
      ap rested (sym (stepped-alike dues x)) ∙ ap (λ (m : Machine). rested (stepped dues m)) same
      ∙ ap rested (stepped-alike dues y);
  tells = λ i x y dues same. sym (told-alike dues x) ∙ ap (told dues) same ∙ told-alike dues y;
}

-- consoles with empty lists are what was shorn of them, and what was forgotten is so
empty-runs : (ms : List Machine) → All (λ (m : Machine). without_limit m ≡ forgotten (without_limit m)) ms
    → map as_it_runs ms ≡ map shorn ms
empty-runs [] empty = refl
empty-runs (m ∷ ms) empty =
    let one = ap rested (empty 0 m (omega arith)) in
    let rest = empty-runs ms (λ k d inside. empty (suc k) d (omega (arith, inside))) in
    λ i. one i ∷ rest i

forgotten-runs : (ms : List Machine) → map as_it_runs (map forgotten ms) ≡ map shorn ms
forgotten-runs [] = refl
forgotten-runs (m ∷ ms) = ap (λ (rest : List Machine). shorn m ∷ rest) (forgotten-runs ms)

mapped-by : (f : Machine → Machine) (one other : Cut Machine) → map f one.consoles ≡ map f other.consoles
    → one.delays ≡ other.delays → one.sent ≡ other.sent → mapped (λ i. f) one ≡ mapped (λ i. f) other
mapped-by f one other same delays sent =
    let consoles = each-mapped f one.consoles ∙ same ∙ sym (each-mapped f other.consoles) in
    λ i. record { consoles = consoles i; delays = delays i; sent = sent i }

again-by : (until : ℕ) (start cut : Cut Machine) → CanBeFrozen until start cut
    → (made : AreMade cut.consoles (consoles_thawed until start.consoles (map draft_of cut.consoles)))
    → (digest : List ℕ)
    → thaw_of digest until start (frozen_file digest cut) ≡ Ok (joined start.delays cut.sent made.made)
    → IsAgain cut (thaw_of digest until start (frozen_file digest cut))
again-by until start cut can made digest comes =
    let new = joined start.delays cut.sent made.made in
    let empty = (thaws-soundly digest until start new (frozen_file digest cut) comes).empty in
    let runs = empty-runs made.made empty ∙ made.same ∙ sym (forgotten-runs cut.consoles) in
    record {
      made = new;
      thawed = comes;
      same = mapped-by shorn new cut made.same can.delays refl;
      runs =
          λ clock. runs-alike console_kind (λ i. as_it_runs) (λ i. as_it_runs) new (forgotten_cut cut) clock runs-unseen
          (mapped-by as_it_runs new (forgotten_cut cut) runs can.delays refl);
    }

pub files-thaw-again : FilesThawAgain
files-thaw-again digest until start cut long bytes can short =
    let S = setup_of digest until start.consoles in
    let d = cut_draft cut in
    let text = file-is-text digest until start cut can in
    let whole = draft-whole digest until start cut long bytes can in
    let fits : length (frozen_text S d) ≤ longest_file = subst (λ (xs : List ℕ). length xs ≤ longest_file) text short in
    let comes = thawed-as S S (whole_of until start) (frozen_file digest cut) (length (frozen_lines S d)) d refl
    (λ whole_to. subst
    (λ (xs : List ℕ). answer_of (frozen_language S whole_to) xs ≡ judged (length (frozen_lines S d)) (whole_to d))
    (sym text) (files-again S d whole_to whole fits)) in
    let made = consoles-made until start.consoles cut.consoles can.consoles in
    again-by until start cut can made digest
    (comes ∙ ap (judged (length (frozen_lines S d))) (whole-again until start cut can made))
