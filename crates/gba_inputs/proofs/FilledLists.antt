-- Consoles are filled, one after another.
use Rattle.std.proofs.Common.{◌≡◌, ℕ, ◌+◌, ◌<◌, ◌≤◌, List, [], ◌∷◌, ◌++◌, length, take, drop, get_or, map, refl, sym, ap, ◌∙◌, arith}
use Rattle.std.specs.Prelude.{slice_set}
use Rattle.std.proofs.Math.Seq.{map-set_same}
use Rattle.std.proofs.lemmas.List.{append-nil, append_assoc, drop-set-lt, drop_all, length-set, map-append, take_all, take_more_set}
use Rattle.gba_joblog.specs.Job.{ConsoleJob}
use Rattle.gba_joblog.specs.Views.{console_value}
use Rattle.gba_joblog.specs.declared.job.JobConsole.{JobConsole}
use Rattle.gba_joblog.proofs.OutputNames.{at_item}
use Rattle.gba_inputs.specs.Filled.{filled_console, filled_consoles}
use Rattle.gba_inputs.specs.Inputs.{ConsoleInputs}
use Rattle.gba_inputs.specs.Views.{images_of, inputs_value}
use Rattle.gba_inputs.specs.declared.inputs.Inputs.{Inputs}

-- the consoles that were filled, and those that are left once they will be
abbrev pub filled_from : List JobConsole → List Inputs → ℕ → List ConsoleJob
filled_from consoles inputs i =
    map console_value (take i consoles)
    ++ filled_consoles (map console_value (drop i consoles)) (map inputs_value (drop i inputs))

pub record Filling (old_consoles consoles : List JobConsole) (old_inputs inputs : List Inputs) (i : ℕ) : Type 0 where
  pub whole : filled_from consoles inputs i
      ≡ filled_consoles (map console_value old_consoles) (map inputs_value old_inputs)
  pub images : map images_of inputs ≡ map images_of old_inputs
  pub long : length consoles ≡ length inputs

more-filled : (c : ConsoleJob) (i : ConsoleInputs) (cs : List ConsoleJob) (is : List ConsoleInputs)
    → filled_consoles (c ∷ cs) (i ∷ is) ≡ filled_console c i ∷ filled_consoles cs is
unfolding filled_consoles
more-filled c i cs is = refl

none-filled : (is : List ConsoleInputs) → filled_consoles [] is ≡ []
unfolding filled_consoles
none-filled is = refl

pub filling-begin : (consoles : List JobConsole) (inputs : List Inputs) → length consoles ≡ length inputs
    → Filling consoles consoles inputs inputs 0
filling-begin consoles inputs long = record { whole = refl; images = refl; long = long }

pub filling-more : (old_consoles consoles : List JobConsole) (old_inputs inputs : List Inputs) (i : ℕ)
    (c later : JobConsole) (x kept : Inputs) → Filling old_consoles consoles old_inputs inputs i
    → i < length consoles → c ≡ get_or consoles i c → x ≡ get_or inputs i x
    → console_value later ≡ filled_console (console_value (get_or consoles i c)) (inputs_value (get_or inputs i x))
    → kept.images ≡ (get_or inputs i x).images
    → Filling old_consoles (slice_set consoles i later) old_inputs (slice_set inputs i kept) (i + 1)
filling-more old_consoles consoles old_inputs inputs i c later x kept h lt here read written same =
    let made : console_value later ≡ filled_console (console_value c) (inputs_value x) =
    written ∙ ap (λ v. filled_console (console_value v) (inputs_value (get_or inputs i x))) (sym here)
    ∙ ap (λ v. filled_console (console_value c) (inputs_value v)) (sym read) in
    let front = take_more_set consoles i later lt in
    let rest = drop-set-lt (i + 1) consoles i later (omega arith) in
    let left = drop-set-lt (i + 1) inputs i kept (omega arith) in
    let cs = at_item consoles i c lt here in
    let is = at_item inputs i x (omega (arith, h.long)) read in
    let before = map console_value (take i consoles) in
    let after = filled_consoles (map console_value (drop (i + 1) consoles)) (map inputs_value (drop (i + 1) inputs)) in
    let step : filled_from (slice_set consoles i later) (slice_set inputs i kept) (i + 1)
    ≡ filled_from consoles inputs i =
    rw (front, rest, left, map-append)
    (append_assoc before (console_value later ∷ []) after
    ∙ ap (λ v. before ++ v ∷ after) made
    ∙ ap (λ ys. before ++ ys)
    (sym (more-filled (console_value c) (inputs_value x) (map console_value (drop (i + 1) consoles))
    (map inputs_value (drop (i + 1) inputs))))
    ∙ ap (λ ys. before ++ filled_consoles (map console_value ys) (map inputs_value (x ∷ drop (i + 1) inputs))) (sym cs)
    ∙ ap (λ ys. before ++ filled_consoles (map console_value (drop i consoles)) (map inputs_value ys)) (sym is)) in
    record {
      whole = step ∙ h.whole;
      images = map-set_same images_of inputs i kept x same ∙ h.images;
      long = omega (arith, h.long, length-set consoles i later, length-set inputs i kept);
    }

pub filling-end : (old_consoles consoles : List JobConsole) (old_inputs inputs : List Inputs) (i : ℕ)
    → Filling old_consoles consoles old_inputs inputs i → length consoles ≤ i
    → map console_value consoles ≡ filled_consoles (map console_value old_consoles) (map inputs_value old_inputs)
filling-end old_consoles consoles old_inputs inputs i h past =
    let all = take_all i consoles past in
    let none = drop_all i consoles past in
    let end : filled_from consoles inputs i ≡ map console_value consoles =
    rw (all, none) (ap (λ ys. map console_value consoles ++ ys) (none-filled (map inputs_value (drop i inputs)))
    ∙ append-nil (map console_value consoles)) in
    sym end ∙ h.whole
