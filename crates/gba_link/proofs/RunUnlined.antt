-- The run of a job doesn't depend on the numbers of its lines.
use Rattle.std.proofs.Common.{◌≡◌, ℕ, List, [], ◌∷◌, ◌∙◌, length, map, Option, Some, None, refl, sym, ap}
use Rattle.std.specs.List.{AllZip}
use Rattle.std.specs.Prelude.{Bool, option_map}
use Rattle.std.proofs.lemmas.List.{length-map}
use Rattle.gba_image.specs.declared.images.ConsoleImages.{ConsoleImages}
use Rattle.gba_inputs.specs.Filled.{any_with_digest, filled, filled_console, filled_consoles}
use Rattle.gba_inputs.specs.Inputs.{ConsoleInputs}
use Rattle.gba_joblog.specs.Job.{ConsoleJob, NamedFile, WholeJob}
use Rattle.gba_joblog.specs.LogLaw.{unlined, unlined_console, unlined_file}
use Rattle.gba_joblog.specs.declared.outputs.PerKind.{PerKind}
use Rattle.gba_link.specs.RunPlan.{images_in, result_of_run, run_under}
use Rattle.gba_run_files.proofs.Unlined.{written-unlined}
use Rattle.gba_run_files.specs.Names.{RunNames, run_names}
use Rattle.gba_run_files.specs.Pieces.{run_pieces}
use Rattle.gba_run_files.specs.Written.{files_at, run_of, summary_lines, written}
use Rattle.gba_session.proofs.SameRun.{RunsAlike, RunsAs, asks-alike, prepared-alike}
use Rattle.gba_session.specs.Files.{all_files}
use Rattle.gba_session.specs.Session.{Consoles, prepared, whole_cut}

any-unlined : (named : Option NamedFile) (digest : Option (List ℕ))
    → any_with_digest (option_map unlined_file named) digest ≡ option_map unlined_file (any_with_digest named digest)
any-unlined None digest = refl
any-unlined (Some named) digest = refl

console-filled : (console : ConsoleJob) (inputs : ConsoleInputs)
    → filled_console (unlined_console console) inputs ≡ unlined_console (filled_console console inputs)
console-filled console inputs =
    let cart = any-unlined console.cart inputs.digests.cart in
    let save = any-unlined console.save inputs.digests.save in
    rw (cart, save) refl

consoles-filled : (consoles : List ConsoleJob) (inputs : List ConsoleInputs)
    → filled_consoles (map unlined_console consoles) inputs ≡ map unlined_console (filled_consoles consoles inputs)
unfolding filled_consoles
consoles-filled [] inputs = refl
consoles-filled (c ∷ consoles) [] = refl
consoles-filled (c ∷ consoles) (i ∷ inputs) =
    ap (λ (one : ConsoleJob). one ∷ filled_consoles (map unlined_console consoles) inputs) (console-filled c i)
    ∙ ap (λ (all : List ConsoleJob). unlined_console (filled_console c i) ∷ all) (consoles-filled consoles inputs)

each-alike : (consoles : List ConsoleJob) → AllZip RunsAs consoles (map unlined_console consoles)
each-alike [] = tt
each-alike (c ∷ consoles) = (record { changes = refl; off = refl; asks = refl }, each-alike consoles)

under-unlined : (out : List ℕ) (job : WholeJob) (images : List ConsoleImages)
    → run_under out (unlined job) images ≡ run_under out job images
under-unlined out job images =
    let alike : RunsAlike job (unlined job) = record {
      cycles = refl;
      delays = refl;
      many = length-map job.consoles unlined_console;
      each = each-alike job.consoles;
    } in
    let names : RunNames = run_names out (length job.consoles) in
    let ready : Consoles = prepared job images in
    let lines : List ℕ = summary_lines (whole_cut ready).consoles in
    let pieces = run_pieces names.consoles ready in
    ap (λ (count : ℕ). run_of (run_names out count) (unlined job) (prepared (unlined job) images)) alike.many
    ∙ ap (λ (s : Consoles). run_of names (unlined job) s) (prepared-alike job (unlined job) images alike)
    ∙ ap (λ (asks : List (PerKind Bool)). written names (unlined job) (all_files asks (whole_cut ready).consoles)
    lines pieces)
    (asks-alike job.consoles (map unlined_console job.consoles) alike.each)
    ∙ written-unlined names job (files_at job (whole_cut ready)) lines pieces

run-unlined : (out : List ℕ) (job : WholeJob) (inputs : List ConsoleInputs)
    → result_of_run out (unlined job) inputs ≡ result_of_run out job inputs
run-unlined out job inputs =
    let whole : WholeJob = filled job inputs in
    ap (λ (consoles : List ConsoleJob). run_under out (record whole { consoles = consoles }) (map images_in inputs))
    (consoles-filled job.consoles inputs)
    ∙ under-unlined out whole (map images_in inputs)

-- jobs that are the same but for them run alike
pub same-run : (out : List ℕ) (one other : WholeJob) (inputs : List ConsoleInputs) → unlined one ≡ unlined other
    → result_of_run out one inputs ≡ result_of_run out other inputs
same-run out one other inputs same =
    sym (run-unlined out one inputs) ∙ ap (λ (job : WholeJob). result_of_run out job inputs) same
    ∙ run-unlined out other inputs
