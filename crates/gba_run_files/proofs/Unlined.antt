-- What is written doesn't depend on the numbers of a job's lines.
use Rattle.std.proofs.Common.{◌≡◌, ℕ, ◌+◌, List, [], ◌∷◌, ◌++◌, ◌∙◌, codes, length, map, refl, ap}
use Rattle.std.proofs.lemmas.List.{length-map}
use Rattle.gba_command.specs.Writing.{Output}
use Rattle.gba_inputs.proofs.Replay.{console-unlined}
use Rattle.gba_inputs.specs.Filled.{with_outputs}
use Rattle.gba_joblog.specs.Job.{ConsoleJob, WholeJob}
use Rattle.gba_joblog.specs.Cable.{players_for}
use Rattle.gba_joblog.specs.Log.{console_text, consoles_text, line_of, links_text, log_text}
use Rattle.gba_joblog.specs.LogLaw.{unlined, unlined_console}
use Rattle.gba_joblog.specs.declared.job.OutLine.{OutLine}
use Rattle.gba_joblog.specs.declared.outputs.PerKind.{PerKind}
use Rattle.gba_run_files.specs.Names.{RunNames}
use Rattle.gba_run_files.specs.Outputs.{all_outs, console_difference, console_outputs, difference_of, or_later, outputs_of, outs_of}
use Rattle.gba_run_files.specs.Written.{log_of, written}
use Rattle.std.specs.Prelude.{Option, decimal}

outputs-unlined : (names : List (PerKind (List ℕ))) (consoles : List ConsoleJob) (files : List (PerKind (List ℕ)))
    → outputs_of names (map unlined_console consoles) files ≡ outputs_of names consoles files
unfolding outputs_of console_outputs
outputs-unlined [] consoles files = refl
outputs-unlined (n ∷ names) [] files = refl
outputs-unlined (n ∷ names) (c ∷ consoles) [] = refl
outputs-unlined (n ∷ names) (c ∷ consoles) (one ∷ files) =
    ap (λ outputs. console_outputs n c one ++ outputs) (outputs-unlined names consoles files)

difference-unlined : (names : List (PerKind (List ℕ))) (consoles : List ConsoleJob) (files : List (PerKind (List ℕ)))
    → difference_of names (map unlined_console consoles) files ≡ difference_of names consoles files
unfolding difference_of console_difference
difference-unlined [] consoles files = refl
difference-unlined (n ∷ names) [] files = refl
difference-unlined (n ∷ names) (c ∷ consoles) [] = refl
difference-unlined (n ∷ names) (c ∷ consoles) (one ∷ files) =
    ap (or_later (console_difference n c one)) (difference-unlined names consoles files)

outs-unlined : (consoles : List ConsoleJob) (files : List (PerKind (List ℕ)))
    → all_outs (map unlined_console consoles) files ≡ all_outs consoles files
unfolding all_outs outs_of
outs-unlined [] files = refl
outs-unlined (c ∷ consoles) [] = refl
outs-unlined (c ∷ consoles) (one ∷ files) = ap (λ outs. outs_of c one ∷ outs) (outs-unlined consoles files)

stated-unlined : (consoles : List ConsoleJob) (outs : List (PerKind (Option OutLine)))
    → with_outputs (map unlined_console consoles) outs ≡ map unlined_console (with_outputs consoles outs)
unfolding with_outputs
stated-unlined [] outs = refl
stated-unlined (c ∷ consoles) [] = refl
stated-unlined (c ∷ consoles) (asked ∷ outs) =
    ap (λ consoles. unlined_console (record c { outs = asked }) ∷ consoles) (stated-unlined consoles outs)

text-unlined : (player : ℕ) (consoles : List ConsoleJob)
    → consoles_text player (map unlined_console consoles) ≡ consoles_text player consoles
unfolding consoles_text console_text
text-unlined player [] = refl
text-unlined player (c ∷ consoles) =
    ap (λ text. text ++ consoles_text (player + 1) (map unlined_console consoles)) (console-unlined player c)
    ∙ ap (λ text. console_text player c ++ text) (text-unlined (player + 1) consoles)

-- a log by how many consoles there are and their text
text_with : WholeJob → ℕ → List ℕ → List ℕ
text_with job count text =
    line_of (codes "gbalink") (codes "2" ∷ []) ++ (line_of (codes "cycles") (decimal job.cycles ∷ [])
    ++ (links_text (players_for count) job.delays ++ (text ++ line_of (codes "end") [])))

log-unlined : (job : WholeJob) (files : List (PerKind (List ℕ))) → log_of (unlined job) files ≡ log_of job files
unfolding log_text text_with
log-unlined job files =
    let said = with_outputs job.consoles (all_outs job.consoles files) in
    let same : with_outputs (map unlined_console job.consoles) (all_outs (map unlined_console job.consoles) files)
    ≡ map unlined_console said =
    ap (with_outputs (map unlined_console job.consoles)) (outs-unlined job.consoles files)
    ∙ stated-unlined job.consoles (all_outs job.consoles files) in
    ap (λ (consoles : List ConsoleJob). text_with job (length consoles) (consoles_text 0 consoles)) same
    ∙ ap (λ count. text_with job count (consoles_text 0 (map unlined_console said))) (length-map said unlined_console)
    ∙ ap (text_with job (length said)) (text-unlined 0 said)

pub written-unlined : (names : RunNames) (job : WholeJob) (files : List (PerKind (List ℕ))) (lines : List ℕ)
    (pieces : List Output) → written names (unlined job) files lines pieces ≡ written names job files lines pieces
written-unlined names job files lines pieces =
    let log = log-unlined job files in
    let outputs = outputs-unlined names.consoles job.consoles files in
    let difference = difference-unlined names.consoles job.consoles files in
    rw (log, outputs, difference) refl
