-- What the run of a job depends on: its cycles, its delays, and for each console the changes of its keys, the clock
-- below which it is off, and what it is asked for.
use Rattle.std.proofs.Common.{◌≡◌, ℕ, ◌+◌, ◌∙◌, Bool, List, [], ◌∷◌, length, map, Option, Some, None, refl, ap, sym}
use Rattle.std.specs.List.{AllZip}
use Rattle.std.specs.Prelude.{slice_get}
use Rattle.std.proofs.lemmas.List.{length-map, length-set}
use Rattle.link_order.specs.Cut.{Cut, live}
use Rattle.link_order.specs.GlobalOrder.{after_turns, due_at, run, step_from, step_of, trace}
use Rattle.link_order.specs.NodeKind.{NodeKind}
use Rattle.link_node.specs.declared.signal.Incoming.{Incoming}
use Rattle.gba_console.specs.Machine.{Machine, without_limit}
use Rattle.gba_image.specs.declared.images.ConsoleImages.{ConsoleImages}
use Rattle.gba_joblog.specs.Job.{ConsoleJob, WholeJob}
use Rattle.gba_joblog.specs.declared.outputs.PerKind.{PerKind}
use Rattle.gba_session.proofs.Consoles.{consoles-length, files-long}
use Rattle.gba_session.specs.Files.{all_files, asks_of}
use Rattle.gba_console.specs.Alone.{console_kind}
use Rattle.gba_session.specs.Session.{Consoles, prepared}
use Rattle.gba_session.specs.Start.{console_at, consoles_from, end_of, start_of}

-- consoles that run alike over the same images: what they state of digests and the numbers of their lines may differ
pub record RunsAs (one other : ConsoleJob) : Type 0 where
  pub changes : other.changes ≡ one.changes
  pub off : other.off ≡ one.off
  pub asks : asks_of other ≡ asks_of one

console-alike : (job other : WholeJob) (player : ℕ) (one later : ConsoleJob) (images : ConsoleImages)
    → other.cycles ≡ job.cycles → other.delays ≡ job.delays → length other.consoles ≡ length job.consoles
    → RunsAs one later → console_at other player later images ≡ console_at job player one images
console-alike job other player one later images cycles delays many alike =
    let frames = ap (λ (asks : PerKind Bool). asks.frames) alike.asks in
    let samples = ap (λ (asks : PerKind Bool). asks.samples) alike.asks in
    let words = ap (λ (asks : PerKind Bool). asks.words) alike.asks in
    rw (cycles, delays, many, alike.changes, alike.off, frames, samples, words) refl

consoles-alike : (job other : WholeJob) (player : ℕ) (consoles later : List ConsoleJob) (images : List ConsoleImages)
    → other.cycles ≡ job.cycles → other.delays ≡ job.delays → length other.consoles ≡ length job.consoles
    → AllZip RunsAs consoles later → consoles_from other player later images ≡ consoles_from job player consoles images
unfolding consoles_from
consoles-alike job other player [] [] images cycles delays many alike = refl
consoles-alike job other player [] (l ∷ later) images cycles delays many alike = absurd alike
consoles-alike job other player (c ∷ consoles) [] images cycles delays many alike = absurd alike
consoles-alike job other player (c ∷ consoles) (l ∷ later) [] cycles delays many alike = refl
consoles-alike job other player (c ∷ consoles) (l ∷ later) (one ∷ images) cycles delays many alike =
    ap (λ (m : Machine). without_limit m ∷ consoles_from other (player + 1) later images)
    (console-alike job other player c l one cycles delays many alike.0)
    ∙ ap (λ (ms : List Machine). without_limit (console_at job player c one) ∷ ms)
    (consoles-alike job other (player + 1) consoles later images cycles delays many alike.1)

-- jobs that run alike
pub record RunsAlike (job other : WholeJob) : Type 0 where
  pub cycles : other.cycles ≡ job.cycles
  pub delays : other.delays ≡ job.delays
  pub many : length other.consoles ≡ length job.consoles
  pub each : AllZip RunsAs job.consoles other.consoles

start-alike : (job other : WholeJob) (images : List ConsoleImages) → RunsAlike job other
    → start_of other images ≡ start_of job images
start-alike job other images alike =
    let consoles =
    consoles-alike job other 0 job.consoles other.consoles images alike.cycles alike.delays alike.many alike.each in
    rw (consoles, alike.delays) refl

pub asks-alike : (consoles later : List ConsoleJob) → AllZip RunsAs consoles later
    → map asks_of later ≡ map asks_of consoles
asks-alike [] [] alike = refl
asks-alike [] (l ∷ later) alike = absurd alike
asks-alike (c ∷ consoles) [] alike = absurd alike
asks-alike (c ∷ consoles) (l ∷ later) alike =
    ap (λ (asks : PerKind Bool). asks ∷ map asks_of later) alike.0.asks
    ∙ ap (λ (asks : List (PerKind Bool)). asks_of c ∷ asks) (asks-alike consoles later alike.1)

-- they are prepared alike
pub prepared-alike : (job other : WholeJob) (images : List ConsoleImages) → RunsAlike job other
    → prepared other images ≡ prepared job images
prepared-alike job other images alike =
    let with_start : Cut Machine → ℕ → List (PerKind Bool) → Consoles =
    λ start until asks. record { start = start; from = 0; to = 0; until = until; asks = asks } in
    ap (λ (start : Cut Machine). with_start start other.cycles (map asks_of other.consoles))
    (start-alike job other images alike)
    ∙ ap (λ (until : ℕ). with_start (start_of job images) until (map asks_of other.consoles)) alike.cycles
    ∙ ap (with_start (start_of job images) job.cycles) (asks-alike job.consoles other.consoles alike.each)

-- after a run there are as many consoles as before
stepped-many : {C : Type 0} (kind : NodeKind C) (cut : Cut C) (i : ℕ) (due : List Incoming) (stepped : Option C)
    → length (step_from kind cut i due stepped).consoles ≡ length cut.consoles
stepped-many kind cut i due None = refl
stepped-many kind cut i due (Some x) = length-set cut.consoles i (kind.next x due).0

turns-many : {C : Type 0} (kind : NodeKind C) (cut : Cut C) (turns : List ℕ)
    → length (after_turns kind cut turns).consoles ≡ length cut.consoles
unfolding after_turns
turns-many kind cut [] = refl
turns-many kind cut (i ∷ turns) =
    turns-many kind (step_of kind cut i) turns
    ∙ stepped-many kind cut i (due_at kind cut i) (slice_get cut.consoles i)

pub run-many : {C : Type 0} (kind : NodeKind C) (cut : Cut C) (until : ℕ)
    → length (live kind (run kind cut until)).consoles ≡ length cut.consoles
run-many kind cut until = turns-many kind cut (trace kind cut until)

-- there are as many files as consoles
pub end-many : (job : WholeJob) (images : List ConsoleImages) → length images ≡ length job.consoles
    → length (all_files (map asks_of job.consoles) (end_of job images).consoles) ≡ length job.consoles
end-many job images many =
    let asks = length-map job.consoles asks_of in
    let machines = run-many console_kind (start_of job images) job.cycles
    ∙ consoles-length job 0 job.consoles images many in
    files-long (map asks_of job.consoles) (end_of job images).consoles (asks ∙ sym machines) ∙ asks
