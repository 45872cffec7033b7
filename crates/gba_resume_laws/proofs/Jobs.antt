-- A job up to a clock, and one of which no digest is stated, start as the job does, and ask for the same.
use Rattle.std.proofs.Common.{◌≡◌, ℕ, zero, suc, ◌+◌, ◌∙◌, true, List, [], ◌∷◌, length, map, Option, Some, None, refl, ap}
use Rattle.std.specs.Prelude.{is_some, option_and_then, slice_get}
use Rattle.std.proofs.lemmas.List.{length-map}
use Rattle.gba_console.specs.Machine.{Machine, without_limit}
use Rattle.gba_image.specs.declared.images.ConsoleImages.{ConsoleImages}
use Rattle.gba_joblog.specs.Job.{ConsoleJob, WholeJob}
use Rattle.gba_joblog.specs.Statements.{asks_for}
use Rattle.gba_joblog.specs.declared.job.OutLine.{OutLine}
use Rattle.gba_joblog.specs.declared.outputs.OutKind.{OutKind}
use Rattle.gba_joblog.specs.declared.outputs.OutKind.TheVariants.{Frames, Samples, Words, State, Save}
use Rattle.gba_run_files.specs.AskedLaw.{is_asked, line_in}
use Rattle.gba_run_files.specs.DigestsLaw.{Place}
use Rattle.gba_run_files.specs.Frozen.{console_so_far, console_unstated, job_unstated, job_until, unstated}
use Rattle.gba_session.specs.Files.{grows}
use Rattle.gba_session.specs.Start.{console_at, consoles_from, start_of}
use Rattle.link_order.specs.Cut.{opening}

-- ---- the start

-- consoles that start alike
record StartsAs (one other : ConsoleJob) : Type 0 where
  changes : other.changes ≡ one.changes
  off : other.off ≡ one.off
  frames : asks_for other Frames ≡ asks_for one Frames
  samples : asks_for other Samples ≡ asks_for one Samples
  words : asks_for other Words ≡ asks_for one Words

console-same : (job other : WholeJob) (player : ℕ) (c d : ConsoleJob) (one : ConsoleImages) → other.delays ≡ job.delays
    → length other.consoles ≡ length job.consoles → StartsAs c d
    → without_limit (console_at other player d one) ≡ without_limit (console_at job player c one)
console-same job other player c d one delays many same =
    rw (delays, many, same.changes, same.off, same.frames, same.samples, same.words) refl

consoles-same : (job other : WholeJob) (player : ℕ) (change : ConsoleJob → ConsoleJob) (consoles : List ConsoleJob)
    (images : List ConsoleImages) → other.delays ≡ job.delays → length other.consoles ≡ length job.consoles
    → ((c : ConsoleJob) → StartsAs c (change c))
    → consoles_from other player (map change consoles) images ≡ consoles_from job player consoles images
unfolding consoles_from
consoles-same job other player change [] images delays many same = refl
consoles-same job other player change (c ∷ consoles) [] delays many same = refl
consoles-same job other player change (c ∷ consoles) (one ∷ images) delays many same =
    ap (λ (m : Machine). m ∷ consoles_from other (player + 1) (map change consoles) images)
    (console-same job other player c (change c) one delays many (same c))
    ∙ ap (λ (ms : List Machine). without_limit (console_at job player c one) ∷ ms)
    (consoles-same job other (player + 1) change consoles images delays many same)

unstated-some : (line : Option OutLine) → is_some (unstated line) ≡ is_some line
unstated-some None = refl
unstated-some (Some asked) = refl

unstated-as : (c : ConsoleJob) → StartsAs c (console_unstated c)
unstated-as c = record {
  changes = refl;
  off = refl;
  frames = unstated-some c.outs.frames;
  samples = unstated-some c.outs.samples;
  words = unstated-some c.outs.words;
}

so-far-as : (c : ConsoleJob) → StartsAs c (console_so_far c)
so-far-as c = record { changes = refl; off = refl; frames = refl; samples = refl; words = refl }

pub start-unstated : (job : WholeJob) (images : List ConsoleImages)
    → start_of (job_unstated job) images ≡ start_of job images
start-unstated job images =
    ap (λ (ms : List Machine). opening ms job.delays)
    (consoles-same job (job_unstated job) 0 console_unstated job.consoles images refl
    (length-map job.consoles console_unstated) unstated-as)

pub start-until : (clock : ℕ) (job : WholeJob) (images : List ConsoleImages)
    → start_of (job_until clock job) images ≡ start_of job images
start-until clock job images =
    ap (λ (ms : List Machine). opening ms job.delays)
    (consoles-same job (job_until clock job) 0 console_so_far job.consoles images refl
    (length-map job.consoles console_so_far) so-far-as)

-- ---- the outputs

asks-mapped : (kind : OutKind) (change : ConsoleJob → ConsoleJob)
    → ((c : ConsoleJob) → is_some (line_in kind (change c)) ≡ is_some (line_in kind c))
    → (consoles : List ConsoleJob) (k : ℕ)
    → is_some (option_and_then (line_in kind) (slice_get (map change consoles) k))
    ≡ is_some (option_and_then (line_in kind) (slice_get consoles k))
asks-mapped kind change same [] k = refl
asks-mapped kind change same (c ∷ consoles) zero = same c
asks-mapped kind change same (c ∷ consoles) (suc k) = asks-mapped kind change same consoles k

unstated-asks : (kind : OutKind) (c : ConsoleJob)
    → is_some (line_in kind (console_unstated c)) ≡ is_some (line_in kind c)
unstated-asks Frames c = unstated-some c.outs.frames
unstated-asks Samples c = unstated-some c.outs.samples
unstated-asks Words c = unstated-some c.outs.words
unstated-asks State c = unstated-some c.outs.state
unstated-asks Save c = unstated-some c.outs.save

so-far-asks : (kind : OutKind) → grows kind ≡ true → (c : ConsoleJob)
    → is_some (line_in kind (console_so_far c)) ≡ is_some (line_in kind c)
so-far-asks Frames is c = refl
so-far-asks Samples is c = refl
so-far-asks Words is c = refl
so-far-asks State is c = absurd cc
so-far-asks Save is c = absurd cc

pub asked-unstated : (job : WholeJob) (place : Place) → is_asked (job_unstated job) place ≡ is_asked job place
asked-unstated job place = asks-mapped place.kind console_unstated (unstated-asks place.kind) job.consoles place.player

pub asked-until : (clock : ℕ) (job : WholeJob) (place : Place) → grows place.kind ≡ true
    → is_asked (job_until clock job) place ≡ is_asked job place
asked-until clock job place grown =
    asks-mapped place.kind console_so_far (so-far-asks place.kind grown) job.consoles place.player
