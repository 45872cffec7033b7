-- A run writes as much as its summary counts.
use Rattle.std.proofs.Common.{◌≡◌, ℕ, zero, suc, ◌+◌, true, List, [], ◌∷◌, length, map, Option, None, Some, refl, sym, ap, ◌∙◌, subst, arith}
use Rattle.std.specs.List.{AllZip}
use Rattle.std.specs.Prelude.{is_some, option_and_then, slice_get, slice_set}
use Rattle.std.proofs.lemmas.List.{length-map}
use Rattle.gba_console.specs.Alone.{console_kind}
use Rattle.gba_console.specs.Counted.{Counts, CountsAlways}
use Rattle.gba_console.specs.Machine.{Machine}
use Rattle.gba_console.specs.Step.{stepped}
use Rattle.gba_image.specs.declared.images.ConsoleImages.{ConsoleImages}
use Rattle.gba_inputs.proofs.SoundInputs.{inputs-sound, zip-long}
use Rattle.gba_inputs.specs.Filled.{filled}
use Rattle.gba_joblog.proofs.Sound.{sound}
use Rattle.gba_joblog.specs.Job.{ConsoleJob, WholeJob}
use Rattle.gba_joblog.specs.Soundness.{IsJob}
use Rattle.gba_joblog.specs.Statements.{asks_for}
use Rattle.gba_joblog.specs.declared.outputs.OutKind.{OutKind}
use Rattle.gba_joblog.specs.declared.outputs.OutKind.TheVariants.{Frames, Samples, Words, State, Save}
use Rattle.gba_link.proofs.KeptAsked.{filled-asks, filled-long, kept}
use Rattle.gba_link.specs.CountedLaw.{CountsItsFiles, IsCounted}
use Rattle.gba_link.specs.RunPlan.{end_with, images_in}
use Rattle.gba_run_files.specs.AskedLaw.{IsMade, line_in}
use Rattle.gba_session.specs.Start.{console_at, consoles_from, end_of, start_of}
use Rattle.link_node.specs.declared.signal.Incoming.{Incoming}
use Rattle.link_order.specs.Cut.{Cut}
use Rattle.link_order.specs.GlobalOrder.{after_turns, due_at, step_from, step_of, trace}

-- A console keeps what its lines of the job ask for, and as much of it as it counts.
record Keeps (console : ConsoleJob) (m : Machine) : Type 0 where
  counts : Counts m
  frames : m.board.made.keeps_frames ≡ asks_for console Frames
  samples : m.board.made.keeps_samples ≡ asks_for console Samples
  words : m.board.ended.keeps_words ≡ asks_for console Words

some-same : (x y : Machine) → Some x ≡ Some y → x ≡ y
some-same x y same = cc

some-console : (x y : ConsoleJob) → Some x ≡ Some y → x ≡ y
some-console x y same = cc

module _ (always : CountsAlways) where
  step-keeps : (console : ConsoleJob) (m : Machine) (dues : List Incoming) → Keeps console m
      → Keeps console (stepped dues m)
  step-keeps console m dues keeps =
      let same = always.kinds dues m in record {
        counts = always.steps dues m keeps.counts;
        frames = same.frames ∙ keeps.frames;
        samples = same.samples ∙ keeps.samples;
        words = same.words ∙ keeps.words;
      }

  -- one of them steps
  set-keeps : (consoles : List ConsoleJob) (ms : List Machine) (i : ℕ) (x : Machine) (dues : List Incoming)
      → slice_get ms i ≡ Some x → AllZip Keeps consoles ms → AllZip Keeps consoles (slice_set ms i (stepped dues x))
  set-keeps [] [] i x dues is all = absurd cc
  set-keeps [] (m ∷ ms) i x dues is all = absurd all
  set-keeps (c ∷ consoles) [] i x dues is all = absurd all
  set-keeps (c ∷ consoles) (m ∷ ms) zero x dues is all =
      (step-keeps c x dues (subst (Keeps c) (some-same m x is) all.0), all.1)
  set-keeps (c ∷ consoles) (m ∷ ms) (suc i) x dues is all = (all.0, set-keeps consoles ms i x dues is all.1)

  stepped-keeps : (consoles : List ConsoleJob) (cut : Cut Machine) (i : ℕ) (dues : List Incoming)
      (there : Option Machine) → slice_get cut.consoles i ≡ there → AllZip Keeps consoles cut.consoles
      → AllZip Keeps consoles (step_from console_kind cut i dues there).consoles
  stepped-keeps consoles cut i dues None is all = all
  stepped-keeps consoles cut i dues (Some x) is all = set-keeps consoles cut.consoles i x dues is all

  turns-keep : (consoles : List ConsoleJob) (cut : Cut Machine) (turns : List ℕ) → AllZip Keeps consoles cut.consoles
      → AllZip Keeps consoles (after_turns console_kind cut turns).consoles
  unfolding after_turns
  turns-keep consoles cut [] all = all
  turns-keep consoles cut (i ∷ turns) all =
      turns-keep consoles (step_of console_kind cut i) turns
      (stepped-keeps consoles cut i (due_at console_kind cut i) (slice_get cut.consoles i) refl all)

  -- at reset
  start-keeps : (job : WholeJob) (player : ℕ) (consoles : List ConsoleJob) (images : List ConsoleImages)
      → length images ≡ length consoles → AllZip Keeps consoles (consoles_from job player consoles images)
  unfolding consoles_from
  start-keeps job player [] images many = tt
  start-keeps job player (c ∷ consoles) [] many = absurd (omega (arith, many))
  start-keeps job player (c ∷ consoles) (one ∷ images) many =
      let begins : Counts (console_at job player c one) =
      always.begins player _ _ c.off one.bios one.cart one.save one.backup _ _ in (
        record {
          counts = record {
            made = record {
              sound = begins.made.sound;
              drawn = begins.made.drawn;
              bytes = begins.made.bytes;
              frames = begins.made.frames;
              samples = begins.made.samples;
            };
            ended = begins.ended;
          };
          frames = refl;
          samples = refl;
          words = refl;
        },
        start-keeps job (player + 1) consoles images (omega (arith, many)),
      )

  end-keeps : (job : WholeJob) (images : List ConsoleImages) → length images ≡ length job.consoles
      → AllZip Keeps job.consoles (end_of job images).consoles
  end-keeps job images many =
      turns-keep job.consoles (start_of job images) (trace console_kind (start_of job images) job.cycles)
      (start-keeps job 0 job.consoles images many)

-- one of them
keeps-at : (consoles : List ConsoleJob) (ms : List Machine) (i : ℕ) (c : ConsoleJob) (m : Machine)
    → AllZip Keeps consoles ms → slice_get consoles i ≡ Some c → slice_get ms i ≡ Some m → Keeps c m
keeps-at [] ms i c m all one other = absurd cc
keeps-at (d ∷ consoles) [] i c m all one other = absurd all
keeps-at (d ∷ consoles) (n ∷ ms) zero c m all one other =
    subst (λ (x : ConsoleJob). Keeps x m) (some-console d c one) (subst (Keeps d) (some-same n m other) all.0)
keeps-at (d ∷ consoles) (n ∷ ms) (suc i) c m all one other = keeps-at consoles ms i c m all.1 one other

-- a job asks one of its consoles for an output
asked-of : (kind : OutKind) (there : Option ConsoleJob) → is_some (option_and_then (line_in kind) there) ≡ true
    → (console : ConsoleJob) × (there ≡ Some console) × (asks_for console kind ≡ true)
asked-of kind None asks = absurd cc
asked-of kind (Some console) asks = (console, refl, asks)

counted : (kind : OutKind) (c : ConsoleJob) (m : Machine) (bytes : List ℕ) → Keeps c m → asks_for c kind ≡ true
    → IsMade kind m bytes → IsCounted kind m bytes
counted Frames c m bytes keeps asks made = ap length made ∙ keeps.counts.made.frames (keeps.frames ∙ asks)
counted Samples c m bytes keeps asks made = ap length made ∙ keeps.counts.made.samples (keeps.samples ∙ asks)
counted Words c m bytes keeps asks made =
    record { transfers = m.board.ended.words; many = keeps.counts.ended (keeps.words ∙ asks); lines = made }
counted State c m bytes keeps asks made = tt
counted Save c m bytes keeps asks made = tt

pub counts-files : CountsAlways → CountsItsFiles
counts-files always files words job inputs run comes says passes place asked =
    let file = (kept files words job inputs run comes says passes).asked place asked in
    let is : IsJob job = sound says.bytes job says.says in
    let long = zip-long job.consoles inputs (inputs-sound files job.consoles inputs is.each passes) in
    let whole : WholeJob = filled job inputs in
    let there = asked-of place.kind (slice_get whole.consoles place.player)
    (filled-asks place.kind job.consoles inputs place.player long ∙ asked) in
    let all = end-keeps always whole (map images_in inputs)
    (length-map inputs images_in ∙ sym long ∙ sym (filled-long job.consoles inputs long)) in
    let keeps = keeps-at whole.consoles (end_with job inputs).consoles place.player there.0 file.console all there.1
    file.of_player in
    record {
      bytes = file.bytes;
      written = file.written;
      console = file.console;
      of_player = file.of_player;
      counted = counted place.kind there.0 file.console file.bytes keeps there.2 file.made;
    }
