-- A session before its first segment.
use Rattle.std.proofs.Common.{◌≡◌, ◌+◌, ◌<◌, ◌≤◌, ◌∙◌, ℕ, zero, suc, Bool, true, false, not, nat_lt, List, [], ◌∷◌, length, get_or, map, refl, sym, ap, subst, arith, if◌then◌else◌}
use Rattle.std.specs.List.{All}
use Rattle.std.proofs.lemmas.List.{get_or-map, length-map}
use Rattle.gba_console.specs.Alone.{console_kind}
use Rattle.gba_console.specs.Machine.{Machine, forgotten, without_limit}
use Rattle.gba_console.specs.Segments.{forgotten_cut}
use Rattle.gba_image.specs.declared.images.ConsoleImages.{ConsoleImages}
use Rattle.gba_joblog.specs.Job.{ConsoleJob, WholeJob}
use Rattle.gba_joblog.specs.Soundness.{IsJob}
use Rattle.gba_joblog.specs.declared.outputs.OutKind.TheVariants.{Words}
use Rattle.gba_joblog.specs.declared.outputs.PerKind.{PerKind}
use Rattle.gba_session.proofs.Consoles.{consoles-empty, made-length, start-cable, start-sound}
use Rattle.gba_session.specs.Digests.{IsFresh}
use Rattle.gba_session.specs.Files.{asks_of, output_bytes}
use Rattle.gba_session.specs.Held.{CanRun, HasPieces, IsSegmented, IsUnused, asks_in, session_value}
use Rattle.gba_session.specs.Session.{Consoles, is_over, prepared, segment_cut}
use Rattle.gba_session.specs.Start.{console_at, consoles_from, run_until, start_of}
use Rattle.gba_session.specs.declared.player.Player.{Player}
use Rattle.link_node.specs.declared.delays.Delays.{Delays}
use Rattle.link_order.specs.Cut.{Cut, IsCable, IsSound, clock_at, live, opening, plain_cut}
use Rattle.link_order.specs.GlobalOrder.{after_turns, cycles_left, least, run, step, trace_of}

none-below : (n : ℕ) → nat_lt n 0 ≡ false
none-below n = grind arith

trace-none : (most : ℕ) (cut : Cut Machine) → trace_of console_kind most cut 0 ≡ []
unfolding trace_of
trace-none zero cut = refl
trace-none (suc most) cut =
    ap (λ (test : Bool).
    if test then least console_kind cut ∷ trace_of console_kind most (step console_kind cut) 0 else [])
    (none-below (clock_at console_kind cut (least console_kind cut)))

-- no step begins below 0
no-run : (cut : Cut Machine) → run console_kind cut 0 ≡ cut
unfolding after_turns
no-run cut = ap (after_turns console_kind cut) (trace-none (cycles_left console_kind cut 0) cut)

no-steps : (consoles : List Machine) (ds : Delays) → run_until 0 (opening consoles ds) ≡ opening consoles ds
no-steps consoles ds = ap (live console_kind) (no-run (opening consoles ds))

not-over-yet : (until : ℕ) → 1 ≤ until → not (nat_lt 0 until) ≡ false
not-over-yet until some = grind (arith, some)

-- what a console has made at reset
pub reset-empty : (job : WholeJob) (images : List ConsoleImages) (k : ℕ) (m : Machine)
    → k < length (start_of job images).consoles
    → get_or (run_until 0 (start_of job images)).consoles k m ≡ forgotten (get_or (start_of job images).consoles k m)
reset-empty job images k m within =
    let all = consoles_from job 0 job.consoles images in
    ap (λ (c : Cut Machine). get_or c.consoles k m) (no-steps all job.delays)
    ∙ ap (λ (ms : List Machine). get_or ms k m) (sym (consoles-empty job 0 job.consoles images))
    ∙ get_or-map forgotten all k m m within

-- a job's consoles at reset have made nothing, and have a segment to run
pub prepared-fresh : (job : WholeJob) (images : List ConsoleImages) → IsJob job → IsFresh (prepared job images)
prepared-fresh job images sound = record {
  left = not-over-yet job.cycles sound.some_cycles;
  empty = λ k m within.
      let reset = no-steps (consoles_from job 0 job.consoles images) job.delays in
      let at : get_or (run_until 0 (start_of job images)).consoles k m
      ≡ forgotten (get_or (start_of job images).consoles k m) =
      reset-empty job images k m (omega (arith, within, ap (λ (c : Cut Machine). length c.consoles) reset)) in
      at ∙ sym (ap forgotten at);
}

plain-from : (job : WholeJob) (player : ℕ) (consoles : List ConsoleJob) (images : List ConsoleImages)
    → map without_limit (consoles_from job player consoles images) ≡ consoles_from job player consoles images
unfolding consoles_from
plain-from job player [] images = refl
plain-from job player (c ∷ consoles) [] = refl
plain-from job player (c ∷ consoles) (one ∷ images) =
    ap (λ (ms : List Machine). without_limit (console_at job player c one) ∷ ms)
    (plain-from job (player + 1) consoles images)

-- a job's consoles can run
pub start-can : (job : WholeJob) (images : List ConsoleImages) → IsJob job → length images ≡ length job.consoles
    → CanRun (start_of job images)
start-can job images sound whole =
    let made : List Machine = consoles_from job 0 job.consoles images in
    let plain : map without_limit made ≡ made = plain-from job 0 job.consoles images in
    let is : plain_cut without_limit (opening made job.delays) ≡ start_of job images =
    ap (λ (ms : List Machine). opening ms job.delays) plain in
    let cable : IsCable (start_of job images) = subst IsCable is (start-cable job images made sound whole plain) in
    record {
      some_console = cable.some_console;
      delays = cable.some_delay;
      sound = subst (IsSound console_kind) is (start-sound job images made sound whole plain);
    }

pub start-long : (job : WholeJob) (images : List ConsoleImages) → IsJob job → length images ≡ length job.consoles
    → length (start_of job images).consoles ≡ length job.consoles
start-long job images sound whole =
    let made : List Machine = consoles_from job 0 job.consoles images in
    made-length job images made sound whole (plain-from job 0 job.consoles images)

-- a cut whose consoles are those of a job at reset has nothing on its way
pub plain-consoles : (job : WholeJob) (images : List ConsoleImages) (cut : Cut Machine)
    → plain_cut without_limit cut ≡ start_of job images
    → map without_limit cut.consoles ≡ consoles_from job 0 job.consoles images
plain-consoles job images cut is = ap (λ (c : Cut Machine). c.consoles) is

pub opened : (job : WholeJob) (images : List ConsoleImages) (cut : Cut Machine)
    → plain_cut without_limit cut ≡ start_of job images → cut ≡ opening cut.consoles job.delays
opened job images cut is =
    ap (λ (c : Cut Machine). let whole : Cut Machine = record c { consoles = cut.consoles } in whole) is

not-over : (until : ℕ) → 1 ≤ until → not (nat_lt 0 until) ≡ true → ⊥
not-over until some over = grind (arith, some, over)

module _ (job : WholeJob) (images : List ConsoleImages) (made : List Machine) (players : List Player)
    (cut snap : Cut Machine) (sound : IsJob job) (whole : length images ≡ length job.consoles)
    (is : map without_limit made ≡ consoles_from job 0 job.consoles images)
    (made_cut : cut ≡ opening made job.delays) (snapped : snap ≡ cut)
    (unused : All IsUnused players) (asks : map asks_in players ≡ map asks_of job.consoles) where
  consoles : List Machine
  consoles = consoles_from job 0 job.consoles images

  pub plain-is : plain_cut without_limit cut ≡ start_of job images
  plain-is =
      ap (plain_cut without_limit) made_cut ∙ ap (λ (ms : List Machine). opening ms job.delays) is

  pub start-is : plain_cut without_limit snap ≡ start_of job images
  start-is = ap (plain_cut without_limit) snapped ∙ plain-is

  first : Consoles
  first = session_value (start_of job images) 0 0 job.cycles players

  segment-is : segment_cut first ≡ start_of job images
  unfolding first
  segment-is =
      ap (λ (c : Cut Machine). run_until 0 (forgotten_cut c))
      (no-steps (consoles_from job 0 job.consoles images) job.delays)
      ∙ no-steps (map forgotten (consoles_from job 0 job.consoles images)) job.delays
      ∙ ap (λ (ms : List Machine). opening ms job.delays) (consoles-empty job 0 job.consoles images)

  nodes : cut.consoles ≡ made
  nodes = ap (λ (c : Cut Machine). c.consoles) made_cut

  many : length players ≡ length cut.consoles
  many =
      sym (length-map players asks_in) ∙ ap length asks ∙ length-map job.consoles asks_of
      ∙ sym (made-length job images made sound whole is) ∙ sym (ap length nodes)

  there-at : (k : ℕ) → k < length players → k < length (start_of job images).consoles
  there-at k within = omega (arith, within, many, ap length nodes, length-map made without_limit, ap length is)

  -- the lists of each console are empty
  empty-at : (k : ℕ) (m : Machine) → k < length players
      → get_or (start_of job images).consoles k m ≡ forgotten (get_or (start_of job images).consoles k m)
  empty-at k m within =
      ap (λ (c : Cut Machine). get_or c.consoles k m)
      (sym (no-steps (consoles_from job 0 job.consoles images) job.delays))
      ∙ reset-empty job images k m (there-at k within)

  no-pieces : (k : ℕ) (p : Player) (m : Machine) → k < length players
      → HasPieces (is_over first) (get_or players k p) (get_or (segment_cut first).consoles k m)
  unfolding first
  no-pieces k p m within =
      let has = unused k p within in
      let at : get_or (segment_cut first).consoles k m ≡ forgotten (get_or (start_of job images).consoles k m) =
      ap (λ (c : Cut Machine). get_or c.consoles k m) segment-is ∙ empty-at k m within in
      record {
        words = λ asked. has.words ∙ sym (ap (output_bytes Words) at);
        state = λ over. absurd (not-over job.cycles sound.some_cycles over);
        save = λ over. absurd (not-over job.cycles sound.some_cycles over);
      }

  begins-first : IsSegmented first cut players
  unfolding first
  begins-first = record {
    is = plain-is ∙ sym segment-is;
    late = λ k d within. omega arith;
    begun = omega arith;
    within = omega arith;
    most = omega (arith, sound.few_cycles);
    start = start-can job images sound whole;
    many = many;
    rooms = λ k p within. (unused k p within).room;
    pieces = no-pieces;
  }

  pub begins : IsSegmented (session_value (plain_cut without_limit snap) 0 0 job.cycles players) cut players
  unfolding first
  begins =
      subst (λ (c : Cut Machine). IsSegmented (session_value c 0 0 job.cycles players) cut players) (sym start-is)
      begins-first

  pub begins-prepared : session_value (plain_cut without_limit snap) 0 0 job.cycles players ≡ prepared job images
  begins-prepared =
      let at : Cut Machine → List (PerKind Bool) → Consoles = λ start asked.
      record { start = start; from = 0; to = 0; until = job.cycles; asks = asked } in
      ap (λ (c : Cut Machine). at c (map asks_in players)) start-is ∙ ap (at (start_of job images)) asks
