-- A session that goes on from a cut, before its first segment.
use Rattle.std.proofs.Common.{◌≡◌, ◌<◌, ◌≤◌, ◌∙◌, ℕ, zero, suc, Bool, true, false, not, nat_lt, List, [], ◌∷◌, length, get_or, map, refl, sym, ap, subst, arith, if◌then◌else◌}
use Rattle.std.specs.List.{All}
use Rattle.std.proofs.lemmas.List.{get_or-map, length-map}
use Rattle.gba_console.specs.Alone.{console_kind}
use Rattle.gba_console.specs.Machine.{Machine, clock_of, forgotten, without_limit}
use Rattle.gba_console.specs.Segments.{forgotten_cut}
use Rattle.gba_joblog.specs.Job.{WholeJob}
use Rattle.gba_joblog.specs.Soundness.{IsJob}
use Rattle.gba_joblog.specs.declared.outputs.OutKind.TheVariants.{Words}
use Rattle.gba_joblog.specs.declared.outputs.PerKind.{PerKind}
use Rattle.gba_session.specs.Files.{asks_of, output_bytes}
use Rattle.gba_session.specs.Held.{HasPieces, IsSegmented, IsUnused, asks_in, session_value}
use Rattle.gba_session.specs.Session.{AreEmpty, Consoles, is_over, least_clock, resumed, segment_begin, segment_cut}
use Rattle.gba_session.specs.Start.{run_until}
use Rattle.gba_session.specs.declared.player.Player.{Player}
use Rattle.link_core.specs.Kept.{AllLive}
use Rattle.link_order.specs.Cut.{Cut, IsCable, IsSound, clock_at, count, live, plain_cut}
use Rattle.link_order.proofs.LiveRuns.{live_whole}
use Rattle.link_order.proofs.Numbers.{least_is_least}
use Rattle.link_order.specs.GlobalOrder.{after_turns, cycles_left, least, run, step, trace_of}

-- no step begins where the least clock has come to the end
none-below : (a b : ℕ) → b ≤ a → nat_lt a b ≡ false
none-below a b past = grind arith

trace-none : (most : ℕ) (cut : Cut Machine) (until : ℕ) → until ≤ least_clock cut
    → trace_of console_kind most cut until ≡ []
unfolding trace_of
trace-none zero cut until past = refl
trace-none (suc most) cut until past =
    ap (λ (test : Bool).
    if test then least console_kind cut ∷ trace_of console_kind most (step console_kind cut) until else [])
    (none-below (least_clock cut) until past)

pub no-run : (cut : Cut Machine) (until : ℕ) → until ≤ least_clock cut → run console_kind cut until ≡ cut
unfolding after_turns
no-run cut until past =
    ap (after_turns console_kind cut) (trace-none (cycles_left console_kind cut until) cut until past)

pub no-steps : (cut : Cut Machine) (until : ℕ) → AllLive console_kind cut → until ≤ least_clock cut
    → run_until until cut ≡ cut
no-steps cut until awaited past =
    ap (live console_kind) (no-run cut until past) ∙ live_whole console_kind cut awaited

pub begins-below : (until clock : ℕ) → segment_begin until clock ≤ clock
begins-below until clock = omega arith

pub begins-before : (until clock : ℕ) → 1 ≤ until → segment_begin until clock < until
begins-before until clock some = omega (arith, some)

not-over : (to until : ℕ) → to < until → not (nat_lt to until) ≡ true → ⊥
not-over to until early over = grind (arith, early, over)

module _ (job : WholeJob) (cut snap : Cut Machine) (players : List Player) (sound : IsJob job)
    (long : length cut.consoles ≡ length job.consoles) (empty : AreEmpty cut) (snapped : snap ≡ cut)
    (cable : IsCable (plain_cut without_limit cut)) (holds : IsSound console_kind (plain_cut without_limit cut))
    (awaited : AllLive console_kind (plain_cut without_limit cut))
    (unused : All IsUnused players) (asks : map asks_in players ≡ map asks_of job.consoles) where
  abbrev start : Cut Machine
  start = plain_cut without_limit cut

  abbrev begin : ℕ
  begin = segment_begin job.cycles (least_clock start)

  abbrev first : Consoles
  first = session_value start begin begin job.cycles players

  past : begin ≤ least_clock start
  past = begins-below job.cycles (least_clock start)

  early : begin < job.cycles
  early = begins-before job.cycles (least_clock start) sound.some_cycles

  all-empty : (ms : List Machine) → All (λ (m : Machine). without_limit m ≡ forgotten (without_limit m)) ms
      → map forgotten (map without_limit ms) ≡ map without_limit ms
  all-empty [] empty = refl
  all-empty (m ∷ ms) empty =
      ap (λ (one : Machine). one ∷ map forgotten (map without_limit ms)) (sym (empty 0 m (omega arith)))
      ∙ ap (λ (rest : List Machine). without_limit m ∷ rest)
      (all-empty ms (λ k d within. empty (suc k) d (omega (arith, within))))

  empty-start : forgotten_cut start ≡ start
  empty-start =
      ap (λ (ms : List Machine). let whole : Cut Machine =
      record { consoles = ms; delays = cut.delays; sent = cut.sent } in whole)
      (all-empty cut.consoles empty)

  stays : run_until begin start ≡ start
  stays = no-steps start begin awaited past

  segment-is : segment_cut first ≡ start
  segment-is =
      ap (λ (c : Cut Machine). run_until begin (forgotten_cut c)) stays
      ∙ ap (run_until begin) empty-start ∙ stays

  many : length players ≡ length cut.consoles
  many = sym (length-map players asks_in) ∙ ap length asks ∙ length-map job.consoles asks_of ∙ sym long

  empty-at : (k : ℕ) (m : Machine) → k < length players
      → get_or start.consoles k m ≡ forgotten (get_or start.consoles k m)
  empty-at k m within =
      ap (λ (c : Cut Machine). get_or c.consoles k m) (sym empty-start)
      ∙ get_or-map forgotten start.consoles k m m (omega (arith, within, many, length-map cut.consoles without_limit))

  no-pieces : (k : ℕ) (p : Player) (m : Machine) → k < length players
      → HasPieces (is_over first) (get_or players k p) (get_or (segment_cut first).consoles k m)
  no-pieces k p m within =
      let has = unused k p within in
      let at : get_or (segment_cut first).consoles k m ≡ forgotten (get_or start.consoles k m) =
      ap (λ (c : Cut Machine). get_or c.consoles k m) segment-is ∙ empty-at k m within in
      record {
        words = λ asked. has.words ∙ sym (ap (output_bytes Words) at);
        state = λ over. absurd (not-over begin job.cycles early over);
        save = λ over. absurd (not-over begin job.cycles early over);
      }

  all-late : All (λ (m : Machine). begin ≤ clock_of m) cut.consoles
  all-late k d within =
      let ms = cut.consoles in
      let long_as = length-map ms without_limit in
      let least_one = least_is_least (clock_at console_kind start) (count start) k (omega (arith, within, long_as)) in
      let here = get_or-map clock_of (map without_limit ms) k (without_limit d) 0 (omega (arith, within, long_as)) in
      let plain = get_or-map without_limit ms k d (without_limit d) within in
      let is = here ∙ ap clock_of plain in
      omega (arith, past, least_one, is)

  begins-first : IsSegmented first cut players
  begins-first = record {
    is = sym segment-is;
    late = all-late;
    begun = omega arith;
    within = omega (arith, early);
    most = omega (arith, sound.few_cycles);
    start = record { some_console = cable.some_console; delays = cable.some_delay; sound = holds };
    many = many;
    rooms = λ k p within. (unused k p within).room;
    pieces = no-pieces;
  }

  start-is : plain_cut without_limit snap ≡ start
  start-is = ap (plain_cut without_limit) snapped

  pub begins : IsSegmented (session_value (plain_cut without_limit snap) begin begin job.cycles players) cut players
  begins =
      subst (λ (c : Cut Machine). IsSegmented (session_value c begin begin job.cycles players) cut players)
      (sym start-is) begins-first

  pub begins-resumed : session_value (plain_cut without_limit snap) begin begin job.cycles players ≡ resumed job start
  begins-resumed =
      let at : Cut Machine → List (PerKind Bool) → Consoles = λ from asked.
      record { start = from; from = begin; to = begin; until = job.cycles; asks = asked } in
      ap (λ (c : Cut Machine). at c (map asks_in players)) start-is ∙ ap (at start) asks
