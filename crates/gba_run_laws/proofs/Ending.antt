-- What consoles count.
use Rattle.std.proofs.Common.{ℕ, ◌≡◌, ◌<◌, ◌≤◌, ◌+◌, ◌*◌, zero, suc, Bool, true, false, ◌&&◌, List, [], ◌∷◌, inl, inr, refl, ◌∙◌, arith, if◌then◌else◌}
use Rattle.std.specs.Prelude.{All, Option, None, Some, nat_le}
use Rattle.std.proofs.lemmas.Bool.Decides.{nat_tests}
use Rattle.std.proofs.lemmas.List.Elements.{All-head, All-tail}
use Rattle.gba_bus.specs.declared.width.Width.{Width}
use Rattle.gba_device_laws.specs.Cable.{last_clock}
use Rattle.gba_devices.specs.Cycles.{draws_line, makes_pair}
use Rattle.gba_devices.specs.State.{after_dma_unit}
use Rattle.gba_io.specs.Board.{board_after, board_cycle}
use Rattle.gba_io.specs.Bus.{core_written}
use Rattle.gba_io.specs.Cable.{WritesKeepEnds, board_ended, board_taken}
use Rattle.gba_io.specs.Core.{Core}
use Rattle.gba_io.specs.Ended.{Ended, count_with}
use Rattle.gba_io.specs.Drawing.{ends_frame}
use Rattle.gba_io.specs.Keeping.{WritesKeepTime}
use Rattle.gba_io.specs.Units.{unit_ended}
use Rattle.gba_io.specs.declared.board.Board.{Board}
use Rattle.gba_serial.specs.Apart.{EndsApart, next_end, next_end_of}
use Rattle.gba_serial.specs.End.{ended_of, ending_of, finished, transfer_of}
use Rattle.gba_serial.specs.Law.{StaysSeated}
use Rattle.gba_serial.specs.SerialUnit.{SerialUnit}
use Rattle.gba_serial.specs.declared.transfer.Running.{Running}
use Rattle.link_node.specs.Due.{InOrder, IsDue, Precedes}
use Rattle.link_node.specs.declared.signal.Incoming.{Incoming}
use Rattle.gba_console.proofs.Taking.{all-map}
use Rattle.gba_console.specs.Step.{acted, all_taken}
use Rattle.gba_run_laws.proofs.Acting.{acted-keeps}

-- ---- frames and pairs

either-more : (test : Bool) (count : ℕ) → (if test then count + 1 else count) ≤ count + 1
either-more true count = omega arith
either-more false count = omega arith

pub frames-few : (cycles : ℕ) (b : Board) → (board_after cycles b).made.frame_count ≤ b.made.frame_count + cycles
unfolding board_after board_cycle
frames-few zero b = omega arith
frames-few (suc cycles) b =
    let before = frames-few cycles b in
    let c = (board_after cycles b).core in
    let more =
    either-more (draws_line c.devices && ends_frame c.devices.place) (board_after cycles b).made.frame_count in
    omega (arith, before, more)

pub pairs-few : (cycles : ℕ) (b : Board) → (board_after cycles b).made.pairs ≤ b.made.pairs + cycles
unfolding board_after board_cycle
pairs-few zero b = omega arith
pairs-few (suc cycles) b =
    let before = pairs-few cycles b in
    let more = either-more (makes_pair (board_after cycles b).core.devices) (board_after cycles b).made.pairs in
    omega (arith, before, more)

-- ---- transfers

-- at a clock: those that ended took 512 cycles each, and the next one takes as many
pub record EndsHold (clock : ℕ) (b : Board) : Type 0 where
  pub past : 512 * b.ended.count ≤ clock
  pub next : 512 * (b.ended.count + 1) ≤ next_end b.core.serial
  pub seat : 1 ≤ b.core.serial.count

ends-later : (early late : ℕ) (b : Board) → early ≤ late → EndsHold early b → EndsHold late b
ends-later early late b before is =
    let past = is.past in
    record { past = omega (arith, past, before); next = is.next; seat = is.seat }

past-ended : (clock : ℕ) (e : Ended) (run : Option Running) (u : SerialUnit) → 512 * e.count ≤ clock
    → 512 * (e.count + 1) ≤ next_end_of run → 512 * count_with (ending_of clock run u) e ≤ clock
past-ended clock e None u past next = past
past-ended clock e (Some run) u past next = by_end (nat_le run.end clock) refl
  where
    by_end : (test : Bool) → nat_le run.end clock ≡ test
        → 512 * count_with (if test then Some (transfer_of run u) else None) e ≤ clock
    by_end true over = grind (arith, nat_tests, over, next)
    by_end false running = past

next-ended : (clock : ℕ) (e : Ended) (run : Option Running) (u : SerialUnit) → clock ≤ last_clock → u.run ≡ run
    → 512 * (e.count + 1) ≤ next_end_of run
    → 512 * (count_with (ending_of clock run u) e + 1) ≤ next_end_of (ended_of clock run u).run
unfolding finished
next-ended clock e None u near same next = rw same next
next-ended clock e (Some run) u near same next = by_end (nat_le run.end clock) refl
  where
    by_end : (test : Bool) → nat_le run.end clock ≡ test
        → 512 * (count_with (if test then Some (transfer_of run u) else None) e + 1)
        ≤ next_end_of (if test then finished run u else u).run
    by_end true over = grind (arith, nat_tests, over, next, near)
    by_end false running = rw same next

module _ (apart : EndsApart) (seated : StaysSeated) where
  pub ends-ended : (clock : ℕ) (b : Board) → clock ≤ last_clock → EndsHold clock b
      → EndsHold clock (board_ended clock b)
  ends-ended clock b near is = record {
    past = past-ended clock b.ended b.core.serial.run b.core.serial is.past is.next;
    next = next-ended clock b.ended b.core.serial.run b.core.serial near refl is.next;
    seat = rw ((seated.ended clock b.core.serial).count) is.seat;
  }

  ends-taken : (due : Incoming) (b : Board) → due.arrival ≤ last_clock → EndsHold due.arrival b
      → EndsHold due.arrival (board_taken due b)
  ends-taken due b near is =
      let ended = ends-ended due.arrival b near is in
      let past = ended.past in
      record {
        past = ended.past;
        next =
            apart.taken due (512 * ((board_ended due.arrival b).ended.count + 1))
            (board_ended due.arrival b).core.serial (omega (arith, past)) ended.next;
        seat = rw ((seated.taken due (board_ended due.arrival b).core.serial).count) ended.seat;
      }

  -- the signals of a step, one after another
  pairs-head : (x : Incoming) (xs : List Incoming) → InOrder (x ∷ xs) → All (Precedes x) xs
  pairs-head x xs h k d below = h 0 (suc k) d (omega arith) (omega (arith, below))

  pairs-tail : (x : Incoming) (xs : List Incoming) → InOrder (x ∷ xs) → InOrder xs
  pairs-tail x xs h i j d less below = h (suc i) (suc j) d (omega (arith, less)) (omega (arith, below))

  follows : (a b : Incoming) → Precedes a b → a.arrival ≤ b.arrival
  follows a b (inl less) = omega (arith, less)
  follows a b (inr same) = let equal = same.0 in omega (arith, equal)

  all-follow : (a : Incoming) (xs : List Incoming) → All (Precedes a) xs → All (λ due. a.arrival ≤ due.arrival) xs
  all-follow a xs = all-map (Precedes a) (λ due. a.arrival ≤ due.arrival) xs (follows a)

  pub ends-all : (was clock from : ℕ) (dues : List Incoming) (b : Board) → clock ≤ last_clock → InOrder dues
      → All (IsDue was clock) dues → All (λ due. from ≤ due.arrival) dues → from ≤ clock → EndsHold from b
      → EndsHold clock (all_taken dues b)
  ends-all was clock from [] b near ordered all behind before is = ends-later from clock b before is
  ends-all was clock from (due ∷ dues) b near ordered all behind before is =
      let here = All-head (IsDue was clock) due dues all in
      let by_now = here.by_now in
      let first = All-head (λ one. from ≤ one.arrival) due dues behind in
      ends-all was clock due.arrival dues (board_taken due b) near (pairs-tail due dues ordered)
      (All-tail (IsDue was clock) due dues all) (all-follow due dues (pairs-head due dues ordered)) by_now
      (ends-taken due b (omega (arith, by_now, near)) (ends-later from due.arrival b first is))

-- ---- what a step does

record Nears (clock bound : ℕ) (b : Core) : Type 0 where
  now : b.devices.clock ≡ clock
  next : bound ≤ next_end b.serial
  seat : 1 ≤ b.serial.count

module _ (ends : WritesKeepEnds) (times : WritesKeepTime) where
  written-nears : (clock bound : ℕ) → bound ≤ clock + 512 → (b : Core) (address : ℕ) (width : Width) (value : ℕ)
      → Nears clock bound b → Nears clock bound (core_written b address width value)
  written-nears clock bound soon b address width value is =
      let now = is.now in
      record {
        now = (times b address width value).clock ∙ is.now;
        next = ends.next bound b address width value is.seat (omega (arith, soon, now)) is.next;
        seat = rw (ends.count b address width value) is.seat;
      }

  unit-nears : (clock bound channel : ℕ) (b : Core) → channel < 4 → Nears clock bound b
      → Nears clock bound (unit_ended channel b)
  unfolding after_dma_unit
  unit-nears clock bound channel b few is = record { now = is.now; next = is.next; seat = is.seat }

  pub acted-nears : (clock bound : ℕ) → bound ≤ clock + 512 → (file : List ℕ) (b : Core) → b.devices.clock ≡ clock
      → bound ≤ next_end b.serial → 1 ≤ b.serial.count → bound ≤ next_end (acted file b).bus.serial
  acted-nears clock bound soon file b now next seat =
      (acted-keeps (Nears clock bound) (written-nears clock bound soon)
      (λ c is. record { now = is.now; next = is.next; seat = is.seat }) (unit-nears clock bound) file b
      (record { now = now; next = next; seat = seat })).next

  pub acted-clock : (clock : ℕ) (file : List ℕ) (b : Core) → b.devices.clock ≡ clock
      → (acted file b).bus.devices.clock ≡ clock
  unfolding after_dma_unit
  acted-clock clock file b now =
      acted-keeps (λ c. c.devices.clock ≡ clock) (λ c address width value is. (times c address width value).clock ∙ is)
      (λ c is. is) (λ channel c few is. is) file b now
