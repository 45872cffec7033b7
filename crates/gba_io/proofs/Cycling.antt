use Rattle.std.proofs.Common.{◌≡◌, ℕ, ℤ, zero, suc, Bool, true, false, ◌+◌, ◌*◌, ◌/◌, ◌%◌, ◌∙◌, List, [], ◌∷◌, ◌++◌, length, refl, sym, subst, ap, arith, if◌then◌else◌}
use Rattle.std.specs.Prelude.{◌==◌, ◌||◌, ◌&&◌}
use Rattle.std.proofs.lemmas.Bool.Decides.{nat_tests}
use Rattle.std.specs.List.{concat}
use Rattle.std.proofs.lemmas.List.{length-append}
use Rattle.gba_devices.specs.Cycles.{CyclePasses, after_cycles, device_cycle, draws_at, draws_line, draws_within, makes_pair, makes_within}
use Rattle.gba_devices.specs.Samples.{left_sample, right_sample}
use Rattle.gba_devices.specs.State.{Devices}
use Rattle.gba_ppu_reg.specs.Position.{IsPosition, cycle as place_cycle}
use Rattle.gba_ppu_reg.specs.declared.position.Position.{Position}
use Rattle.gba_io.specs.Board.{BoardPasses, HasRoom, IsInStep, QuietBoard, UnheardBoard, board_after, board_cycle, frame_in_cycle, lines_in_cycle, lines_with, made_in_cycle, pairs_within, unheard}
use Rattle.gba_io.specs.Base.{early_at}
use Rattle.gba_io.specs.Core.{Core, core_after, core_cycled}
use Rattle.gba_io.specs.Drawing.{cycles_early, cycles_in, drawn_line, ends_frame, lines_drawn}
use Rattle.gba_io.specs.Made.{Made, sample_bytes, with_frame, with_pair}
use Rattle.gba_io.specs.declared.board.Board.{Board}
use Rattle.gba_io.proofs.Drawing.{frames-go, lines-go, place-sound}

-- Cycles of a board, one after another.

pub board-none : (b : Board) → board_after 0 b ≡ b
unfolding board_after
board-none b = refl

pub board-one : (count : ℕ) (b : Board) → board_cycle (board_after count b) ≡ board_after (count + 1) b
unfolding board_after
board-one count b =
    let sum : suc count ≡ count + 1 = omega arith in
    ap (λ n. board_after n b) sum

pub board-sum : (count more : ℕ) (b : Board) → board_after count (board_after more b) ≡ board_after (count + more) b
unfolding board_after
board-sum zero more b = ap (λ n. board_after n b) (omega arith)
board-sum (suc count) more b =
    let sum : suc (count + more) ≡ suc count + more = omega arith in
    ap board_cycle (board-sum count more b) ∙ ap (λ n. board_after n b) sum

-- the pairs go with the clock
pairs-in : (clock pairs begun before : ℕ) → pairs + begun ≡ before + clock / 512
    → (if (clock + 1) % 512 == 0 then pairs + 1 else pairs) + begun ≡ before + (clock + 1) / 512
pairs-in clock pairs begun before same = grind (arith, nat_tests)

-- a line that is drawn is one more, and the last one ends the frame
pub drawn-in : (draws ends : Bool) (count next : ℕ) (lines : List (List ℕ)) (line : List ℕ) → length lines ≡ count
    → (if draws then (if ends then 0 else count + 1) else count) ≡ next
    → length (if draws then (if ends then [] else lines ++ (line ∷ [])) else lines) ≡ next
drawn-in true true count next lines line before same = same
drawn-in true false count next lines line before same =
    length-append lines (line ∷ []) ∙ omega (arith, before, same)
drawn-in false ends count next lines line before same = before ∙ same

module _ (keeps : (d : Devices) → CyclePasses d) where
  -- a cycle keeps what is made in step
  step-in : (b : Board) → IsInStep b → IsInStep (board_cycle b)
  unfolding board_cycle
  step-in b step =
      let d = b.core.devices in
      let p = d.place in
      let kept = keeps d in
      let place = λ (q : Position). IsPosition q in
      let base = b.made.base in
      let before : ℕ = 280896 * base.frames + base.cycles in
      let begun : ℕ = base.clock + early_at base.cycles in
      let frames = λ (clock : ℕ) (q : Position). clock + cycles_early q + before
      ≡ 280896 * (if draws_at (place_cycle p) && ends_frame p then b.made.frame_count + 1 else b.made.frame_count)
      + cycles_in q + begun in
      let drawn = λ (q : Position). length (lines_in_cycle b.core) ≡ lines_drawn q in
      record {
        place = subst place (sym kept.place) (place-sound p step.place);
        pairs =
            pairs-in d.clock b.made.pairs (base.clock / 512) base.pairs step.pairs
            ∙ ap (λ n. base.pairs + n / 512) (sym kept.clock);
        frames =
            subst (λ (clock : ℕ). frames clock (device_cycle d).place) (sym kept.clock)
            (subst (frames (d.clock + 1)) (sym kept.place)
            (frames-go d.clock b.made.frame_count before begun p step.place step.frames));
        drawn = subst drawn (sym kept.place)
            (drawn-in (draws_at (place_cycle p)) (ends_frame p) (lines_drawn p) (lines_drawn (place_cycle p))
            b.core.lines (drawn_line b.core) step.drawn (lines-go p step.place));
      }

  pub passes : (cycles : ℕ) (b : Board) → BoardPasses cycles b
  unfolding board_after after_cycles board_cycle
  passes zero b = record {
    memory = refl;
    serial = refl;
    ended = refl;
    devices = refl;
    clock = omega arith;
    until = refl;
    step = λ step. step;
  }
  passes (suc count) b =
      let before = passes count b in
      let mid = board_after count b in
      let last = (keeps mid.core.devices).clock in
      record {
        memory = before.memory;
        serial = before.serial;
        ended = before.ended;
        devices = ap device_cycle before.devices;
        clock = omega (arith, last, before.clock);
        until = before.until;
        step = λ step. step-in mid (before.step step);
      }

none-of : (one other : Bool) → (one || other) ≡ false → one ≡ false
none-of false other none = refl
none-of true other none = cc

nor-other : (one other : Bool) → (one || other) ≡ false → other ≡ false
nor-other false other none = none
nor-other true other none = cc

no-frame : (draws ends : Bool) (frame : List ℕ) (m : Made) → draws ≡ false → with_frame (draws && ends) frame m ≡ m
no-frame false ends frame m none = refl
no-frame true ends frame m none = cc

no-line : (draws ends : Bool) (lines more : List (List ℕ)) → draws ≡ false
    → (if draws then (if ends then [] else more) else lines) ≡ lines
no-line false ends lines more none = refl
no-line true ends lines more none = cc

pub same-lines : (c : Core) → draws_line c.devices ≡ false → lines_in_cycle c ≡ c.lines
same-lines c none = no-line (draws_line c.devices) (ends_frame c.devices.place) c.lines (lines_with c) none

no-pair : (makes : Bool) (left right : ℤ) (m : Made) → makes ≡ false → with_pair makes left right m ≡ m
no-pair false left right m none = refl
no-pair true left right m none = cc

none-in-cycle : (c : Core) (m : Made) → makes_pair c.devices ≡ false → draws_line c.devices ≡ false
    → made_in_cycle c m ≡ m
none-in-cycle c m no_pair no_line =
    let d = device_cycle c.devices in
    no-pair (makes_pair c.devices) (left_sample d) (right_sample d) (frame_in_cycle c m) no_pair
    ∙ no-frame (draws_line c.devices) (ends_frame c.devices.place) (concat (lines_with c)) m no_line

pub quiet-board : QuietBoard
unfolding board_after after_cycles makes_within board_cycle
quiet-board zero b none = refl
quiet-board (suc count) b none =
    let d = b.core.devices in
    let pair = makes_pair (after_cycles count d) in
    let line = draws_line (after_cycles count d) in
    let earlier = none-of (makes_within count d) (pair || line) none in
    let last = nor-other (makes_within count d) (pair || line) none in
    ap board_cycle (quiet-board count b earlier)
    ∙ ap (λ lines. record b {
      core = record (core_cycled (core_after count b.core)) { lines = lines };
      made = made_in_cycle (core_after count b.core) b.made;
    }) (same-lines (core_after count b.core) (nor-other pair line last))
    ∙ ap (λ (m : Made). record b { core = core_cycled (core_after count b.core); made = m })
    (none-in-cycle (core_after count b.core) b.made (none-of pair line last) (nor-other pair line last))

-- where samples aren't kept a pair is only counted
count-pair : (makes keeps : Bool) (left right : ℤ) (m : Made) → m.keeps_samples ≡ keeps → keeps ≡ false
    → with_pair makes left right m ≡ record m { pairs = if makes then m.pairs + 1 else m.pairs }
count-pair true keeps left right m e none =
    ap (λ (kept : Bool). record m {
      samples = if kept then m.samples ++ sample_bytes left ++ sample_bytes right else m.samples;
      pairs = m.pairs + 1;
    }) (e ∙ none)
count-pair false keeps left right m e none = refl

pairs-next : (pairs clock count now : ℕ) → now ≡ clock + count
    → (if (now + 1) % 512 == 0 then pairs + pairs_within count clock + 1 else pairs + pairs_within count clock)
    ≡ pairs + pairs_within (suc count) clock
pairs-next pairs clock count now e = grind (arith, nat_tests)

pairs-none : (pairs clock : ℕ) → pairs ≡ pairs + pairs_within 0 clock
pairs-none pairs clock = omega arith

module _ (keeps : (d : Devices) → CyclePasses d) where
  clock-after : (count : ℕ) (d : Devices) → (after_cycles count d).clock ≡ d.clock + count
  unfolding after_cycles
  clock-after zero d = omega arith
  clock-after (suc count) d = omega (arith, (keeps (after_cycles count d)).clock, clock-after count d)

  unheard-cycle : (count : ℕ) (b : Board) → b.made.keeps_samples ≡ false
      → draws_line (after_cycles count b.core.devices) ≡ false → board_cycle (unheard count b) ≡ unheard (suc count) b
  unfolding board_cycle after_cycles
  unheard-cycle count b none no_line =
      let c = core_after count b.core in
      let m = (unheard count b).made in
      let d = c.devices in
      let sounds = device_cycle d in
      ap (λ lines. record b { core = record (core_cycled c) { lines = lines }; made = made_in_cycle c m })
      (same-lines c no_line)
      ∙ ap (λ (made : Made). record b { core = core_cycled c; made = made })
      (ap (λ (made : Made). with_pair (makes_pair d) (left_sample sounds) (right_sample sounds) made)
      (no-frame (draws_line d) (ends_frame d.place) (concat (lines_with c)) m no_line)
      ∙ count-pair (makes_pair d) b.made.keeps_samples (left_sample sounds) (right_sample sounds) m refl none
      ∙ ap (λ pairs. record b.made { pairs = pairs })
      (pairs-next b.made.pairs b.core.devices.clock count d.clock (clock-after count b.core.devices)))

  pub unheard-board : UnheardBoard
  unfolding board_after after_cycles draws_within
  unheard-board zero b kept none =
      ap (λ pairs. record b { made = record b.made { pairs = pairs } }) (pairs-none b.made.pairs b.core.devices.clock)
  unheard-board (suc count) b kept none =
      let line = draws_line (after_cycles count b.core.devices) in
      let before = draws_within count b.core.devices in
      ap board_cycle (unheard-board count b kept (none-of before line none))
      ∙ unheard-cycle count b kept (nor-other before line none)

-- the room that is left after some of the cycles
pub room-left : (some rest cycles : ℕ) (b after : Board) → rest + some ≡ cycles → after ≡ board_after some b
    → BoardPasses some b → HasRoom cycles b → HasRoom rest after
room-left some rest cycles b after whole e passed room =
    subst (HasRoom rest) (sym e) (record {
      step = passed.step room.step;
      end = omega (arith, whole, passed.clock, passed.until, room.end);
      few = omega (arith, passed.until, room.few);
    })
