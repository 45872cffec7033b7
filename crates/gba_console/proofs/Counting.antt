-- What a console keeps is what it counts.
use Rattle.std.proofs.Common.{◌≡◌, ℕ, zero, suc, Bool, true, false, ◌+◌, ◌*◌, List, [], ◌∷◌, ◌++◌, length, Option, None, Some, refl, sym, ap, ◌∙◌, subst, arith, if◌then◌else◌}
use Rattle.std.specs.Prelude.{◌&&◌}
use Rattle.std.proofs.lemmas.Bool.Decides.{nat_tests}
use Rattle.std.specs.List.{concat, flat_map}
use Rattle.std.proofs.lemmas.List.{append-nil, length-append}
use Rattle.std.proofs.lemmas.List.Concat.{concat_is, flat_map-append}
use Rattle.gba_devices.specs.Cycles.{CyclePasses, device_cycle, draws_at, makes_pair}
use Rattle.gba_devices.specs.Samples.{left_sample, right_sample}
use Rattle.gba_devices.specs.State.{Devices}
use Rattle.gba_io.proofs.Cycling.{drawn-in}
use Rattle.gba_io.proofs.Drawing.{lines-go, place-sound}
use Rattle.gba_screen.proofs.Drawing.{line_length}
use Rattle.gba_io.specs.Board.{BoardPasses, board_after, board_cycle}
use Rattle.gba_io.specs.Cable.{board_taken}
use Rattle.gba_io.specs.Drawing.{drawn_line, ends_frame, lines_drawn}
use Rattle.gba_io.specs.Ended.{Ended, with_transfer}
use Rattle.gba_io.specs.Made.{Made, sample_bytes}
use Rattle.gba_io.specs.declared.board.Board.{Board}
use Rattle.gba_ppu_reg.specs.Position.{IsPosition, cycle as place_cycle}
use Rattle.gba_ppu_reg.specs.declared.position.Position.{Position}
use Rattle.gba_serial.specs.End.{ending}
use Rattle.gba_serial.specs.declared.transfer.Transfer.{Transfer}
use Rattle.link_node.specs.declared.signal.Incoming.{Incoming}
use Rattle.gba_console.specs.Counted.{Counts, CountsAlways, CountsEnded, CountsMade, KeepsKinds}
use Rattle.gba_console.specs.Machine.{Machine, clock_of, is_off, left_of}
use Rattle.gba_console.specs.Passing.{ActsPass}
use Rattle.gba_console.specs.Step.{all_taken, board_begun, done_in, heard, prepared, prepared_off, stepped, stepped_off, stepped_on}
use Rattle.gba_console.specs.StepLaws.{keys-lines, keys-place, off-time, taken-lines, taken-made, taken-place}

-- a line is one list more at the end
concat-more : (lines : List (List ℕ)) (line : List ℕ) → concat (lines ++ (line ∷ [])) ≡ concat lines ++ line
concat-more lines line =
    concat_is (lines ++ (line ∷ []))
    ∙ flat_map-append (λ x. x) lines (line ∷ [])
    ∙ ap (λ (bytes : List ℕ). flat_map (λ x. x) lines ++ bytes) (append-nil line)
    ∙ ap (λ (bytes : List ℕ). bytes ++ line) (sym (concat_is lines))

length-more : (lines : List (List ℕ)) (line : List ℕ)
    → length (concat (lines ++ (line ∷ []))) ≡ length (concat lines) + length line
length-more lines line = ap length (concat-more lines line) ∙ length-append (concat lines) line

-- a cycle
bytes-in : (draws ends : Bool) (count next : ℕ) (lines : List (List ℕ)) (line : List ℕ) → length line ≡ 480
    → length (concat lines) ≡ 480 * count → (if draws then (if ends then 0 else count + 1) else count) ≡ next
    → length (concat (if draws then (if ends then [] else lines ++ (line ∷ [])) else lines)) ≡ 480 * next
bytes-in true true count next lines line whole before same = omega (arith, same)
bytes-in true false count next lines line whole before same =
    length-more lines line ∙ omega (arith, whole, before, same)
bytes-in false ends count next lines line whole before same = omega (arith, before, same)

last-line : (p : Position) → IsPosition p → draws_at (place_cycle p) ≡ true → ends_frame p ≡ true → lines_drawn p ≡ 159
last-line p sound draws ends = grind (arith, nat_tests, sound.line, sound.dot, draws, ends)

frames-in : (draws ends keeps : Bool) (frames : List ℕ) (lines : List (List ℕ)) (line : List ℕ) (count drawn : ℕ)
    → keeps ≡ true → length line ≡ 480 → length (concat lines) ≡ 480 * drawn
    → (draws ≡ true → ends ≡ true → drawn ≡ 159) → length frames ≡ 76800 * count
    → length (if (draws && ends) && keeps then frames ++ concat (lines ++ (line ∷ [])) else frames)
    ≡ 76800 * (if draws && ends then count + 1 else count)
frames-in true true true frames lines line count drawn kept whole before last same =
    length-append frames (concat (lines ++ (line ∷ [])))
    ∙ omega (arith, length-more lines line, whole, before, last refl refl, same)
frames-in true true false frames lines line count drawn kept whole before last same = absurd cc
frames-in true false keeps frames lines line count drawn kept whole before last same = same
frames-in false ends keeps frames lines line count drawn kept whole before last same = same

samples-in : (makes keeps : Bool) (samples left right : List ℕ) (pairs : ℕ) → keeps ≡ true → length left ≡ 2
    → length right ≡ 2 → length samples ≡ 4 * pairs
    → length (if makes && keeps then samples ++ left ++ right else samples) ≡ 4 * (if makes then pairs + 1 else pairs)
samples-in true true samples left right pairs kept two other same =
    length-append (samples ++ left) right ∙ omega (arith, length-append samples left, two, other, same)
samples-in true false samples left right pairs kept two other same = absurd cc
samples-in false keeps samples left right pairs kept two other same = same

module _ (keeps : (d : Devices) → CyclePasses d) where
  cycle-counts : (b : Board) → CountsMade b.core.lines b.core.devices.place b.made
      → CountsMade (board_cycle b).core.lines (board_cycle b).core.devices.place (board_cycle b).made
  unfolding board_cycle
  cycle-counts b counts =
      let d = b.core.devices in
      let p = d.place in
      let draws = draws_at (place_cycle p) in
      let line = drawn_line b.core in
      let whole = line_length d.picture b.core.memory p.line in
      let sounds = device_cycle d in
      let counted : Position → Type 0 = λ q. CountsMade (board_cycle b).core.lines q (board_cycle b).made in
      subst counted (sym (keeps d).place) (record {
        sound = place-sound p counts.sound;
        drawn =
            drawn-in draws (ends_frame p) (lines_drawn p) (lines_drawn (place_cycle p)) b.core.lines line counts.drawn
            (lines-go p counts.sound);
        bytes =
            bytes-in draws (ends_frame p) (lines_drawn p) (lines_drawn (place_cycle p)) b.core.lines line whole
            counts.bytes (lines-go p counts.sound);
        frames = λ kept.
            frames-in draws (ends_frame p) b.made.keeps_frames b.made.frames b.core.lines line b.made.frame_count
            (lines_drawn p) kept whole counts.bytes (last-line p counts.sound) (counts.frames kept);
        samples = λ kept.
            samples-in (makes_pair d) b.made.keeps_samples b.made.samples (sample_bytes (left_sample sounds))
            (sample_bytes (right_sample sounds)) b.made.pairs kept refl refl (counts.samples kept);
      })

  after-counts : (cycles : ℕ) (b : Board) → CountsMade b.core.lines b.core.devices.place b.made
      → CountsMade (board_after cycles b).core.lines (board_after cycles b).core.devices.place
      (board_after cycles b).made
  unfolding board_after
  after-counts zero b counts = counts
  after-counts (suc cycles) b counts = cycle-counts (board_after cycles b) (after-counts cycles b counts)

-- transfers
words-in : (keeps : Bool) (words : List Transfer) (transfer : Transfer) (count : ℕ) → keeps ≡ true
    → length words ≡ count → length (if keeps then words ++ (transfer ∷ []) else words) ≡ count + 1
words-in true words transfer count kept same = length-append words (transfer ∷ []) ∙ omega (arith, same)
words-in false words transfer count kept same = absurd cc

transfer-counts : (transfer : Option Transfer) (e : Ended) → CountsEnded e → CountsEnded (with_transfer transfer e)
transfer-counts None e counts = counts
transfer-counts (Some transfer) e counts = λ kept. words-in e.keeps_words e.words transfer e.count kept (counts kept)

taken-counts : (dues : List Incoming) (b : Board) → CountsEnded b.ended → CountsEnded (all_taken dues b).ended
taken-counts [] b counts = counts
taken-counts (due ∷ dues) b counts =
    taken-counts dues (board_taken due b) (transfer-counts (ending due.arrival b.core.serial) b.ended counts)

heard-counts : (dues : List Incoming) (m : Machine) → CountsEnded m.board.ended → CountsEnded (heard dues m).ended
heard-counts dues m counts =
    let b = all_taken dues (board_begun m.board) in
    transfer-counts (ending (clock_of m) b.core.serial) b.ended (taken-counts dues (board_begun m.board) counts)

-- the kinds that are kept
made-kinds : (cycles : ℕ) (b : Board) → ((board_after cycles b).made.keeps_frames ≡ b.made.keeps_frames)
    × ((board_after cycles b).made.keeps_samples ≡ b.made.keeps_samples)
unfolding board_after board_cycle
made-kinds zero b = (refl, refl)
made-kinds (suc cycles) b = made-kinds cycles b

taken-kinds : (dues : List Incoming) (b : Board) → (all_taken dues b).ended.keeps_words ≡ b.ended.keeps_words
taken-kinds [] b = refl
taken-kinds (due ∷ dues) b = taken-kinds dues (board_taken due b)

either-counts : (test : Bool) (one other : Machine) → Counts one → Counts other → Counts (if test then one else other)
either-counts true one other here there = here
either-counts false one other here there = there

either-kinds : (test : Bool) (m one other : Machine) → KeepsKinds m one → KeepsKinds m other
    → KeepsKinds m (if test then one else other)
either-kinds true m one other here there = here
either-kinds false m one other here there = there

-- a step
module _ (keeps : (d : Devices) → CyclePasses d) (acts : ActsPass)
    (passes : (cycles : ℕ) (b : Board) → BoardPasses cycles b) where
  on-counts : (dues : List Incoming) (m : Machine) → Counts m → Counts (stepped_on dues m)
  unfolding stepped_on
  on-counts dues m counts =
      let b = heard dues m in
      let done = done_in dues m in
      let acted : Board = record b { core = done.bus } in
      let place : done.bus.devices.place ≡ m.board.core.devices.place
      = (acts.all m.registers (prepared dues m)).course.place ∙ keys-place (clock_of m) (left_of m) b.core
      ∙ taken-place dues (board_begun m.board) in
      let lines : done.bus.lines ≡ m.board.core.lines
      = (acts.all m.registers (prepared dues m)).course.lines ∙ keys-lines (clock_of m) (left_of m) b.core
      ∙ taken-lines dues (board_begun m.board) in
      let here : CountsMade done.bus.lines done.bus.devices.place b.made
      = subst (λ (some : List (List ℕ)). CountsMade some done.bus.devices.place b.made) (sym lines)
      (subst (λ (p : Position). CountsMade m.board.core.lines p b.made) (sym place)
      (subst (λ (made : Made). CountsMade m.board.core.lines m.board.core.devices.place made)
      (sym (taken-made dues (board_begun m.board))) counts.made)) in
      record {
        made = after-counts keeps done.cycles acted here;
        ended = subst CountsEnded (sym (passes done.cycles acted).ended) (heard-counts dues m counts.ended);
      }

  off-counts : (dues : List Incoming) (m : Machine) → Counts m → Counts (stepped_off dues m)
  unfolding stepped_off
  off-counts dues m counts = record {
    made =
        subst (λ (lines : List (List ℕ)). CountsMade lines (prepared_off dues m).devices.place m.board.made)
        (sym (off-time dues m).lines)
        (subst (λ (p : Position). CountsMade m.board.core.lines p m.board.made) (sym (off-time dues m).place)
        counts.made);
    ended = counts.ended;
  }

  step-counts : (dues : List Incoming) (m : Machine) → Counts m → Counts (stepped dues m)
  unfolding stepped
  step-counts dues m counts =
      either-counts (is_off m) (stepped_off dues m) (stepped_on dues m) (off-counts dues m counts)
      (on-counts dues m counts)

  on-kinds : (dues : List Incoming) (m : Machine) → KeepsKinds m (stepped_on dues m)
  unfolding stepped_on
  on-kinds dues m =
      let b = heard dues m in
      let done = done_in dues m in
      let acted : Board = record b { core = done.bus } in
      let made = made-kinds done.cycles acted in
      let heard_made = taken-made dues (board_begun m.board) in
      record {
        frames = made.0 ∙ ap (λ (some : Made). some.keeps_frames) heard_made;
        samples = made.1 ∙ ap (λ (some : Made). some.keeps_samples) heard_made;
        words =
            ap (λ (e : Ended). e.keeps_words) (passes done.cycles acted).ended ∙ taken-kinds dues (board_begun m.board);
      }

  step-kinds : (dues : List Incoming) (m : Machine) → KeepsKinds m (stepped dues m)
  unfolding stepped stepped_off
  step-kinds dues m =
      either-kinds (is_off m) m (stepped_off dues m) (stepped_on dues m)
      (record { frames = refl; samples = refl; words = refl }) (on-kinds dues m)

  pub counts-always : CountsAlways
  counts-always = record {
    begins = λ player count round off bios cart save backup keys room. record {
      made = record {
        sound = record { line = omega arith; dot = omega arith };
        drawn = refl;
        bytes = refl;
        frames = λ kept. refl;
        samples = λ kept. refl;
      };
      ended = λ kept. refl;
    };
    steps = step-counts;
    kinds = step-kinds;
  }
