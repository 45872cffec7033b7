use Rattle.std.proofs.Common.{◌≡◌, ℕ, Bool, true, false, List, [], ◌∷◌, refl, ◌+◌, ◌≤◌, ◌∙◌, sym, ap, arith, if◌then◌else◌}
use Rattle.std.specs.Prelude.{not, nat_eq, nat_le, ◌&&◌, Option, None, Some}
use Rattle.std.specs.Bool.{Decides}
use Rattle.std.specs.Cmp.Lexicographic.{pointwise}
use Rattle.std.specs.Str.{bytes_eq}
use Rattle.std.proofs.lemmas.Bool.Decides.{nat_tests}
use Rattle.std.proofs.lemmas.Slice.Eq.{bytes_eq-Decides, slice_eq-Decides}
use Rattle.gba_bus.specs.declared.width.Width.TheVariants.{Half, Word}
use Rattle.gba_dma.specs.Channels.{next_unit}
use Rattle.gba_dma.specs.declared.unit.Unit.{Unit as DmaUnit}
use Rattle.gba_devices.specs.State.{Devices, after_dma_unit}
use Rattle.gba_exec_registers.specs.Access.{code_width}
use Rattle.gba_exec_transfers.specs.Done.{Done, IsStepLength}
use Rattle.gba_exec_transfers.specs.Keeping.{LoadsKeep, Passing, StoresKeep}
use Rattle.gba_io.specs.Board.{BoardPasses}
use Rattle.gba_io.specs.Core.{Core, core_begun, core_keyed, core_learned, core_woken}
use Rattle.gba_io.specs.Units.{core_after_unit, start_cycles, unit_ended, unit_written, unit_value}
use Rattle.gba_io.specs.declared.board.Board.{Board}
use Rattle.gba_io.specs.Bus.{core_load, core_store, core_written}
use Rattle.gba_io.specs.BusLaws.{core_code_prices}
use Rattle.gba_io.specs.Cable.{WritesKeepEnds, board_taken}
use Rattle.gba_io.specs.Keeping.{IsSameTime, WritesKeepTime}
use Rattle.gba_ppu_reg.specs.declared.position.Position.{Position}
use Rattle.gba_io.specs.Made.{Made}
use Rattle.gba_serial.specs.Apart.{next_end}
use Rattle.gba_serial.specs.SerialUnit.{SerialUnit, is_peer}
use Rattle.gba_serial.specs.Take.{learned, with_known}
use Rattle.gba_serial.specs.Tell.{outgoing, silent}
use Rattle.link_node.specs.declared.signal.LinkMode.{LinkMode}
use Rattle.link_node.specs.declared.signal.Signal.{Signal}
use Rattle.link_node.specs.declared.signal.Incoming.{Incoming}
use Rattle.gba_console.specs.Machine.{Machine, clock_of, is_off, left_of}
use Rattle.gba_console.specs.Passing.{ActsPass, KeepsCourse, Passes}
use Rattle.gba_console.specs.Run.{Follows, StepPasses}
use Rattle.gba_console.specs.Step.{acted, acted_for, all_learned, all_taken, awake_done, board_begun, done_in, enters, entry_done, execution_of_half, execution_of_word, half_done, heard, idle_done, idles, in_thumb, instruction, instruction_done, next_site, prepared, prepared_off, stepped, stepped_off, stepped_on, told, told_on, undisturbed_done, unit_done, word_done}
use Rattle.gba_console.specs.Keys.{after_keys}
use Rattle.gba_console.specs.declared.keys.KeyState.{KeyState}
use Rattle.gba_devices.specs.Registers.{keyed}

-- What a step does takes from 1 to 512 cycles, leaves the clock and the picture's place, and brings no near end of a
-- transfer; and what that says of a console as a node of the cable.

-- changes of the keys
either-time : (test : Bool) (b one other : Core) → IsSameTime b one → IsSameTime b other
    → IsSameTime b (if test then one else other)
either-time true b one other here there = here
either-time false b one other here there = there

pub time-then : (a b c : Core) → IsSameTime a b → IsSameTime b c → IsSameTime a c
time-then a b c first second =
    record {
      clock = second.clock ∙ first.clock;
      place = second.place ∙ first.place;
      lines = second.lines ∙ first.lines;
    }

keyed-time : (keys : ℕ) (b : Core) → IsSameTime b (core_keyed keys b)
unfolding keyed
keyed-time keys b = record { clock = refl; place = refl; lines = refl }

-- they leave the clock and the picture's place
pub keys-time : (clock : ℕ) (changes : List KeyState) (b : Core) → IsSameTime b (after_keys clock changes b)
unfolding after_keys
keys-time clock [] b = record { clock = refl; place = refl; lines = refl }
keys-time clock (change ∷ changes) b =
    let keyed = core_keyed change.keys b in
    either-time (nat_le change.clock clock) b (after_keys clock changes keyed) b
    (time-then b keyed (after_keys clock changes keyed) (keyed-time change.keys b) (keys-time clock changes keyed))
    (record { clock = refl; place = refl; lines = refl })

pub keys-clock : (clock : ℕ) (changes : List KeyState) (b : Core)
    → (after_keys clock changes b).devices.clock ≡ b.devices.clock
keys-clock clock changes b = (keys-time clock changes b).clock

pub keys-place : (clock : ℕ) (changes : List KeyState) (b : Core)
    → (after_keys clock changes b).devices.place ≡ b.devices.place
keys-place clock changes b = (keys-time clock changes b).place

pub keys-lines : (clock : ℕ) (changes : List KeyState) (b : Core) → (after_keys clock changes b).lines ≡ b.lines
keys-lines clock changes b = (keys-time clock changes b).lines

-- and the serial unit
either-serial : (test : Bool) (u : SerialUnit) (one other : Core) → one.serial ≡ u → other.serial ≡ u
    → (if test then one else other).serial ≡ u
either-serial true u one other here there = here
either-serial false u one other here there = there

pub keys-serial : (clock : ℕ) (changes : List KeyState) (b : Core) → (after_keys clock changes b).serial ≡ b.serial
unfolding after_keys
keys-serial clock [] b = refl
keys-serial clock (change ∷ changes) b =
    either-serial (nat_le change.clock clock) b.serial (after_keys clock changes (core_keyed change.keys b)) b
    (keys-serial clock changes (core_keyed change.keys b)) refl

-- how long words and halfwords take over a board, and what they keep of it
abbrev pub TakesSteps : (ℕ → List ℕ → Core → Done Core) → Type 0
TakesSteps execution = (one : ℕ) (file : List ℕ) (b : Core) → IsStepLength (execution one file b).cycles

abbrev pub KeepsTests : (ℕ → List ℕ → Core → Done Core) → Type 0
KeepsTests execution =
    (test : Core → Bool) → LoadsKeep core_load (Passing test) → StoresKeep core_store (Passing test)
    → (one : ℕ) (file : List ℕ) (b : Core) → test b ≡ true → test (execution one file b).bus ≡ true

-- the test that a board has this clock
abbrev has_clock : ℕ → Core → Bool
has_clock clock b = nat_eq b.devices.clock clock

is-clock : (clock : ℕ) (b : Core) → has_clock clock b ≡ true → b.devices.clock ≡ clock
is-clock clock b test = grind (arith, nat_tests)

clock-is : (clock : ℕ) (b : Core) → b.devices.clock ≡ clock → has_clock clock b ≡ true
clock-is clock b same = grind (arith, nat_tests)

module _ (writes : WritesKeepTime) where
  stores-keep : (clock : ℕ) → StoresKeep core_store (Passing (has_clock clock))
  stores-keep clock b address width value sequential test =
      clock-is clock (core_store b address width value sequential).after
      ((writes b address width value).clock ∙ is-clock clock b test)

  loads-keep : (clock : ℕ) → LoadsKeep core_load (Passing (has_clock clock))
  loads-keep clock b from address width sequential test = test

  kept-clock : (execution : ℕ → List ℕ → Core → Done Core) → KeepsTests execution
      → (one : ℕ) (file : List ℕ) (b : Core) → (execution one file b).bus.devices.clock ≡ b.devices.clock
  kept-clock execution keeps one file b =
      is-clock b.devices.clock (execution one file b).bus
      (keeps (has_clock b.devices.clock) (loads-keep b.devices.clock) (stores-keep b.devices.clock) one file b
      (clock-is b.devices.clock b refl))

-- the test that a board has this place of the picture
abbrev has_place : Position → Core → Bool
has_place p b = nat_eq b.devices.place.line p.line && nat_eq b.devices.place.dot p.dot

same-place : (p q : Position) → p.line ≡ q.line → p.dot ≡ q.dot → p ≡ q
same-place p q line dot =
    let by_line : ℕ → Position = λ n. record { line = n; dot = p.dot } in
    let by_dot : ℕ → Position = λ n. record { line = q.line; dot = n } in
    ap by_line line ∙ ap by_dot dot

and-first : (one other : Bool) → (one && other) ≡ true → one ≡ true
and-first true other both = refl
and-first false other both = both

and-second : (one other : Bool) → (one && other) ≡ true → other ≡ true
and-second true other both = both
and-second false other both = cc

and-both : (one other : Bool) → one ≡ true → other ≡ true → (one && other) ≡ true
and-both true other here there = there
and-both false other here there = here

equal-by : (a b : ℕ) → nat_eq a b ≡ true → a ≡ b
equal-by a b test = grind (arith, nat_tests)

by-equal : (a b : ℕ) → a ≡ b → nat_eq a b ≡ true
by-equal a b same = grind (arith, nat_tests)

is-place : (p : Position) (b : Core) → has_place p b ≡ true → b.devices.place ≡ p
is-place p b test =
    let q = b.devices.place in
    let line = nat_eq q.line p.line in
    let dot = nat_eq q.dot p.dot in
    same-place q p (equal-by q.line p.line (and-first line dot test)) (equal-by q.dot p.dot (and-second line dot test))

place-is : (p : Position) (b : Core) → b.devices.place ≡ p → has_place p b ≡ true
place-is p b same =
    let q = b.devices.place in
    and-both (nat_eq q.line p.line) (nat_eq q.dot p.dot)
    (by-equal q.line p.line (ap (λ (r : Position). r.line) same))
    (by-equal q.dot p.dot (ap (λ (r : Position). r.dot) same))

module _ (writes : WritesKeepTime) where
  stores-stay : (p : Position) → StoresKeep core_store (Passing (has_place p))
  stores-stay p b address width value sequential test =
      place-is p (core_store b address width value sequential).after
      ((writes b address width value).place ∙ is-place p b test)

  loads-stay : (p : Position) → LoadsKeep core_load (Passing (has_place p))
  loads-stay p b from address width sequential test = test

  kept-place : (execution : ℕ → List ℕ → Core → Done Core) → KeepsTests execution
      → (one : ℕ) (file : List ℕ) (b : Core) → (execution one file b).bus.devices.place ≡ b.devices.place
  kept-place execution keeps one file b =
      is-place b.devices.place (execution one file b).bus
      (keeps (has_place b.devices.place) (loads-stay b.devices.place) (stores-stay b.devices.place) one file b
      (place-is b.devices.place b refl))

-- the test that these lines are drawn
abbrev has_lines : List (List ℕ) → Core → Bool
has_lines lines b = pointwise bytes_eq b.lines lines

tells-lines : (lines : List (List ℕ)) (b : Core) → Decides (has_lines lines b) (b.lines ≡ lines)
tells-lines lines b = slice_eq-Decides bytes_eq-Decides b.lines lines (has_lines lines b) refl

module _ (writes : WritesKeepTime) where
  stores-show : (lines : List (List ℕ)) → StoresKeep core_store (Passing (has_lines lines))
  stores-show lines b address width value sequential test =
      (tells-lines lines (core_store b address width value sequential).after).1
      ((writes b address width value).lines ∙ (tells-lines lines b).0 test)

  loads-show : (lines : List (List ℕ)) → LoadsKeep core_load (Passing (has_lines lines))
  loads-show lines b from address width sequential test = test

  kept-lines : (execution : ℕ → List ℕ → Core → Done Core) → KeepsTests execution
      → (one : ℕ) (file : List ℕ) (b : Core) → (execution one file b).bus.lines ≡ b.lines
  kept-lines execution keeps one file b =
      (tells-lines b.lines (execution one file b).bus).0
      (keeps (has_lines b.lines) (loads-show b.lines) (stores-show b.lines) one file b ((tells-lines b.lines b).1 refl))

-- the test that a board has this clock, some console, and no end below a bound
abbrev goes_on : ℕ → ℕ → Core → Bool
goes_on clock bound b = nat_eq b.devices.clock clock && (nat_le 1 b.serial.count && nat_le bound (next_end b.serial))

record GoesOn (clock bound : ℕ) (b : Core) : Type 0 where
  same : b.devices.clock ≡ clock
  seat : 1 ≤ b.serial.count
  next : bound ≤ next_end b.serial

most-by : (a b : ℕ) → nat_le a b ≡ true → a ≤ b
most-by a b test = grind (arith, nat_tests)

by-most : (a b : ℕ) → a ≤ b → nat_le a b ≡ true
by-most a b most = grind (arith, nat_tests)

goes-by : (clock bound : ℕ) (b : Core) → goes_on clock bound b ≡ true → GoesOn clock bound b
goes-by clock bound b test =
    let one = nat_eq b.devices.clock clock in
    let two = nat_le 1 b.serial.count in
    let three = nat_le bound (next_end b.serial) in
    let rest = and-second one (two && three) test in
    record {
      same = equal-by b.devices.clock clock (and-first one (two && three) test);
      seat = most-by 1 b.serial.count (and-first two three rest);
      next = most-by bound (next_end b.serial) (and-second two three rest);
    }

by-goes : (clock bound : ℕ) (b : Core) → GoesOn clock bound b → goes_on clock bound b ≡ true
by-goes clock bound b goes =
    and-both (nat_eq b.devices.clock clock) (nat_le 1 b.serial.count && nat_le bound (next_end b.serial))
    (by-equal b.devices.clock clock goes.same)
    (and-both (nat_le 1 b.serial.count) (nat_le bound (next_end b.serial))
    (by-most 1 b.serial.count goes.seat) (by-most bound (next_end b.serial) goes.next))

module _ (writes : WritesKeepTime) (ends : WritesKeepEnds) where
  stores-go : (clock bound : ℕ) → bound ≤ clock + 512 → StoresKeep core_store (Passing (goes_on clock bound))
  stores-go clock bound soon b address width value sequential test =
      let goes = goes-by clock bound b test in
      by-goes clock bound (core_written b address width value) (record {
        same = (writes b address width value).clock ∙ goes.same;
        seat = omega (arith, ends.count b address width value, goes.seat);
        next = ends.next bound b address width value goes.seat (omega (arith, goes.same)) goes.next;
      })

  loads-go : (clock bound : ℕ) → LoadsKeep core_load (Passing (goes_on clock bound))
  loads-go clock bound b from address width sequential test = test

  going : (execution : ℕ → List ℕ → Core → Done Core) → KeepsTests execution → (one : ℕ) (file : List ℕ) (b : Core)
      → (bound : ℕ) → 1 ≤ b.serial.count → bound ≤ b.devices.clock + 512 → bound ≤ next_end b.serial
      → GoesOn b.devices.clock bound (execution one file b).bus
  going execution keeps one file b bound seat soon before =
      goes-by b.devices.clock bound (execution one file b).bus
      (keeps (goes_on b.devices.clock bound) (loads-go b.devices.clock bound) (stores-go b.devices.clock bound soon)
      one file b (by-goes b.devices.clock bound b (record { same = refl; seat = seat; next = before })))

  kept-ends : (execution : ℕ → List ℕ → Core → Done Core) → KeepsTests execution
      → (one : ℕ) (file : List ℕ) (b : Core) → KeepsCourse b (execution one file b).bus
  kept-ends execution keeps one file b = record {
    place = kept-place writes execution keeps one file b;
    lines = kept-lines writes execution keeps one file b;
    next = λ bound seat soon before. (going execution keeps one file b bound seat soon before).next;
    seat = λ seat. (going execution keeps one file b 0 seat (omega arith) (omega arith)).seat;
  }

pub same-ends : (b : Core) → KeepsCourse b b
same-ends b = record { place = refl; lines = refl; next = λ bound seat soon before. before; seat = λ seat. seat }

either-passes : (test : Bool) (b : Core) (one other : Done Core) → Passes b one → Passes b other
    → Passes b (if test then one else other)
either-passes true b one other here there = here
either-passes false b one other here there = there

entry-length : (file : List ℕ) (b : Core) → IsStepLength (entry_done file b).cycles
entry-length file b =
    let site = next_site file in
    let first = core_code_prices b site.address (code_width site) true in
    let second = core_code_prices b site.address (code_width site) false in
    record { least = omega (arith, first.least); most = omega (arith, first.most, second.most) }

-- a unit costs two accesses, and its write leaves the clock
start-few : (first : Bool) → start_cycles first ≤ 2
start-few true = omega arith
start-few false = omega arith

unit-clock : (channel : ℕ) (b : Core) → (unit_ended channel b).devices.clock ≡ b.devices.clock
unfolding after_dma_unit
unit-clock channel b = refl

unit-place : (channel : ℕ) (b : Core) → (unit_ended channel b).devices.place ≡ b.devices.place
unfolding after_dma_unit
unit-place channel b = refl

unit-lines : (channel : ℕ) (b : Core) → (unit_ended channel b).lines ≡ b.lines
unit-lines channel b = refl

unit-ends : WritesKeepTime → WritesKeepEnds → (unit : DmaUnit) (b : Core) → KeepsCourse b (core_after_unit unit b)
unfolding core_after_unit
unit-ends writes ends unit b = record {
  place =
      unit-place unit.channel (unit_written unit b) ∙ (writes b unit.target unit.width (unit_value unit b)).place;
  lines =
      unit-lines unit.channel (unit_written unit b) ∙ (writes b unit.target unit.width (unit_value unit b)).lines;
  next = λ bound seat soon before. ends.next bound b unit.target unit.width (unit_value unit b) seat soon before;
  seat = λ seat. omega (arith, ends.count b unit.target unit.width (unit_value unit b), seat);
}

unit-passes : WritesKeepTime → WritesKeepEnds → (unit : DmaUnit) (file : List ℕ) (b : Core)
    → Passes b (unit_done unit file b)
unfolding core_after_unit
unit-passes writes ends unit file b =
    let read = core_code_prices b unit.source unit.width (not unit.first) in
    let written = core_code_prices b unit.target unit.width (not unit.first) in
    record {
      length = record {
        least = omega (arith, read.least, written.least);
        most = omega (arith, read.most, written.most, start-few unit.first);
      };
      clock =
          unit-clock unit.channel (unit_written unit b) ∙ (writes b unit.target unit.width (unit_value unit b)).clock;
      course = unit-ends writes ends unit b;
    }

module _ (writes : WritesKeepTime) (ends : WritesKeepEnds)
    (words : TakesSteps execution_of_word) (halves : TakesSteps execution_of_half)
    (words_keep : KeepsTests execution_of_word) (halves_keep : KeepsTests execution_of_half) where
  word-passes : (file : List ℕ) (b : Core) → Passes b (word_done file b)
  word-passes file b =
      let one = instruction Word file b in
      record {
        length = words one file b;
        clock = kept-clock writes execution_of_word words_keep one file b;
        course = kept-ends writes ends execution_of_word words_keep one file b;
      }

  half-passes : (file : List ℕ) (b : Core) → Passes b (half_done file b)
  half-passes file b =
      let one = instruction Half file b in
      record {
        length = halves one file b;
        clock = kept-clock writes execution_of_half halves_keep one file b;
        course = kept-ends writes ends execution_of_half halves_keep one file b;
      }

  instruction-passes : (file : List ℕ) (b : Core) → Passes b (instruction_done file b)
  unfolding instruction_done
  instruction-passes file b =
      either-passes (in_thumb file) b (half_done file b) (word_done file b) (half-passes file b) (word-passes file b)

  awake-passes : (file : List ℕ) (b : Core) → Passes b (awake_done file b)
  awake-passes file b =
      either-passes (enters file b) b (entry_done file b) (instruction_done file b)
      (record { length = entry-length file b; clock = refl; course = same-ends b }) (instruction-passes file b)

  woken-passes : (file : List ℕ) (b : Core) → Passes b (awake_done file (core_woken b))
  woken-passes file b =
      let there = awake-passes file (core_woken b) in
      record {
        length = there.length;
        clock = there.clock;
        course = record {
          place = there.course.place;
          lines = there.course.lines;
          next = there.course.next;
          seat = there.course.seat;
        };
      }

  undisturbed-passes : (file : List ℕ) (b : Core) → Passes b (undisturbed_done file b)
  undisturbed-passes file b =
      either-passes (idles b) b (idle_done file b) (awake_done file (core_woken b))
      (record { length = record { least = omega arith; most = omega arith }; clock = refl; course = same-ends b })
      (woken-passes file b)

  for-passes : (unit : Option DmaUnit) (file : List ℕ) (b : Core) → Passes b (acted_for unit file b)
  for-passes (Some unit) file b = unit-passes writes ends unit file b
  for-passes None file b = undisturbed-passes file b

  act-passes : (file : List ℕ) (b : Core) → Passes b (acted file b)
  unfolding acted
  act-passes file b = for-passes (next_unit b.devices.channels) file b

  pub acts-pass : ActsPass
  acts-pass = record { instructions = instruction-passes; all = act-passes }

-- signals leave the clock and what is made
pub taken-clock : (dues : List Incoming) (b : Board) → (all_taken dues b).core.devices.clock ≡ b.core.devices.clock
taken-clock [] b = refl
taken-clock (due ∷ dues) b = taken-clock dues (board_taken due b)

pub taken-place : (dues : List Incoming) (b : Board) → (all_taken dues b).core.devices.place ≡ b.core.devices.place
taken-place [] b = refl
taken-place (due ∷ dues) b = taken-place dues (board_taken due b)

pub taken-lines : (dues : List Incoming) (b : Board) → (all_taken dues b).core.lines ≡ b.core.lines
taken-lines [] b = refl
taken-lines (due ∷ dues) b = taken-lines dues (board_taken due b)

pub taken-made : (dues : List Incoming) (b : Board) → (all_taken dues b).made ≡ b.made
taken-made [] b = refl
taken-made (due ∷ dues) b = taken-made dues (board_taken due b)

pub taken-until : (dues : List Incoming) (b : Board) → (all_taken dues b).ended.until ≡ b.ended.until
taken-until [] b = refl
taken-until (due ∷ dues) b = taken-until dues (board_taken due b)

pub prepared-clock : (dues : List Incoming) (m : Machine) → (prepared dues m).devices.clock ≡ clock_of m
prepared-clock dues m = keys-clock (clock_of m) (left_of m) (heard dues m).core ∙ taken-clock dues (board_begun m.board)

-- what a console that is off learns: modes of its peers
pub known_after : List Incoming → SerialUnit → List LinkMode
known_after [] u = u.known
known_after (due ∷ dues) u = known_after dues (learned due u)

either-known : (test : Bool) (due : Incoming) (u : SerialUnit)
    → (if test then with_known due u else u) ≡ record u { known = (if test then with_known due u else u).known }
either-known true due u = refl
either-known false due u = refl

pub learned-serial : (dues : List Incoming) (b : Core)
    → (all_learned dues b).serial ≡ record b.serial { known = known_after dues b.serial }
unfolding known_after
learned-serial [] b = refl
learned-serial (due ∷ dues) b =
    learned-serial dues (core_learned due b)
    ∙ ap (λ (u : SerialUnit). record u { known = known_after dues (learned due b.serial) })
    (either-known (is_peer due.sender b.serial) due b.serial)

pub learned-devices : (dues : List Incoming) (b : Core) → (all_learned dues b).devices ≡ b.devices
learned-devices [] b = refl
learned-devices (due ∷ dues) b = learned-devices dues (core_learned due b)

learned-lines : (dues : List Incoming) (b : Core) → (all_learned dues b).lines ≡ b.lines
learned-lines [] b = refl
learned-lines (due ∷ dues) b = learned-lines dues (core_learned due b)

pub off-time : (dues : List Incoming) (m : Machine) → IsSameTime m.board.core (prepared_off dues m)
off-time dues m =
    let learned = all_learned dues (core_begun m.board.core) in
    let kept = keys-time (clock_of m) (left_of m) learned in
    let same = learned-devices dues (core_begun m.board.core) in
    record {
      clock = kept.clock ∙ ap (λ (d : Devices). d.clock) same;
      place = kept.place ∙ ap (λ (d : Devices). d.place) same;
      lines = kept.lines ∙ learned-lines dues (core_begun m.board.core);
    }

pub off-serial : (dues : List Incoming) (m : Machine) → (prepared_off dues m).serial
    ≡ record (silent m.board.core.serial) { known = known_after dues (silent m.board.core.serial) }
off-serial dues m =
    keys-serial (clock_of m) (left_of m) (all_learned dues (core_begun m.board.core))
    ∙ learned-serial dues (core_begun m.board.core)

either-follows : (test : Bool) (m one other : Machine) (first second : Option Signal) → Follows m one first
    → Follows m other second → Follows m (if test then one else other) (if test then first else second)
either-follows true m one other first second here there = here
either-follows false m one other first second here there = there

pub steps-pass : ActsPass → ((clock : ℕ) (u : SerialUnit) → outgoing clock (silent u) ≡ None)
    → ((count : ℕ) (b : Board) → BoardPasses count b) → (dues : List Incoming) (m : Machine) → StepPasses dues m
unfolding stepped told stepped_on told_on stepped_off
steps-pass acts silence cycles dues m =
    let done = done_in dues m in
    let act = acts.all m.registers (prepared dues m) in
    let start = prepared-clock dues m in
    let moved = cycles done.cycles (record (heard dues m) { core = done.bus }) in
    let rested = off-time dues m in
    let unit = m.board.core.serial in
    either-follows (is_off m) m (stepped_off dues m) (stepped_on dues m) None (told_on dues m)
    (record {
      raised = omega (arith, rested.clock);
      short = omega (arith, rested.clock);
      was = refl;
      until = refl;
      off = refl;
      tells =
          sym (ap (outgoing (clock_of m)) (off-serial dues m)
          ∙ silence (clock_of m) (record unit { known = known_after dues (silent unit) }));
    })
    (record {
      raised = omega (arith, act.length.least, act.clock, start, moved.clock);
      short = omega (arith, act.length.most, act.clock, start, moved.clock);
      was = refl;
      until = moved.until ∙ ap (λ (made : Made). made.until) (taken-made dues (board_begun m.board));
      off = refl;
      tells = ap (outgoing (clock_of m)) (sym moved.serial);
    })
