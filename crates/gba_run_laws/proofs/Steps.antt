-- What a step keeps of a console.
use Rattle.std.proofs.Common.{ℕ, ◌≡◌, ◌<◌, ◌≤◌, ◌+◌, ◌*◌, ◌%◌, ◌^◌, zero, suc, Bool, true, false, List, [], ◌∷◌, length, drop, replicate, get_or, refl, ap, sym, ◌∙◌, ◌⊎◌, inl, inr, arith, if◌then◌else◌}
use Rattle.std.specs.Prelude.{All, Option, None, Some, nat_le, nat_lt}
use Rattle.std.proofs.lemmas.Bool.{cases_lt, false≢true}
use Rattle.std.proofs.lemmas.Bool.Decides.{nat_tests}
use Rattle.std.proofs.lemmas.List.{get_or-replicate, get_or-set_other, get_or_past}
use Rattle.gba_terms.specs.Bits.{bit}
use Rattle.gba_terms.specs.Bytes.{AreBytes}
use Rattle.gba_psr.specs.RegisterFile.{mode, register, reset_file, status}
use Rattle.gba_psr.specs.Modes.{place}
use Rattle.gba_psr.specs.Status.{kept_status}
use Rattle.gba_psr.specs.declared.exceptions.Exception.TheVariants.{Interrupt}
use Rattle.gba_exec_laws.specs.Sound.{IsSoundFile}
use Rattle.gba_exec_laws.proofs.Files.{sound-entry}
use Rattle.gba_exec_laws.proofs.Words.{set-words}
use Rattle.gba_exec_transfers.specs.Done.{Done}
use Rattle.gba_device_laws.specs.Cable.{SerialHolds, SerialStays, last_clock}
use Rattle.gba_device_laws.proofs.Bytes.{has-replicate}
use Rattle.gba_device_laws.specs.Holding.{DevicesHold, HasBytes}
use Rattle.gba_device_laws.specs.Staying.{DevicesStay}
use Rattle.gba_devices.specs.Keeping.{WritesKeep}
use Rattle.gba_dma.specs.Channels.{next_unit}
use Rattle.gba_dma.specs.declared.unit.Unit.{Unit as DmaUnit}
use Rattle.gba_image.specs.Backups.{backup_length}
use Rattle.gba_image.specs.declared.backup.Backup.{Backup}
use Rattle.gba_image.specs.declared.backup.Backup.TheVariants.{Sram, Flash64, Flash128}
use Rattle.gba_io.specs.Board.{BoardPasses}
use Rattle.gba_io.specs.Core.{Core, core_begun, core_learned, core_woken}
use Rattle.gba_io.specs.declared.board.Board.{Board}
use Rattle.gba_mem.specs.BackupLaw.{BackupsStaySound, IsSoundBackup}
use Rattle.gba_mem.specs.Backups.{backup_at_start, backup_bytes}
use Rattle.gba_mem.specs.Memories.{at_start, inner_length, oam_length, palette_length, saved_bytes, vram_length, work_length}
use Rattle.gba_io.specs.Cable.{WritesKeepEnds}
use Rattle.gba_io.specs.Keeping.{WritesKeepTime}
use Rattle.gba_serial.specs.Apart.{EndsApart}
use Rattle.gba_serial.specs.Law.{StaysSeated}
use Rattle.gba_serial.specs.SerialUnit.{SerialUnit, is_peer, is_running}
use Rattle.gba_serial.specs.Take.{with_known}
use Rattle.link_node.specs.declared.signal.Incoming.{Incoming}
use Rattle.gba_console.specs.Counted.{CountsAlways}
use Rattle.gba_console.specs.Keys.{after_keys, due_count}
use Rattle.gba_console.specs.Machine.{Machine, clock_of, is_off, left_of}
use Rattle.gba_console.specs.Run.{StepPasses}
use Rattle.gba_console.specs.Step.{acted, acted_for, all_learned, all_taken, applied_in, awake_done, board_begun, done_in, enters, entry_done, execution_of_half, execution_of_word, half_done, heard, idle_done, idles, in_thumb, instruction_done, prepared, prepared_off, stepped, stepped_off, stepped_on, word_done}
use Rattle.gba_console.specs.StepLaws.{keys-serial, off-time, prepared-clock, taken-made}
use Rattle.gba_console.specs.declared.keys.KeyState.{KeyState}
use Rattle.gba_run_laws.specs.Holding.{CountsHold, Holds, MayTake, MemoriesHold, StepsHold, keys_after}
use Rattle.link_node.specs.Due.{IsDue}
use Rattle.gba_run_laws.proofs.Ending.{EndsHold, acted-clock, acted-nears, ends-all, ends-ended, frames-few, pairs-few}
use Rattle.gba_run_laws.proofs.Lines.{lines-after}
use Rattle.gba_run_laws.proofs.Pressing.{acted-keys, behind-drop, cycles-same, keys-behind, learned-keys, taken-keys}
use Rattle.gba_run_laws.proofs.Cores.{AreNear, CoreHolds, after-acted, after-cycles, after-keys, after-learning, begun-holds, heard-core}

-- ---- the changes of the keys

due-step : (applied clock : ℕ) (changes : List KeyState) (test : Bool)
    → suc applied ≤ (if test then 1 + due_count clock changes else 0)
    → (applied ≤ due_count clock changes → applied + due_count clock (drop applied changes) ≡ due_count clock changes)
    → suc applied + due_count clock (drop applied changes) ≡ (if test then 1 + due_count clock changes else 0)
due-step applied clock changes true some rest = let same = rest (omega (arith, some)) in omega (arith, same)
due-step applied clock changes false none rest = absurd (omega (arith, none))

-- those that are applied and those that are due then are all that are due
due-more : (applied clock : ℕ) (changes : List KeyState) → applied ≤ due_count clock changes
    → applied + due_count clock (drop applied changes) ≡ due_count clock changes
unfolding due_count
due-more zero clock changes within = omega arith
due-more (suc applied) clock [] within = absurd (omega (arith, within))
due-more (suc applied) clock (change ∷ changes) within =
    due-step applied clock changes (nat_le change.clock clock) within (due-more applied clock changes)

due-later : (early late : ℕ) (changes : List KeyState) → early ≤ late → due_count early changes ≤ due_count late changes
unfolding due_count
due-later early late [] before = omega arith
due-later early late (change ∷ changes) before =
    let rest = due-later early late changes before in
    grind (arith, nat_tests, rest, before)

-- the keys once the changes that are due are applied
prepared-pressed : (b : Core) (m : Machine) → Holds m → b.devices.keys.pressed ≡ m.board.core.devices.keys.pressed
    → (after_keys (clock_of m) (left_of m) b).devices.keys.pressed ≡ keys_after (applied_in m) m.keys 0
prepared-pressed b m is same =
    keys-behind (clock_of m) (left_of m) b
    ∙ ap (keys_after (due_count (clock_of m) (left_of m)) (left_of m)) (same ∙ is.changes.pressed)
    ∙ behind-drop m.applied (due_count (clock_of m) (left_of m)) m.keys 0

-- ---- the registers

module _ (words : (word : ℕ) (file : List ℕ) (b : Core) → IsSoundFile file
    → IsSoundFile (execution_of_word word file b).registers)
    (halves : (half : ℕ) (file : List ℕ) (b : Core) → IsSoundFile file → bit (status file) 5 ≡ true
    → IsSoundFile (execution_of_half half file b).registers) where
  instruction-sound : (file : List ℕ) (b : Core) → IsSoundFile file → IsSoundFile (instruction_done file b).registers
  unfolding instruction_done
  instruction-sound file b is =
      by_state (in_thumb file) refl
    where
      by_state : (test : Bool) → in_thumb file ≡ test
          → IsSoundFile (if test then half_done file b else word_done file b).registers
      by_state true thumb = halves _ file b is thumb
      by_state false arm = words _ file b is

  either-sound : (test : Bool) (one other : Done Core) → IsSoundFile one.registers → IsSoundFile other.registers
      → IsSoundFile (if test then one else other).registers
  either-sound true one other here there = here
  either-sound false one other here there = there

  awake-sound : (file : List ℕ) (b : Core) → IsSoundFile file → IsSoundFile (awake_done file b).registers
  awake-sound file b is =
      either-sound (enters file b) (entry_done file b) (instruction_done file b)
      (sound-entry Interrupt ((register file 15 + 4) % 2 ^ 32) file is.stored (omega arith))
      (instruction-sound file b is)

  acting-sound : (unit : Option DmaUnit) (file : List ℕ) (b : Core) → IsSoundFile file
      → IsSoundFile (acted_for unit file b).registers
  acting-sound (Some unit) file b is = is
  acting-sound None file b is =
      either-sound (idles b) (idle_done file b) (awake_done file (core_woken b)) is (awake-sound file (core_woken b) is)

  pub acted-sound : (file : List ℕ) (b : Core) → IsSoundFile file → IsSoundFile (acted file b).registers
  unfolding acted
  acted-sound file b is = acting-sound (next_unit b.devices.channels) file b is

-- ---- a console that is off

run-same : (dues : List Incoming) (b : Core) → is_running (all_learned dues b).serial ≡ is_running b.serial
run-same [] b = refl
run-same (due ∷ dues) b =
    run-same dues (core_learned due b) ∙ learned-run due b.serial (is_peer due.sender b.serial)
  where
    learned-run : (one : Incoming) (u : SerialUnit) (test : Bool)
        → is_running (if test then with_known one u else u) ≡ is_running u
    learned-run one u true = refl
    learned-run one u false = refl

run-kept : (dues : List Incoming) (b : Core) → (all_learned dues b).serial.run ≡ b.serial.run
run-kept [] b = refl
run-kept (due ∷ dues) b =
    run-kept dues (core_learned due b) ∙ learned-run due b.serial (is_peer due.sender b.serial)
  where
    learned-run : (one : Incoming) (u : SerialUnit) (test : Bool) → (if test then with_known one u else u).run ≡ u.run
    learned-run one u true = refl
    learned-run one u false = refl

off-run : (dues : List Incoming) (m : Machine) → (prepared_off dues m).serial.run ≡ m.board.core.serial.run
off-run dues m =
    ap (λ u. u.run) (keys-serial (clock_of m) (left_of m) (all_learned dues (core_begun m.board.core)))
    ∙ run-kept dues (core_begun m.board.core)

off-running : (dues : List Incoming) (m : Machine)
    → is_running (prepared_off dues m).serial ≡ is_running m.board.core.serial
off-running dues m =
    ap is_running (keys-serial (clock_of m) (left_of m) (all_learned dues (core_begun m.board.core)))
    ∙ run-same dues (core_begun m.board.core)

since-on : (clock off : ℕ) → nat_lt clock off ≡ false → off ≤ clock
since-on clock off on = grind (arith, nat_tests, on)

-- ---- a step

-- what keeps to its rules whatever the counts and the clocks are
record Parts (m : Machine) : Type 0 where
  lines : All (HasBytes 480) m.board.core.lines
  registers : IsSoundFile m.registers
  memories : MemoriesHold m.board.core.memory
  backup : IsSoundBackup m.board.core.memory.backup
  devices : DevicesHold m.board.core.devices
  serial : SerialHolds m.board.core.serial

either-parts : (test : Bool) (one other : Machine) → Parts one → Parts other → Parts (if test then one else other)
either-parts true one other here there = here
either-parts false one other here there = there

module _ (words : (word : ℕ) (file : List ℕ) (b : Core) → IsSoundFile file
    → IsSoundFile (execution_of_word word file b).registers)
    (halves : (half : ℕ) (file : List ℕ) (b : Core) → IsSoundFile file → bit (status file) 5 ≡ true
    → IsSoundFile (execution_of_half half file b).registers)
    (backups : BackupsStaySound) (passes : (cycles : ℕ) (b : Board) → BoardPasses cycles b) (counts : CountsAlways)
    (devices : DevicesStay) (serial : SerialStays) (follows : (dues : List Incoming) (m : Machine) → StepPasses dues m)
    (writes : WritesKeep) (apart : EndsApart) (seated : StaysSeated) (ends : WritesKeepEnds)
    (times : WritesKeepTime) where
  core-of : (m : Machine) → clock_of m ≤ last_clock → Holds m → CoreHolds m.board.core
  core-of m near is = record {
    near = near;
    memories = is.memories;
    lines = is.lines;
    backup = is.backup;
    devices = is.devices;
    serial = is.serial;
  }

  begun-core : (m : Machine) → clock_of m ≤ last_clock → Holds m → CoreHolds (core_begun m.board.core)
  begun-core m near is = begun-holds backups devices serial writes m.board.core (core-of m near is)

  prepared-core : (dues : List Incoming) (m : Machine) → clock_of m ≤ last_clock → AreNear dues → Holds m
      → CoreHolds (prepared dues m)
  prepared-core dues m near all is =
      after-keys backups devices serial writes (clock_of m) (left_of m) (heard dues m).core
      (heard-core backups devices serial writes (clock_of m) dues (board_begun m.board) all (begun-core m near is))

  done-core : (dues : List Incoming) (m : Machine) → clock_of m ≤ last_clock → AreNear dues → Holds m
      → CoreHolds (done_in dues m).bus
  done-core dues m near all is =
      after-acted backups devices serial writes m.registers (prepared dues m) (prepared-core dues m near all is)

  on-parts : (dues : List Incoming) (m : Machine) → clock_of m ≤ last_clock → AreNear dues → Holds m
      → Parts (stepped_on dues m)
  unfolding stepped_on
  on-parts dues m near all is =
      let done = done_in dues m in
      let core = done-core dues m near all is in
      let board = record (heard dues m) { core = done.bus } in
      let passed = passes done.cycles board in
      record {
        registers = acted-sound words halves m.registers (prepared dues m) is.registers;
        lines = lines-after done.cycles board core.lines;
        memories = rw passed.memory core.memories;
        backup = rw passed.memory core.backup;
        devices =
            rw passed.devices (after-cycles backups devices serial writes done.cycles done.bus.devices core.devices);
        serial = rw passed.serial core.serial;
      }

  off-core : (dues : List Incoming) (m : Machine) → clock_of m ≤ last_clock → Holds m → CoreHolds (prepared_off dues m)
  off-core dues m near is =
      after-keys backups devices serial writes (clock_of m) (left_of m) (all_learned dues (core_begun m.board.core))
      (after-learning backups devices serial writes dues (core_begun m.board.core) (begun-core m near is))

  off-parts : (dues : List Incoming) (m : Machine) → clock_of m ≤ last_clock → Holds m → Parts (stepped_off dues m)
  unfolding stepped_off
  off-parts dues m near is =
      let core = off-core dues m near is in
      record {
        registers = is.registers;
        lines = core.lines;
        memories = core.memories;
        backup = core.backup;
        devices = devices.rests 16 (prepared_off dues m).devices core.devices;
        serial = core.serial;
      }

  step-parts : (dues : List Incoming) (m : Machine) → clock_of m ≤ last_clock → AreNear dues → Holds m
      → Parts (stepped dues m)
  unfolding stepped
  step-parts dues m near all is =
      either-parts (is_off m) (stepped_off dues m) (stepped_on dues m) (off-parts dues m near is)
      (on-parts dues m near all is)

  step-applied : (dues : List Incoming) (m : Machine) → (stepped dues m).applied ≡ applied_in m
  unfolding stepped stepped_on stepped_off
  step-applied dues m = by_off (is_off m)
    where
      by_off : (test : Bool) → (if test then stepped_off dues m else stepped_on dues m).applied ≡ applied_in m
      by_off true = refl
      by_off false = refl

  step-keys : (dues : List Incoming) (m : Machine) → (stepped dues m).keys ≡ m.keys
  unfolding stepped stepped_on stepped_off
  step-keys dues m = by_off (is_off m)
    where
      by_off : (test : Bool) → (if test then stepped_off dues m else stepped_on dues m).keys ≡ m.keys
      by_off true = refl
      by_off false = refl

  step-on : (dues : List Incoming) (m : Machine) → Holds m → is_running (stepped dues m).board.core.serial ≡ true
      → m.off ≤ clock_of m
  unfolding stepped stepped_off
  step-on dues m is = by_off (is_off m) refl
    where
      by_off : (test : Bool) → is_off m ≡ test
          → is_running (if test then stepped_off dues m else stepped_on dues m).board.core.serial ≡ true
          → m.off ≤ clock_of m
      by_off true off runs = is.on (sym (off-running dues m) ∙ runs)
      by_off false on runs = since-on (clock_of m) m.off on

  near-of : (was clock : ℕ) (dues : List Incoming) → clock ≤ last_clock → All (IsDue was clock) dues → AreNear dues
  near-of was clock dues near all i d within =
      let one = all i d within in
      let flies = one.in_flight in
      let by_now = one.by_now in
      omega (arith, flies, by_now, near)

  heard-ends : (dues : List Incoming) (m : Machine) → clock_of m ≤ last_clock → MayTake dues m → Holds m
      → EndsHold (clock_of m) (heard dues m)
  heard-ends dues m near may is =
      ends-ended apart seated (clock_of m) (all_taken dues (board_begun m.board)) near
      (ends-all apart seated m.was (clock_of m) m.was dues (board_begun m.board) near may.ordered may.due
      (after-was m.was (clock_of m) dues may.due) is.begun
      (record {
        past = is.numbers.past;
        next = is.numbers.next;
        seat = some-seat m.board.core.serial.player m.board.core.serial.count is.serial.seat.player;
      }))
    where
      after-was : (was clock : ℕ) (list : List Incoming) → All (IsDue was clock) list
          → All (λ due. was ≤ due.arrival) list
      after-was was clock list all i d within =
          let one = all i d within in
          let last = one.after_last in
          omega (arith, last)

      some-seat : (player count : ℕ) → player < count → 1 ≤ count
      some-seat player count seated_there = omega (arith, seated_there)

  on-counts : (dues : List Incoming) (m : Machine) → clock_of m ≤ last_clock → MayTake dues m → Holds m
      → CountsHold (stepped_on dues m)
  unfolding stepped_on
  on-counts dues m near may is =
      let done = done_in dues m in
      let board = record (heard dues m) { core = done.bus } in
      let passed = passes done.cycles board in
      let hold = heard-ends dues m near may is in
      let past = hold.past in
      let same_serial = keys-serial (clock_of m) (left_of m) (heard dues m).core in
      let next =
      acted-nears ends times (clock_of m) (512 * ((heard dues m).ended.count + 1)) (omega (arith, past)) m.registers
      (prepared dues m) (prepared-clock dues m) (rw same_serial hold.next) (rw same_serial hold.seat) in
      let made : (heard dues m).made ≡ m.board.made = taken-made dues (board_begun m.board) in
      let frames = frames-few done.cycles board in
      let pairs = pairs-few done.cycles board in
      let clock = passed.clock in
      let now = acted-clock ends times (clock_of m) m.registers (prepared dues m) (prepared-clock dues m) in
      let few_frames = is.numbers.frames in
      let few_pairs = is.numbers.pairs in
      let same_frames : (heard dues m).made.frame_count ≡ m.board.made.frame_count = ap (λ x. x.frame_count) made in
      let same_pairs : (heard dues m).made.pairs ≡ m.board.made.pairs = ap (λ x. x.pairs) made in
      record {
        frames = omega (arith, frames, clock, now, few_frames, same_frames);
        pairs = omega (arith, pairs, clock, now, few_pairs, same_pairs);
        past = rw passed.ended past;
        next = rw (passed.ended, passed.serial) next;
      }

  off-counts : (dues : List Incoming) (m : Machine) → Holds m → CountsHold (stepped_off dues m)
  unfolding stepped_off
  off-counts dues m is =
      let numbers = is.numbers in
      let frames = numbers.frames in
      let pairs = numbers.pairs in
      let past = numbers.past in
      let begun = is.begun in
      let same = off-run dues m in
      let rested = (off-time dues m).clock in
      record {
        frames = omega (arith, frames, rested);
        pairs = omega (arith, pairs, rested);
        past = omega (arith, past, begun);
        next = rw same numbers.next;
      }

  -- what is counted after a step
  step-counts : (dues : List Incoming) (m : Machine) → clock_of m ≤ last_clock → MayTake dues m → Holds m
      → CountsHold (stepped dues m)
  unfolding stepped
  step-counts dues m near may is =
      by_off (is_off m) (follows dues m).was
    where
      by_off : (test : Bool) → (if test then stepped_off dues m else stepped_on dues m).was ≡ clock_of m
          → CountsHold (if test then stepped_off dues m else stepped_on dues m)
      by_off true was = off-counts dues m is
      by_off false was = on-counts dues m near may is

  -- the keys that are pressed after a step
  on-pressed : (dues : List Incoming) (m : Machine) → Holds m
      → (stepped_on dues m).board.core.devices.keys.pressed ≡ keys_after (applied_in m) m.keys 0
  unfolding stepped_on
  on-pressed dues m is =
      let done = done_in dues m in
      let board = record (heard dues m) { core = done.bus } in
      let passed = passes done.cycles board in
      ap (λ d. d.keys.pressed) passed.devices
      ∙ ap (λ k. k.pressed) (cycles-same done.cycles done.bus.devices)
      ∙ acted-keys (prepared dues m).devices.keys.pressed m.registers (prepared dues m) refl
      ∙ prepared-pressed (heard dues m).core m is (ap (λ k. k.pressed) (taken-keys dues (board_begun m.board)))

  off-pressed : (dues : List Incoming) (m : Machine) → Holds m
      → (stepped_off dues m).board.core.devices.keys.pressed ≡ keys_after (applied_in m) m.keys 0
  unfolding stepped_off
  off-pressed dues m is =
      prepared-pressed (all_learned dues (core_begun m.board.core)) m is
      (ap (λ k. k.pressed) (learned-keys dues (core_begun m.board.core)))

  step-pressed : (dues : List Incoming) (m : Machine) → Holds m
      → (stepped dues m).board.core.devices.keys.pressed ≡ keys_after (stepped dues m).applied (stepped dues m).keys 0
  unfolding stepped
  step-pressed dues m is =
      either-pressed (is_off m) (stepped_off dues m) (stepped_on dues m) _ (off-pressed dues m is)
      (on-pressed dues m is)
      ∙ sym (ap (λ n. keys_after n (stepped dues m).keys 0) (step-applied dues m)
      ∙ ap (λ ks. keys_after (applied_in m) ks 0) (step-keys dues m))
    where
      either-pressed : (test : Bool) (one other : Machine) (pressed : ℕ) → one.board.core.devices.keys.pressed ≡ pressed
          → other.board.core.devices.keys.pressed ≡ pressed
          → (if test then one else other).board.core.devices.keys.pressed ≡ pressed
      either-pressed true one other pressed here there = here
      either-pressed false one other pressed here there = there

  step-holds : (dues : List Incoming) (m : Machine) → clock_of m ≤ last_clock → MayTake dues m → Holds m
      → Holds (stepped dues m)
  step-holds dues m near may is =
      let parts = step-parts dues m near (near-of m.was (clock_of m) dues near may.due) is in
      let after = follows dues m in
      let applied : applied_in m ≡ due_count (clock_of m) m.keys =
      due-more m.applied (clock_of m) m.keys is.changes.within in
      let all_due : (stepped dues m).applied ≡ due_count (clock_of m) (stepped dues m).keys =
      step-applied dues m ∙ applied ∙ sym (ap (due_count (clock_of m)) (step-keys dues m)) in
      let raised = after.raised in
      record {
        registers = parts.registers;
        memories = parts.memories;
        backup = parts.backup;
        devices = parts.devices;
        serial = parts.serial;
        lines = parts.lines;
        counts = counts.steps dues m is.counts;
        changes = record {
          within =
              let later =
              due-later (clock_of m) (clock_of (stepped dues m)) (stepped dues m).keys (omega (arith, raised)) in
              omega (arith, later, all_due);
          due = λ moved. all_due ∙ sym (ap (λ clock. due_count clock (stepped dues m).keys) after.was);
          pressed = step-pressed dues m is;
        };
        numbers = step-counts dues m near may is;
        begun = omega (arith, after.was, raised);
        short = omega (arith, after.was, after.short);
        on = λ runs. let started = step-on dues m is runs in omega (arith, started, raised, after.off);
      }

  -- ---- at reset

  blank : List ℕ
  blank = replicate 37 0

  blank-zero : (place : ℕ) → get_or blank place 0 ≡ 0
  unfolding blank
  blank-zero place = none (cases_lt place 37)
    where
      none : (place < 37) ⊎ (37 ≤ place) → get_or blank place 0 ≡ 0
      none (inl within) = get_or-replicate {A = ℕ} 37 place 0 0 within
      none (inr past) = get_or_past blank place 0 (omega (arith, past))

  reset-saved : (place : ℕ) → 31 < place → kept_status (get_or reset_file place 0) ≡ get_or reset_file place 0
  unfolding reset_file blank
  reset-saved place high =
      let zeros : get_or reset_file place 0 ≡ 0 =
      get_or-set_other blank 31 place 0xd3 0 (omega (arith, high)) ∙ blank-zero place in
      rw zeros refl

  reset-words : (place : ℕ) → get_or reset_file place 0 < 2 ^ 32
  unfolding reset_file blank
  reset-words = set-words blank 31 0xd3 (λ place. rw (blank-zero place) (omega arith)) (omega arith)

  reset-sound : IsSoundFile reset_file
  unfolding reset_file register status mode place
  reset-sound = record {
    stored = record {
      whole = record { count = refl; status_kept = record { stored = refl; mode = refl } };
      saved = reset-saved;
      words = reset-words;
    };
    aligned = refl;
  }

  memories-at-start : (bios : List ℕ) (cart save : Option (List ℕ)) (backup : Backup)
      → AreBytes (saved_bytes save backup) → MemoriesHold (at_start bios cart save backup)
  unfolding at_start work_length inner_length palette_length vram_length oam_length
  memories-at-start bios cart save backup are = record {
    work = has-replicate 0x40000 0 (omega arith);
    inner = has-replicate 0x8000 0 (omega arith);
    palette = has-replicate 0x400 0 (omega arith);
    vram = has-replicate 0x18000 0 (omega arith);
    oam = has-replicate 0x400 0 (omega arith);
    backup = by_kind backup;
  } where
    by_kind : (kind : Backup) → AreBytes (backup_bytes (backup_at_start kind (saved_bytes save backup)))
    by_kind Sram = are
    by_kind Flash64 = are
    by_kind Flash128 = are

  saved-has : (save : Option (List ℕ)) (backup : Backup)
      → ((bytes : List ℕ) → save ≡ Some bytes → HasBytes (backup_length backup) bytes)
      → HasBytes (backup_length backup) (saved_bytes save backup)
  saved-has None backup fits = has-replicate (backup_length backup) 0xff (omega arith)
  saved-has (Some bytes) backup fits = fits bytes refl

  backup-sound : (backup : Backup) (bytes : List ℕ) → length bytes ≡ backup_length backup
      → IsSoundBackup (backup_at_start backup bytes)
  backup-sound Sram bytes long = long
  backup-sound Flash64 bytes long = record {
    flash = refl;
    bytes = long;
    machine = record { bank = omega arith; one_bank = λ none. refl; no_choice = λ none. refl };
  }
  backup-sound Flash128 bytes long = record {
    flash = refl;
    bytes = long;
    machine = record { bank = omega arith; one_bank = λ none. refl; no_choice = λ none. refl };
  }

  backup-start : (bios : List ℕ) (cart save : Option (List ℕ)) (backup : Backup)
      → HasBytes (backup_length backup) (saved_bytes save backup)
      → IsSoundBackup (at_start bios cart save backup).backup
  unfolding at_start
  backup-start bios cart save backup has = backup-sound backup (saved_bytes save backup) has.long

  pub steps-hold : StepsHold
  steps-hold = record {
    begins = λ player count round off bios cart save backup keys room seated few short fits. record {
      registers = reset-sound;
      memories = memories-at-start bios cart save backup (saved-has save backup fits).bytes;
      backup = backup-start bios cart save backup (saved-has save backup fits);
      devices = devices.reset;
      serial = serial.reset player count round seated few short;
      lines = λ line none within. absurd (omega (arith, within));
      counts = counts.begins player count round off bios cart save backup keys room;
      changes = record { within = omega arith; due = λ moved. absurd (omega (arith, moved)); pressed = refl };
      numbers = record { frames = omega arith; pairs = omega arith; past = omega arith; next = omega arith };
      begun = omega arith;
      short = omega arith;
      on = λ runs. absurd (false≢true runs);
    };
    steps = step-holds;
  }
