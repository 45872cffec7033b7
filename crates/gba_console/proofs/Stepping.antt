-- A step, put together from what its parts do.
use Rattle.std.proofs.Common.{◌≡◌, ℕ, ◌+◌, ◌<◌, ◌≤◌, List, Option, refl, ◌∙◌, sym, ap, subst, arith}
use Rattle.std.specs.Prelude.{All}
use Rattle.gba_exec_transfers.specs.Done.{Leaves}
use Rattle.gba_io.specs.Board.{IsInStep, board_after}
use Rattle.gba_io.specs.Cable.{EndsFit, EndsStayFit, board_ended}
use Rattle.gba_io.specs.Core.{Core, core_begun}
use Rattle.gba_io.specs.Made.{Made}
use Rattle.gba_io.specs.declared.board.Board.{Board}
use Rattle.gba_serial.specs.Tell.{outgoing}
use Rattle.link_node.specs.Due.{InOrder, IsDue}
use Rattle.link_node.specs.declared.signal.Incoming.{Incoming}
use Rattle.link_node.specs.declared.signal.Signal.{Signal}
use Rattle.gba_console.specs.Keys.{after_keys, due_count}
use Rattle.gba_console.specs.Machine.{Machine, clock_of, left_of}
use Rattle.gba_console.specs.Passing.{ActsPass, KeepsCourse}
use Rattle.gba_console.specs.Step.{acted, all_taken, board_begun, done_in, heard, prepared, stepped_on, told_on, applied_in, what_acted, what_in}
use Rattle.gba_console.specs.Waiting.{IsSound}
use Rattle.gba_console.specs.declared.keys.KeyState.{KeyState}
use Rattle.gba_console.specs.StepLaws.{keys-clock, keys-lines, keys-place, keys-serial, taken-lines}
use Rattle.gba_console.specs.StepLaws.{prepared-clock, taken-clock, taken-made, taken-place, taken-until}
use Rattle.gba_console.proofs.Passing.{IsReady, core-in-step, keeps-from, left-clock, left-ends}
use Rattle.gba_console.proofs.Taking.{Taken, all-map, takes}
use Rattle.gba_console.specs.declared.doing.What.{What}

-- what the code has is what the step says
pub begins-is : (m : Machine) (dues : List Incoming) (begun : Core) (mid : Board) → begun ≡ core_begun m.board.core
    → mid ≡ all_taken dues (record m.board { core = begun }) → mid ≡ all_taken dues (board_begun m.board)
begins-is m dues begun mid start e = e ∙ ap (λ (core : Core). all_taken dues (record m.board { core = core })) start

pub hears-is : (m : Machine) (dues : List Incoming) (mid after : Board) → mid ≡ all_taken dues (board_begun m.board)
    → after ≡ board_ended mid.core.devices.clock mid → after ≡ heard dues m
hears-is m dues mid after taken e =
    e ∙ ap (λ (b : Board). board_ended b.core.devices.clock b) taken
    ∙ ap (λ n. board_ended n (all_taken dues (board_begun m.board))) (taken-clock dues (board_begun m.board))

pub keyed-is : (m : Machine) (dues : List Incoming) (after : Board) (clock : ℕ) (changes : List KeyState) (keyed : Core)
    → after ≡ heard dues m → clock ≡ clock_of m → changes ≡ left_of m → keyed ≡ after_keys clock changes after.core
    → keyed ≡ prepared dues m
keyed-is m dues after clock changes keyed here same list e =
    e ∙ ap (λ (b : Board). after_keys clock changes b.core) here
    ∙ ap (λ n. after_keys n changes (heard dues m).core) same
    ∙ ap (λ (list : List KeyState). after_keys (clock_of m) list (heard dues m).core) list

pub acts-is : (m : Machine) (dues : List Incoming) (keyed : Core) (file : List ℕ) (core : Core) (cycles : ℕ)
    → keyed ≡ prepared dues m → Leaves (acted m.registers keyed) file core cycles
    → Leaves (done_in dues m) file core cycles
acts-is m dues keyed file core cycles same leaves =
    subst (λ (b : Core). Leaves (acted m.registers b) file core cycles) same leaves

pub what-is : (m : Machine) (dues : List Incoming) (keyed : Core) (what : What) → keyed ≡ prepared dues m
    → what ≡ what_acted m.registers keyed → what ≡ what_in dues m
what-is m dues keyed what same e = e ∙ ap (what_acted m.registers) same

pub applied-is : (m : Machine) (clock applied : ℕ) (changes : List KeyState) → clock ≡ clock_of m → changes ≡ left_of m
    → applied ≡ m.applied + due_count clock changes → applied ≡ applied_in m
applied-is m clock applied changes same list e =
    e ∙ ap (λ (n : ℕ). m.applied + due_count n changes) same
    ∙ ap (λ (list : List KeyState). m.applied + due_count (clock_of m) list) list

pub step-is-made : (m : Machine) (dues : List Incoming) (b after : Board) (file : List ℕ) (core : Core)
    (cycles was applied : ℕ) (what : What) → b ≡ heard dues m → Leaves (done_in dues m) file core cycles
    → after ≡ board_after cycles (record b { core = core }) → applied ≡ applied_in m → was ≡ clock_of m
    → what ≡ what_in dues m
    → (record m { registers = file; board = after; applied = applied; was = was; last = what }) ≡ stepped_on dues m
unfolding stepped_on
step-is-made m dues b after file core cycles was applied what here leaves moved left same told =
    let registers = leaves.registers_left in
    let bus = leaves.bus_left in
    let taken = leaves.cycles_taken in
    rw (moved, here, registers, bus, taken, left, same, told) refl

pub told-is : ActsPass
    → (m : Machine) (dues : List Incoming) (file : List ℕ) (core : Core) (cycles : ℕ) (signal : Option Signal)
    → Leaves (done_in dues m) file core cycles → signal ≡ outgoing core.devices.clock core.serial
    → signal ≡ told_on dues m
unfolding told_on
told-is acts m dues file core cycles signal leaves e =
    let done = done_in dues m in
    let act = acts.all m.registers (prepared dues m) in
    e ∙ ap (λ (b : Core). outgoing b.devices.clock b.serial) leaves.bus_left
    ∙ ap (λ n. outgoing n done.bus.serial) (act.clock ∙ prepared-clock dues m)

-- A sound console is ready for its signals, and then for its step.
module _ (stay : EndsStayFit) (dues : List Incoming) (m : Machine) (sound : IsSound m.was m.board)
    (after : m.was ≤ clock_of m) (early : clock_of m < m.board.made.until) (ordered : InOrder dues)
    (due : All (IsDue m.was (clock_of m)) dues) where
  begun-fits : EndsFit m.was (board_begun m.board)
  begun-fits = record {
    apart = sound.ends.apart;
    seat = sound.ends.seat;
    few = sound.ends.few;
  }

  late : (one : Incoming) → IsDue m.was (clock_of m) one → m.was ≤ one.arrival
  late one is = let past = is.after_last in omega (arith, past)

  pub can-hear : Taken (clock_of m) dues (board_begun m.board)
  can-hear =
      takes stay m.was (clock_of m) m.was dues (board_begun m.board) ordered due
      (all-map (IsDue m.was (clock_of m)) (λ one. m.was ≤ one.arrival) dues late due) after begun-fits
      (omega (arith, early, sound.same))

  pub still-early : clock_of m < (all_taken dues (board_begun m.board)).ended.until
  still-early = let until = taken-until dues (board_begun m.board) in omega (arith, early, sound.same, until)

  heard-step : IsInStep (heard dues m)
  heard-step =
      let b = heard dues m in
      let kept = record m.board { core = b.core; ended = b.ended } in
      let in_step : Made → Type 0 = λ made. IsInStep (record kept { made = made }) in
      subst in_step (sym (taken-made dues (board_begun m.board)))
      (core-in-step m.board b.core b.ended (taken-clock dues (board_begun m.board))
      (taken-place dues (board_begun m.board)) (taken-lines dues (board_begun m.board)) sound.step)

  pub ready-heard : IsReady (clock_of m) (heard dues m)
  ready-heard =
      let b = all_taken dues (board_begun m.board) in
      let made = taken-made dues (board_begun m.board) in
      let until = ap (λ (some : Made). some.until) made in
      let ended = taken-until dues (board_begun m.board) in
      record {
        same = taken-clock dues (board_begun m.board);
        fits = stay.ended (clock_of m) b can-hear.fits still-early;
        step = heard-step;
        early = omega (arith, early, until);
        few = omega (arith, sound.few, until);
        until = omega (arith, sound.same, until, ended);
      }

-- what the step did leaves no nearer end, and the clock
pub acted-ends : ActsPass → (m : Machine) (b : Board) (clock : ℕ) (changes : List KeyState) (keyed core : Core)
    → keyed ≡ after_keys clock changes b.core → core ≡ (acted m.registers keyed).bus → KeepsCourse b.core core
acted-ends acts m b clock changes keyed core e bus =
    keeps-from b.core keyed core
    (ap (λ (c : Core). c.serial) e ∙ keys-serial clock changes b.core)
    (ap (λ (c : Core). c.devices.clock) e ∙ keys-clock clock changes b.core)
    (ap (λ (c : Core). c.devices.place) e ∙ keys-place clock changes b.core)
    (ap (λ (c : Core). c.lines) e ∙ keys-lines clock changes b.core)
    (left-ends keyed core (acted m.registers keyed) bus (acts.all m.registers keyed))

pub acted-clock : ActsPass → (m : Machine) (b : Board) (clock : ℕ) (changes : List KeyState) (keyed core : Core)
    → keyed ≡ after_keys clock changes b.core → core ≡ (acted m.registers keyed).bus → b.core.devices.clock ≡ clock_of m
    → core.devices.clock ≡ clock_of m
acted-clock acts m b clock changes keyed core e bus same =
    left-clock keyed core (acted m.registers keyed) bus (acts.all m.registers keyed)
    ∙ ap (λ (c : Core). c.devices.clock) e
    ∙ keys-clock clock changes b.core
    ∙ same
