use Rattle.std.proofs.Common.{◌∙◌, ◌-◌, ◌<◌, ◌≤◌, ap, sym, subst, arith}
use Rattle.std.specs.Prelude.{List, drop}
use Rattle.gba_io.specs.declared.board.Board.{Board}
use Rattle.gba_console.specs.Keys.{due_of}
use Rattle.gba_console.specs.Machine.{Machine, clock_of}
use Rattle.gba_console.specs.Step.{all_taken, board_begun}
use Rattle.gba_console.specs.Waiting.{CanTakeAll}
use Rattle.gba_console.specs.declared.keys.KeyState.{KeyState}
use Rattle.gba_io.specs.Core.{Core}
use Rattle.gba_io.specs.Cable.{NextEndFits}
use Rattle.gba_console.specs.StepLaws.{taken-clock}
use Rattle.gba_console.proofs.Images.{acted-images, moved-images, still-stand, taken-memory}
use Rattle.gba_console.proofs.On.{due-on, kept-on}
use Rattle.gba_console.proofs.Passing.{IsReady, ready-room, step-sound, step-was}
use Rattle.gba_console.proofs.Stepping.{acted-clock, acted-ends, acts-is, applied-is, begins-is, can-hear, hears-is, keyed-is, ready-heard, step-is-made, still-early, told-is, what-is}
use Rattle.gba_console.proofs.Console.step_on.Goals as goal
use Rattle.gba_console.specs.Doing.{told_by}

pub take_all-requires : goal.take_all-requires
take_all-requires c =
    let inside = c.self.inside in
    let m : Machine = record {
      registers = inside.registers;
      board = inside.board;
      keys = inside.keys.items;
      applied = inside.applied;
      off = inside.off;
      was = inside.board.core.devices.clock - inside.cycles;
      last = told_by inside.told inside.at inside.aside inside.words.items inside.halves.items;
    } in
    let on = rw (← c.self.view_is) at c.requires.on in
    let can = can-hear c.ends_stay_fit.ensures c.args.due.now m (c.self.invariant.5.on on) (omega arith)
    (rw (← c.self.view_is) at c.requires.below) c.requires.ordered (rw (← c.self.view_is) at c.requires.taken) in
    subst (λ (core : Core). CanTakeAll c.args.due.now (record inside.board { core = core }))
    (sym c.begin.ensures) can.can

pub end_due-requires : goal.end_due-requires
end_due-requires c =
    let inside = c.self.inside in
    let dues = c.args.due.now in
    let m : Machine = record {
      registers = inside.registers;
      board = inside.board;
      keys = inside.keys.items;
      applied = inside.applied;
      off = inside.off;
      was = inside.board.core.devices.clock - inside.cycles;
      last = told_by inside.told inside.at inside.aside inside.words.items inside.halves.items;
    } in
    let early = rw (← c.self.view_is) at c.requires.below in
    let on : m.off ≤ clock_of m = rw (← c.self.view_is) at c.requires.on in
    let sound = c.self.invariant.5.on on in
    let due = rw (← c.self.view_is) at c.requires.taken in
    let mid = c.take_all.new.board in
    let taken = begins-is m dues c.begin.new.self mid c.begin.ensures c.take_all.ensures in
    let can = can-hear c.ends_stay_fit.ensures dues m sound (omega arith) early c.requires.ordered due in
    let soon = still-early c.ends_stay_fit.ensures dues m sound (omega arith) early c.requires.ordered due in
    let clock = taken-clock dues (board_begun m.board) in
    record {
      clock = subst (λ (b : Board). b.core.devices.clock < b.ended.until) (sym taken) (omega (arith, soon, clock));
      room =
          subst (λ (b : Board). NextEndFits b) (sym taken)
          (c.ends_stay_fit.ensures.room (clock_of m) (all_taken dues (board_begun m.board)) can.fits soon);
    }

pub advance-requires-clause-room : goal.advance-requires-clause-room
advance-requires-clause-room c =
    let inside = c.self.inside in
    let dues = c.args.due.now in
    let m : Machine = record {
      registers = inside.registers;
      board = inside.board;
      keys = inside.keys.items;
      applied = inside.applied;
      off = inside.off;
      was = inside.board.core.devices.clock - inside.cycles;
      last = told_by inside.told inside.at inside.aside inside.words.items inside.halves.items;
    } in
    let early = rw (← c.self.view_is) at c.requires.below in
    let on : m.off ≤ clock_of m = rw (← c.self.view_is) at c.requires.on in
    let sound = c.self.invariant.5.on on in
    let due = rw (← c.self.view_is) at c.requires.taken in
    let mid = c.take_all.new.board in
    let taken = begins-is m dues c.begin.new.self mid c.begin.ensures c.take_all.ensures in
    let b = c.end_due.new.self in
    let here = hears-is m dues mid b taken c.end_due.ensures in
    let acts = c.acts_pass.ensures in
    let clock = c.clock-clock.result in
    let changes = drop inside.applied c.as_slice.result.now in
    let keyed = c.apply-self-inside.new.core in
    let core = c.act-acted.new.core in
    let cycles = c.act-acted.result.cycles in
    let done = c.act-acted.ensures.left in
    let ready = subst (λ (b : Board). IsReady (clock_of m) b) (sym here)
    (ready-heard c.ends_stay_fit.ensures dues m sound (omega arith) early c.requires.ordered due) in
    let same =
    acted-clock acts m b clock changes keyed core c.apply-self-inside.ensures.core done.bus_left ready.same in
    let short : cycles ≤ 512 = omega (arith, done.cycles_taken, (acts.all m.registers keyed).length.most) in
    let keeps = acted-ends acts m b clock changes keyed core c.apply-self-inside.ensures.core done.bus_left in
    ready-room (clock_of m) cycles b core ready same keeps short

pub returns-clause-step : goal.returns-clause-step
returns-clause-step c =
    let inside = c.self.inside in
    let dues = c.args.due.now in
    let m : Machine = record {
      registers = inside.registers;
      board = inside.board;
      keys = inside.keys.items;
      applied = inside.applied;
      off = inside.off;
      was = inside.board.core.devices.clock - inside.cycles;
      last = told_by inside.told inside.at inside.aside inside.words.items inside.halves.items;
    } in
    let early = rw (← c.self.view_is) at c.requires.below in
    let on : m.off ≤ clock_of m = rw (← c.self.view_is) at c.requires.on in
    let sound = c.self.invariant.5.on on in
    let due = rw (← c.self.view_is) at c.requires.taken in
    let mid = c.take_all.new.board in
    let taken = begins-is m dues c.begin.new.self mid c.begin.ensures c.take_all.ensures in
    let b = c.end_due.new.self in
    let here = hears-is m dues mid b taken c.end_due.ensures in
    let acts = c.acts_pass.ensures in
    let clock = c.clock-clock.result in
    let changes = drop inside.applied c.as_slice.result.now in
    let keyed = c.apply-self-inside.new.core in
    let core = c.act-acted.new.core in
    let cycles = c.act-acted.result.cycles in
    let done = c.act-acted.ensures.left in
    let ready = subst (λ (b : Board). IsReady (clock_of m) b) (sym here)
    (ready-heard c.ends_stay_fit.ensures dues m sound (omega arith) early c.requires.ordered due) in
    let same =
    acted-clock acts m b clock changes keyed core c.apply-self-inside.ensures.core done.bus_left ready.same in
    let short : cycles ≤ 512 = omega (arith, done.cycles_taken, (acts.all m.registers keyed).length.most) in
    let list = ap (drop inside.applied) c.as_slice.ensures.value in
    let leaves = acts-is m dues keyed c.act-acted.new.registers core cycles
    (keyed-is m dues b clock changes keyed here c.clock-clock.ensures.value list c.apply-self-inside.ensures.core)
    done in
    let count = applied-is m clock c.apply-self-inside.result changes c.clock-clock.ensures.value list
    c.apply-self-inside.ensures.count in
    let what = what-is m dues keyed c.act-acted.result.what
    (keyed-is m dues b clock changes keyed here c.clock-clock.ensures.value list c.apply-self-inside.ensures.core)
    c.act-acted.ensures.what in
    let passes = c.board_passes.ensures.all cycles (record b { core = core }) in
    rw (← c.self.view_is)
    (step-is-made m dues b c.advance.new.self c.act-acted.new.registers core cycles
    (c.advance.new.self.core.devices.clock - cycles) c.apply-self-inside.result c.act-acted.result.what here leaves
    c.advance.ensures count
    (step-was (clock_of m) cycles (record b { core = core }) c.advance.new.self c.advance.ensures passes same) what)

pub returns-clause-signal : goal.returns-clause-signal
returns-clause-signal c =
    let inside = c.self.inside in
    let dues = c.args.due.now in
    let m : Machine = record {
      registers = inside.registers;
      board = inside.board;
      keys = inside.keys.items;
      applied = inside.applied;
      off = inside.off;
      was = inside.board.core.devices.clock - inside.cycles;
      last = told_by inside.told inside.at inside.aside inside.words.items inside.halves.items;
    } in
    let early = rw (← c.self.view_is) at c.requires.below in
    let on : m.off ≤ clock_of m = rw (← c.self.view_is) at c.requires.on in
    let sound = c.self.invariant.5.on on in
    let due = rw (← c.self.view_is) at c.requires.taken in
    let mid = c.take_all.new.board in
    let taken = begins-is m dues c.begin.new.self mid c.begin.ensures c.take_all.ensures in
    let b = c.end_due.new.self in
    let here = hears-is m dues mid b taken c.end_due.ensures in
    let acts = c.acts_pass.ensures in
    let clock = c.clock-clock.result in
    let changes = drop inside.applied c.as_slice.result.now in
    let keyed = c.apply-self-inside.new.core in
    let core = c.act-acted.new.core in
    let cycles = c.act-acted.result.cycles in
    let done = c.act-acted.ensures.left in
    let list = ap (drop inside.applied) c.as_slice.ensures.value in
    let leaves = acts-is m dues keyed c.act-acted.new.registers core cycles
    (keyed-is m dues b clock changes keyed here c.clock-clock.ensures.value list c.apply-self-inside.ensures.core)
    done in
    rw (← c.self.view_is)
    (told-is acts m dues c.act-acted.new.registers core cycles c.outgoing-signal.result leaves
    c.outgoing-signal.ensures)

pub invariant_of-self : goal.invariant_of-self
invariant_of-self c =
    let inside = c.self.inside in
    let dues = c.args.due.now in
    let m : Machine = record {
      registers = inside.registers;
      board = inside.board;
      keys = inside.keys.items;
      applied = inside.applied;
      off = inside.off;
      was = inside.board.core.devices.clock - inside.cycles;
      last = told_by inside.told inside.at inside.aside inside.words.items inside.halves.items;
    } in
    let early = rw (← c.self.view_is) at c.requires.below in
    let on : m.off ≤ clock_of m = rw (← c.self.view_is) at c.requires.on in
    let sound = c.self.invariant.5.on on in
    let due = rw (← c.self.view_is) at c.requires.taken in
    let mid = c.take_all.new.board in
    let taken = begins-is m dues c.begin.new.self mid c.begin.ensures c.take_all.ensures in
    let b = c.end_due.new.self in
    let here = hears-is m dues mid b taken c.end_due.ensures in
    let acts = c.acts_pass.ensures in
    let clock = c.clock-clock.result in
    let changes = drop inside.applied c.as_slice.result.now in
    let keyed = c.apply-self-inside.new.core in
    let core = c.act-acted.new.core in
    let cycles = c.act-acted.result.cycles in
    let done = c.act-acted.ensures.left in
    let ready = subst (λ (b : Board). IsReady (clock_of m) b) (sym here)
    (ready-heard c.ends_stay_fit.ensures dues m sound (omega arith) early c.requires.ordered due) in
    let same =
    acted-clock acts m b clock changes keyed core c.apply-self-inside.ensures.core done.bus_left ready.same in
    let short : cycles ≤ 512 = omega (arith, done.cycles_taken, (acts.all m.registers keyed).length.most) in
    let keeps = acted-ends acts m b clock changes keyed core c.apply-self-inside.ensures.core done.bus_left in
    let passes = c.board_passes.ensures.all cycles (record b { core = core }) in
    let ends = ap (λ (b : Board). b.core.devices.clock) c.advance.ensures in
    let later = c.advance.new.self.core.devices.clock in
    let still : inside.off ≤ later = omega (arith, on, ends, passes.clock, same) in (
      c.self.invariant.0,
      c.self.invariant.1,
      omega (arith, c.apply-self-inside.ensures.most, c.as_slice.ensures.len),
      c.due_after-self-inside.ensures
          ∙ ap (λ (changes : List KeyState). due_of (drop c.apply-self-inside.result changes))
          c.as_slice-2.ensures.value
          ∙ sym (due-on inside.off later (drop c.apply-self-inside.result inside.keys.items) still),
      omega (arith, ends, passes.clock),
      kept-on inside.off (later - cycles) c.advance.new.self c.self.invariant.5.most still
          (step-sound (clock_of m) cycles b c.advance.new.self core ready same keeps short c.advance.ensures passes),
      still-stand inside.board.core.memory c.advance.new.self.core.memory _
          (moved-images inside.board.core.memory.bios inside.board.core.memory.rom cycles (record b { core = core })
          c.advance.new.self
          (acted-images inside.board.core.memory m.registers clock changes b.core keyed core
          (ap (λ (b : Board). b.core.memory) here ∙ taken-memory dues (board_begun m.board))
          c.apply-self-inside.ensures.core done.bus_left)
          c.advance.ensures passes)
          c.self.invariant.6,
    )
