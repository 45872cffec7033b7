use Rattle.std.proofs.Common.{◌≡◌, ◌-◌, ◌+◌, ◌<◌, ◌∙◌, ℕ, List, ap, arith}
use Rattle.std.specs.Prelude.{drop}
use Rattle.gba_io.specs.Core.{core_rested}
use Rattle.gba_console.specs.Keys.{due_count, next_due}
use Rattle.gba_console.specs.Machine.{Machine, clock_of}
use Rattle.gba_console.specs.declared.keys.KeyState.{KeyState}
use Rattle.gba_console.proofs.Images.{still-stand}
use Rattle.gba_console.proofs.Resting.{left-off, off-clock, off-images, off-kept, off-made, prepares-off}
use Rattle.gba_console.proofs.Console.step_off.Goals as goal
use Rattle.gba_console.specs.Doing.{told_by}

pub rest-requires : goal.rest-requires
rest-requires c =
    let inside = c.self.inside in
    let m : Machine = record {
      registers = inside.registers;
      board = inside.board;
      keys = inside.keys.items;
      applied = inside.applied;
      off = inside.off;
      was = inside.board.core.devices.clock - inside.cycles;
      last = told_by inside.told inside.at inside.aside inside.words.items inside.halves.items;
    } in
    let early : clock_of m < m.board.made.until = rw (← c.self.view_is) at c.requires.below in
    let core = c.apply-self-inside.new.core in
    let same = prepares-off m c.args.due.now c.begin.new.self c.learn_all.new.core core c.clock-clock.result
    (drop inside.applied c.as_slice.result.now) c.begin.ensures c.learn_all.ensures c.clock-clock.ensures.value
    (ap (drop inside.applied) c.as_slice.ensures.value) c.apply-self-inside.ensures.core in
    omega (arith, left-off m c.args.due.now core same, early, c.self.invariant.5.few)

pub invariant_of-self : goal.invariant_of-self
invariant_of-self c =
    let inside = c.self.inside in
    let dues = c.args.due.now in
    let m : Machine = record {
      registers = inside.registers;
      board = inside.board;
      keys = inside.keys.items;
      applied = inside.applied;
      off = inside.off;
      was = inside.board.core.devices.clock - inside.cycles;
      last = told_by inside.told inside.at inside.aside inside.words.items inside.halves.items;
    } in
    let early : clock_of m < m.board.made.until = rw (← c.self.view_is) at c.requires.below in
    let below : clock_of m < m.off = rw (← c.self.view_is) at c.requires.off in
    let same =
    prepares-off m dues c.begin.new.self c.learn_all.new.core c.apply-self-inside.new.core c.clock-clock.result
    (drop inside.applied c.as_slice.result.now) c.begin.ensures c.learn_all.ensures c.clock-clock.ensures.value
    (ap (drop inside.applied) c.as_slice.ensures.value) c.apply-self-inside.ensures.core in
    let core = c.rest.new.self in
    let rested = c.rest.ensures ∙ ap (core_rested 16) same in
    let passed = off-clock dues m core rested in
    let left = drop c.apply-self-inside.result inside.keys.items in
    let clock : c.clock-clock.result + c.from.result ≡ core.devices.clock
    = omega (arith, passed, c.clock-clock.ensures.value, c.from.ensures) in (
      c.self.invariant.0,
      c.self.invariant.1,
      omega (arith, c.apply-self-inside.ensures.most, c.as_slice.ensures.len),
      c.due_at-self-inside.ensures
          ∙ ap (λ (changes : List KeyState). next_due inside.off (c.clock-clock.result + c.from.result)
          (drop c.apply-self-inside.result changes))
          c.as_slice-2.ensures.value
          ∙ ap (λ (n : ℕ). next_due inside.off n left) clock,
      omega (arith, passed),
      off-kept dues m core c.self.invariant.5 below early rested,
      still-stand inside.board.core.memory core.memory inside.halves.items (off-images dues m core rested)
          c.self.invariant.6,
    )

pub returns : goal.returns
returns c =
    let inside = c.self.inside in
    let dues = c.args.due.now in
    let m : Machine = record {
      registers = inside.registers;
      board = inside.board;
      keys = inside.keys.items;
      applied = inside.applied;
      off = inside.off;
      was = inside.board.core.devices.clock - inside.cycles;
      last = told_by inside.told inside.at inside.aside inside.words.items inside.halves.items;
    } in
    let changes = drop inside.applied c.as_slice.result.now in
    let list = ap (drop inside.applied) c.as_slice.ensures.value in
    let same =
    prepares-off m dues c.begin.new.self c.learn_all.new.core c.apply-self-inside.new.core c.clock-clock.result
    changes c.begin.ensures c.learn_all.ensures c.clock-clock.ensures.value list c.apply-self-inside.ensures.core in
    let count =
    c.apply-self-inside.ensures.count
    ∙ ap (λ (n : ℕ). inside.applied + due_count n changes) c.clock-clock.ensures.value
    ∙ ap (λ (some : List KeyState). inside.applied + due_count (clock_of m) some) list in
    rw (← c.self.view_is)
    (off-made m dues c.rest.new.self c.apply-self-inside.result (c.rest.ensures ∙ ap (core_rested 16) same) count)
