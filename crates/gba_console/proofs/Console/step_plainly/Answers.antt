use Rattle.std.proofs.Common.{◌∙◌, ◌-◌, ◌≤◌, ℕ, List, ap, sym, arith}
use Rattle.std.specs.Prelude.{◌++◌, drop, length, take}
use Rattle.gba_io.specs.declared.board.Board.{Board}
use Rattle.gba_arm_exec.specs.declared.decoded.Decoded.{Decoded as DecodedWord}
use Rattle.gba_psr.specs.RegisterFile.{register}
use Rattle.gba_console.specs.declared.fixed.KeptHalf.{KeptHalf}
use Rattle.gba_console.specs.Machine.{Machine}
use Rattle.gba_console.specs.Step.{instruction_done, what_instructed}
use Rattle.gba_console.proofs.Calm.{plain-next, put-together}
use Rattle.gba_console.proofs.Images.{done-images, moved-images, still-stand, whole-again}
use Rattle.gba_console.proofs.On.{due-kept, kept-on}
use Rattle.gba_console.proofs.Passing.{ends-after, left-clock, left-ends, sound-ready, step-sound, step-was}
use Rattle.gba_console.proofs.Console.step_plainly.Goals as goal
use Rattle.gba_console.specs.Doing.{told_by}

pub returns-clause-step : goal.returns-clause-step
returns-clause-step c =
    let inside = c.self.inside in
    let m : Machine = record {
      registers = inside.registers;
      board = inside.board;
      keys = inside.keys.items;
      applied = inside.applied;
      off = inside.off;
      was = inside.board.core.devices.clock - inside.cycles;
      last = told_by inside.told inside.at inside.aside inside.words.items inside.halves.items;
    } in
    let done = instruction_done inside.registers inside.board.core in
    let cycles = c.execute-cycles.result in
    let mid = record inside.board { core = c.execute-cycles.new.core } in
    let acts = c.acts_pass.ensures.instructions inside.registers inside.board.core in
    let same =
    left-clock inside.board.core c.execute-cycles.new.core done c.execute-cycles.ensures.left.bus_left acts in
    let words =
    take inside.words.len (c.execute-cycles.new.words ++ drop (length c.execute-cycles.new.words) inside.words.items) in
    let halves =
    take inside.halves.len
    (c.execute-cycles.new.halves ++ drop (length c.execute-cycles.new.halves) inside.halves.items) in
    let same_words = whole-again c.execute-cycles.new.words inside.words.items inside.words.len
    (c.execute-cycles.ensures.length_of_words ∙ sym c.self.invariant.0) in
    let same_halves = whole-again c.execute-cycles.new.halves inside.halves.items inside.halves.len
    (c.execute-cycles.ensures.length ∙ sym c.self.invariant.1) in
    let told =
    ap (λ (n : ℕ). told_by c.execute-cycles.new.told n inside.aside words halves) c.get-self-inside.ensures
    ∙ ap (λ (some : List DecodedWord). told_by c.execute-cycles.new.told (register inside.registers 15) inside.aside
    some halves)
    same_words
    ∙ ap (λ (some : List KeptHalf). told_by c.execute-cycles.new.told (register inside.registers 15) inside.aside
    c.execute-cycles.new.words some) same_halves
    ∙ c.execute-cycles.ensures.told inside.aside in
    rw (← c.self.view_is)
    (put-together done c.execute-cycles.new.registers c.execute-cycles.new.core c.advance.new.self
    cycles (c.advance.new.self.core.devices.clock - cycles) inside.board.core.devices.clock
    (told_by c.execute-cycles.new.told c.get-self-inside.result inside.aside words halves)
    (what_instructed inside.registers inside.board.core) m
    c.execute-cycles.ensures.left.registers_left c.execute-cycles.ensures.left.bus_left
    c.execute-cycles.ensures.left.cycles_taken c.advance.ensures
    (step-was inside.board.core.devices.clock cycles mid c.advance.new.self c.advance.ensures
    (c.board_passes.ensures.all cycles mid) same)
    told
    ∙ sym (plain-next c.calm_has_begun.ensures c.stays_quiet.ensures m (rw (← c.self.view_is) at c.requires.plain)))

pub returns-clause-ends : goal.returns-clause-ends
returns-clause-ends c =
    let inside = c.self.inside in
    let cycles = c.execute-cycles.result in
    let core = c.execute-cycles.new.core in
    let done = instruction_done inside.registers inside.board.core in
    let acts = c.acts_pass.ensures.instructions inside.registers inside.board.core in
    let keeps = left-ends inside.board.core core done c.execute-cycles.ensures.left.bus_left acts in
    rw (← c.self.view_is) (λ bound soon before.
    ends-after cycles bound inside.board c.advance.new.self core c.advance.ensures
    (c.board_passes.ensures.all cycles (record inside.board { core = core })) keeps
    (c.self.invariant.5.on (rw (← c.self.view_is) at c.requires.plain).on).ends.seat soon before)

pub returns-clause-some : goal.returns-clause-some
returns-clause-some c =
    let acts = (c.acts_pass.ensures.instructions c.self.inside.registers c.self.inside.board.core).length.least in
    omega (arith, c.execute-cycles.ensures.left.cycles_taken, acts)

pub invariant_of-self : goal.invariant_of-self
invariant_of-self c =
    let inside = c.self.inside in
    let cycles = c.execute-cycles.result in
    let core = c.execute-cycles.new.core in
    let done = instruction_done inside.registers inside.board.core in
    let acts = c.acts_pass.ensures.instructions inside.registers inside.board.core in
    let same = left-clock inside.board.core core done c.execute-cycles.ensures.left.bus_left acts in
    let keeps = left-ends inside.board.core core done c.execute-cycles.ensures.left.bus_left acts in
    let passes = c.board_passes.ensures.all cycles (record inside.board { core = core }) in
    let ends = ap (λ (b : Board). b.core.devices.clock) c.advance.ensures in
    let early = rw (← c.self.view_is) at c.requires.clock in
    let plain = rw (← c.self.view_is) at c.requires.plain in
    let short : cycles ≤ 512 = omega (arith, c.execute-cycles.ensures.left.cycles_taken, acts.length.most) in
    let clock = inside.board.core.devices.clock in
    let later = c.advance.new.self.core.devices.clock in
    let past : clock ≤ later = omega (arith, ends, passes.clock, same) in (
      c.self.invariant.0,
      c.self.invariant.1,
      c.self.invariant.2,
      due-kept inside.off clock later inside.due (drop inside.applied inside.keys.items) plain.on past
          c.self.invariant.3,
      omega (arith, ends, passes.clock),
      kept-on inside.off (later - cycles) c.advance.new.self c.self.invariant.5.most (omega (arith, plain.on, past))
          (step-sound clock cycles inside.board c.advance.new.self core
          (sound-ready (clock - inside.cycles) inside.board (c.self.invariant.5.on plain.on) (omega arith) early)
          same keeps short c.advance.ensures passes),
      still-stand inside.board.core.memory c.advance.new.self.core.memory
          (take inside.halves.len
          (c.execute-cycles.new.halves ++ drop (length c.execute-cycles.new.halves) inside.halves.items))
          (moved-images inside.board.core.memory.bios inside.board.core.memory.rom cycles
          (record inside.board { core = core }) c.advance.new.self
          (done-images inside.registers inside.board.core core c.execute-cycles.ensures.left.bus_left)
          c.advance.ensures passes)
          (rw (← whole-again c.execute-cycles.new.halves inside.halves.items inside.halves.len
          (c.execute-cycles.ensures.length ∙ sym c.self.invariant.1))
          at c.execute-cycles.ensures.stand),
    )
