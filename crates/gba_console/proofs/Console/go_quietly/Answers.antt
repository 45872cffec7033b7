use Rattle.std.proofs.Common.{◌≡◌, ◌<◌, ◌-◌, ◌+◌, ◌*◌, ◌≤◌, [], refl, ap, sym, subst, arith}
use Rattle.std.specs.Prelude.{All, Option, None, drop}
use Rattle.link_node.specs.Alone.{Stays}
use Rattle.link_node.specs.declared.signal.Signal.{Signal}
use Rattle.gba_io.specs.declared.board.Board.{Board}
use Rattle.gba_console.specs.Fixed.{Stands}
use Rattle.gba_console.specs.Machine.{Machine, clock_of}
use Rattle.gba_console.specs.Run.{GoesAlone}
use Rattle.gba_console.specs.Keys.{next_due}
use Rattle.gba_console.specs.Waiting.{IsKept}
use Rattle.gba_console.proofs.On.{due-kept, kept-on}
use Rattle.gba_console.proofs.Idling.{board-none, many-alone, many-idle, many-sound}
use Rattle.gba_console.proofs.Images.{moved-images, still-stand}
use Rattle.gba_console.proofs.Console.go_quietly.Goals as goal
use Rattle.gba_console.specs.Doing.{told_by}

pub owe_steps-steps-requires-clause-step : goal.owe_steps-steps-requires-clause-step
owe_steps-steps-requires-clause-step c = (c.self.invariant.5.on (rw (← c.self.view_is) at c.requires.idles.on)).step

pub returns-then-steps-eq0-clause-alone : goal.returns-then-steps-eq0-clause-alone
returns-then-steps-eq0-clause-alone c =
    let inside = c.self.inside in
    let m : Machine = record {
      registers = inside.registers;
      board = inside.board;
      keys = inside.keys.items;
      applied = inside.applied;
      off = inside.off;
      was = inside.board.core.devices.clock - inside.cycles;
      last = told_by inside.told inside.at inside.aside inside.words.items inside.halves.items;
    } in
    let last = inside.cycles in
    let none : Option Signal = None in
    rw (← c.self.view_is)
    (subst (λ (b : Board). GoesAlone c.args.stop m (record m { board = b; was = b.core.devices.clock - last }) none)
    (sym (board-none c.owe_steps-steps.result inside.board c.owe_steps-steps.new.self c.if-steps-eq0.true
    c.owe_steps-steps.ensures.owed)) Stays)

pub returns-clause-alone : goal.returns-clause-alone
returns-clause-alone c =
    let inside = c.self.inside in
    let m : Machine = record {
      registers = inside.registers;
      board = inside.board;
      keys = inside.keys.items;
      applied = inside.applied;
      off = inside.off;
      was = inside.board.core.devices.clock - inside.cycles;
      last = told_by inside.told inside.at inside.aside inside.words.items inside.halves.items;
    } in
    let steps = c.owe_steps-steps.result in
    let some : 0 < steps = omega (arith, c.if-steps-eq0.false) in
    let below : clock_of m + 16 * c.args.most < c.args.stop + 16 = rw (← c.self.view_is) at c.requires.below in
    rw (← c.self.view_is)
    (many-alone c.board_passes.ensures.all c.calm_has_begun.ensures c.stays_quiet.ensures (c.steps_pass.ensures []) m
    c.args.stop (rw (← c.self.view_is) at c.requires.idles) steps some c.owe_steps-steps.new.self
    c.owe_steps-steps.ensures.owed
    c.owe_steps-steps.ensures.idle (omega (arith, below, c.owe_steps-steps.ensures.most)))

pub invariant_of-self : goal.invariant_of-self
invariant_of-self c =
    let inside = c.self.inside in
    let last = inside.cycles in
    let due = inside.due in
    let off = inside.off in
    let keys = drop inside.applied inside.keys.items in
    let halves = inside.halves.items in
    let left = sym (board-none c.owe_steps-steps.result inside.board c.owe_steps-steps.new.self c.if-steps-eq0.true
    c.owe_steps-steps.ensures.owed) in (
      c.self.invariant.0,
      c.self.invariant.1,
      c.self.invariant.2,
      subst (λ (b : Board). due ≡ next_due off b.core.devices.clock keys) left c.self.invariant.3,
      subst (λ (b : Board). last ≤ b.core.devices.clock) left c.self.invariant.4,
      subst (λ (b : Board). IsKept off (b.core.devices.clock - last) b) left c.self.invariant.5,
      subst (λ (b : Board). All (Stands b.core.memory.bios b.core.memory.rom) halves) left c.self.invariant.6,
    )

pub invariant_of-self-2 : goal.invariant_of-self-2
invariant_of-self-2 c =
    let inside = c.self.inside in
    let m : Machine = record {
      registers = inside.registers;
      board = inside.board;
      keys = inside.keys.items;
      applied = inside.applied;
      off = inside.off;
      was = inside.board.core.devices.clock - inside.cycles;
      last = told_by inside.told inside.at inside.aside inside.words.items inside.halves.items;
    } in
    let b = inside.board in
    let steps = c.owe_steps-steps.result in
    let after = c.owe_steps-steps.new.self in
    let owed = c.owe_steps-steps.ensures.owed in
    let some : 0 < steps = omega (arith, c.if-steps-eq0.false) in
    let below : clock_of m + 16 * c.args.most < c.args.stop + 16 = rw (← c.self.view_is) at c.requires.below in
    let passes = c.board_passes.ensures.all (16 * steps) b in
    let clock = ap (λ (b : Board). b.core.devices.clock) owed in
    let on : inside.off ≤ b.core.devices.clock = rw (← c.self.view_is) at c.requires.idles.on in
    let later = after.core.devices.clock in (
      c.self.invariant.0,
      c.self.invariant.1,
      c.self.invariant.2,
      due-kept inside.off b.core.devices.clock later inside.due (drop inside.applied inside.keys.items) on
          (omega (arith, clock, passes.clock)) c.self.invariant.3,
      omega (arith, clock, passes.clock, some),
      kept-on inside.off (later - 16) after c.self.invariant.5.most (omega (arith, on, clock, passes.clock))
          (many-sound c.board_passes.ensures.all c.calm_has_begun.ensures c.stays_quiet.ensures
          (c.steps_pass.ensures []) m c.args.stop (rw (← c.self.view_is) at c.requires.idles) steps some after owed
          (c.self.invariant.5.on on) (omega arith) (omega (arith, below, c.owe_steps-steps.ensures.most))),
      still-stand b.core.memory after.core.memory inside.halves.items
          (moved-images b.core.memory.bios b.core.memory.rom (16 * steps) b after
          (record { bios = refl; rom = refl }) owed passes)
          c.self.invariant.6,
    )

pub returns-clause-idle : goal.returns-clause-idle
returns-clause-idle c =
    let inside = c.self.inside in
    let m : Machine = record {
      registers = inside.registers;
      board = inside.board;
      keys = inside.keys.items;
      applied = inside.applied;
      off = inside.off;
      was = inside.board.core.devices.clock - inside.cycles;
      last = told_by inside.told inside.at inside.aside inside.words.items inside.halves.items;
    } in
    many-idle c.board_passes.ensures.all c.calm_has_begun.ensures c.stays_quiet.ensures (c.steps_pass.ensures []) m
    c.args.stop (rw (← c.self.view_is) at c.requires.idles) c.owe_steps-steps.result c.owe_steps-steps.new.self
    c.owe_steps-steps.ensures.owed c.owe_steps-steps.ensures.idle
