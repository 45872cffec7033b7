use Rattle.std.proofs.Common.{◌+◌, ◌-◌, ◌≤◌, refl, arith}
use Rattle.std.specs.Prelude.{drop}
use Rattle.gba_console.specs.Machine.{Machine}
use Rattle.gba_console.proofs.Idling.{idle-clock, idle-is, idle-room, idle-sound}
use Rattle.gba_console.proofs.On.{due-kept, kept-on}
use Rattle.gba_console.proofs.Images.{moved-images, still-stand}
use Rattle.gba_console.proofs.Console.step_idly.Goals as goal
use Rattle.gba_console.specs.Doing.{told_by}

pub advance-requires-clause-room : goal.advance-requires-clause-room
advance-requires-clause-room c =
    let b = c.self.inside.board in
    let room : b.core.devices.clock + 1 ≤ b.made.until = rw (← c.self.view_is) at c.requires.until in
    idle-room (b.core.devices.clock - c.self.inside.cycles) b
    (c.self.invariant.5.on (rw (← c.self.view_is) at c.requires.on)) (omega (arith, room))

pub returns-clause-step : goal.returns-clause-step
returns-clause-step c =
    let inside = c.self.inside in
    let m : Machine = record {
      registers = inside.registers;
      board = inside.board;
      keys = inside.keys.items;
      applied = inside.applied;
      off = inside.off;
      was = inside.board.core.devices.clock - inside.cycles;
      last = told_by inside.told inside.at inside.aside inside.words.items inside.halves.items;
    } in
    rw (← c.self.view_is)
    (idle-is c.board_passes.ensures.all c.calm_has_begun.ensures c.stays_quiet.ensures m c.advance.new.self
    (rw (← c.self.view_is) at c.requires) c.advance.ensures)

pub invariant_of-self : goal.invariant_of-self
invariant_of-self c =
    let inside = c.self.inside in
    let b = inside.board in
    let after = c.advance.new.self in
    let moved = c.advance.ensures in
    let room : b.core.devices.clock + 1 ≤ b.made.until = rw (← c.self.view_is) at c.requires.until in
    let on : inside.off ≤ b.core.devices.clock = rw (← c.self.view_is) at c.requires.on in
    let passed = idle-clock c.board_passes.ensures.all b after moved in
    let later = after.core.devices.clock in (
      c.self.invariant.0,
      c.self.invariant.1,
      c.self.invariant.2,
      due-kept inside.off b.core.devices.clock later inside.due (drop inside.applied inside.keys.items) on
          (omega (arith, passed)) c.self.invariant.3,
      omega (arith, passed),
      kept-on inside.off (later - 16) after c.self.invariant.5.most (omega (arith, on, passed))
          (idle-sound c.board_passes.ensures.all (b.core.devices.clock - inside.cycles) b after
          (c.self.invariant.5.on on) (omega arith) (omega (arith, room)) moved),
      still-stand b.core.memory after.core.memory inside.halves.items
          (moved-images b.core.memory.bios b.core.memory.rom 16 b after (record { bios = refl; rom = refl }) moved
          (c.board_passes.ensures.all 16 b))
          c.self.invariant.6,
    )
