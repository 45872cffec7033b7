use Rattle.gba_mem.specs.Backups.{with_machine}
use Rattle.gba_screen.proofs.Shown.{fresh_beside, lines_beside, machine_beside, same_screen}
use Rattle.gba_screen.proofs.screen.Screen.restore_flash.Goals as goal

pub invariant_of-self : goal.invariant_of-self
invariant_of-self c =
    let s = c.self.inside in
    let i = c.self.invariant in
    let restored = c.restore_flash.new.self in
    let same = machine_beside s.memory restored c.args.machine c.restore_flash.ensures in (
      i.0,
      i.1,
      i.2,
      i.3,
      i.4,
      fresh_beside s.lines.items s.keys.items s.memory restored s.paid.lines s.paid.fresh same i.5,
    )

pub returns : goal.returns
returns c =
    let s = c.self.inside in
    let restored = c.restore_flash.new.self in
    let same = machine_beside s.memory restored c.args.machine c.restore_flash.ensures in
    rw (← c.self.view_is)
    (same_screen restored
    (record s.memory { backup = with_machine c.args.machine s.memory.backup }) _ _ c.restore_flash.ensures
    (lines_beside s.lines.items s.keys.items s.memory restored s.paid.lines s.drawn same))
