use Rattle.gba_mem.specs.Stores.{store}
use Rattle.gba_screen.proofs.Shown.{beside_as, fresh_beside, lines_beside, same_screen}
use Rattle.gba_screen.proofs.screen.Screen.store_beside.Goals as goal

pub invariant_of-self : goal.invariant_of-self
invariant_of-self c =
    let s = c.self.inside in
    let i = c.self.invariant in
    let stored = store c.args.mode s.memory c.args.address c.args.width c.args.value in
    let same = beside_as s.memory c.store.new.self stored c.store.ensures
    (c.stores_keep_video.ensures c.args.mode s.memory c.args.address c.args.width c.args.value c.requires) in (
      i.0,
      i.1,
      i.2,
      i.3,
      i.4,
      fresh_beside s.lines.items s.keys.items s.memory c.store.new.self s.paid.lines s.paid.fresh same i.5,
    )

pub returns : goal.returns
returns c =
    let s = c.self.inside in
    let stored = store c.args.mode s.memory c.args.address c.args.width c.args.value in
    let same = beside_as s.memory c.store.new.self stored c.store.ensures
    (c.stores_keep_video.ensures c.args.mode s.memory c.args.address c.args.width c.args.value c.requires) in
    rw (← c.self.view_is)
    (same_screen c.store.new.self stored _ _ c.store.ensures
    (lines_beside s.lines.items s.keys.items s.memory c.store.new.self s.paid.lines s.drawn same))
