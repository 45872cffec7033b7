use Rattle.gba_bus.specs.Regions.{region_of}
use Rattle.gba_mem.specs.Stores.{store}
use Rattle.gba_screen.proofs.Shown.{beside_as, fresh_beside, inner_beside, lines_beside, same_screen}
use Rattle.gba_screen.proofs.screen.Screen.store_inner.Goals as goal

pub invariant_of-self : goal.invariant_of-self
invariant_of-self c =
    let s = c.self.inside in
    let i = c.self.invariant in
    let stored = store 0 s.memory c.args.address c.args.width c.args.value in
    let same = beside_as s.memory c.store_inner.new.self stored (c.store_inner.ensures 0)
    (c.stores_keep_video.ensures 0 s.memory c.args.address c.args.width c.args.value
    (inner_beside (region_of c.args.address) c.requires)) in (
      i.0,
      i.1,
      i.2,
      i.3,
      i.4,
      fresh_beside s.lines.items s.keys.items s.memory c.store_inner.new.self s.paid.lines s.paid.fresh same i.5,
    )

pub returns : goal.returns
returns c = λ mode.
    let s = c.self.inside in
    let stored = store mode s.memory c.args.address c.args.width c.args.value in
    let same = beside_as s.memory c.store_inner.new.self stored (c.store_inner.ensures mode)
    (c.stores_keep_video.ensures mode s.memory c.args.address c.args.width c.args.value
    (inner_beside (region_of c.args.address) c.requires)) in
    rw (← c.self.view_is)
    (same_screen c.store_inner.new.self stored _ _ (c.store_inner.ensures mode)
    (lines_beside s.lines.items s.keys.items s.memory c.store_inner.new.self s.paid.lines s.drawn same))
