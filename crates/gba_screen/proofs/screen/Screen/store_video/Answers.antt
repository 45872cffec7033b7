use Rattle.std.proofs.Common.{◌≤◌, arith}
use Rattle.gba_mem.specs.Stores.{store}
use Rattle.gba_screen.proofs.Shown.{lines_settled, same_screen}
use Rattle.gba_screen.proofs.screen.Screen.store_video.Goals as goal

pub returns-then-self-eq0 : goal.returns-then-self-eq0
returns-then-self-eq0 c =
    let s = c.self.inside in
    let all : s.drawn ≤ s.paid.lines = omega (arith, c.if-self.true) in
    rw (← c.self.view_is)
    (same_screen c.store.new.self
    (store c.args.mode s.memory c.args.address c.args.width c.args.value) _ _ c.store.ensures
    (lines_settled s.lines.items s.keys.items s.memory c.store.new.self s.paid.lines s.drawn all))
