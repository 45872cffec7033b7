use Rattle.std.proofs.Common.{sym}
use Rattle.gba_screen.proofs.Shown.{lines_count}
use Rattle.gba_screen.proofs.screen.Screen.lines_drawn.Goals as goal

pub returns-clause-value : goal.returns-clause-value
returns-clause-value c =
    let s = c.self.inside in
    rw (← c.self.view_is) (sym (lines_count s.lines.items s.keys.items s.memory s.paid.lines s.drawn))
