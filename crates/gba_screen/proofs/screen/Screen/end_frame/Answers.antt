use Rattle.std.proofs.Common.{[], refl}
use Rattle.gba_screen.proofs.Shown.{no_lines, same_screen}
use Rattle.gba_screen.proofs.screen.Screen.end_frame.Goals as goal

pub returns : goal.returns
returns c =
    let s = c.self.inside in
    rw (← c.self.view_is)
    (same_screen s.memory s.memory _ [] refl
    (no_lines s.lines.items s.keys.items s.memory c.of_next_frame-self-inside.result.lines))
