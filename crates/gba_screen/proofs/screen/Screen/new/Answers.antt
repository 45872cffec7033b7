use Rattle.gba_screen.proofs.Shown.{no_lines, same_screen}
use Rattle.std.proofs.Common.{refl, []}
use Rattle.gba_screen.proofs.screen.Screen.new.Goals as goal

pub returns : goal.returns
returns c =
    same_screen c.args.memory c.args.memory _ [] refl
    (no_lines c.in_ok-lines.lines.items c.in_ok-keys.keys.items c.args.memory 0)
