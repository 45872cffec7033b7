use Rattle.std.proofs.Common.{◌++◌, List, ℕ, ap, ◌∙◌}
use Rattle.gba_frozen_print.specs.Printed.{drawn_text, ended}
use Rattle.gba_snapshot.specs.Console.{colours_of}
use Rattle.gba_snapshot.proofs.drawn.add_line.Goals as goal

pub returns-clause-items : goal.returns-clause-items
returns-clause-items c =
    c.add_drawn.ensures.items
    ∙ ap (λ (colours : List ℕ). c.args.into.now.items ++ ended (drawn_text c.args.line colours)) c.colours.ensures
    ∙ ap (λ (bytes : List ℕ). c.args.into.now.items ++ ended (drawn_text c.args.line (colours_of bytes))) c.line.ensures
