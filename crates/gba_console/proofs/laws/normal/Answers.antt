use Rattle.gba_console.specs.Linked.{console_view}
use Rattle.gba_console.proofs.laws.normal.Goals as goal

pub returns : goal.returns
returns c = c.normal.ensures console_view c.has_unit.ensures
