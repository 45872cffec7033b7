use Rattle.gba_console.specs.Linked.{console_view}
use Rattle.gba_console.proofs.laws.multi.Goals as goal

pub returns : goal.returns
returns c = c.multi.ensures console_view c.has_unit.ensures
