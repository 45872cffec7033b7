use Rattle.gba_console.proofs.Rows.{alone-unlimited}
use Rattle.gba_console.proofs.node.ConsoleNode.go_alone.Goals as goal

pub returns-clause-alone : goal.returns-clause-alone
returns-clause-alone c = alone-unlimited c.go_alone.ensures.alone
