use Rattle.link_table_tests.proofs.Openings.{opened}
use Rattle.link_table_tests.proofs.console.Console.new.Goals as goal

pub invariant_of-result : goal.invariant_of-result
invariant_of-result c = opened c.args.node c.args.seat c.requires
