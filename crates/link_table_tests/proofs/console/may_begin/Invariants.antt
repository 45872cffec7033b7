use Rattle.link_table_tests.specs.Following.{IsBefore}
use Rattle.link_table_tests.proofs.console.may_begin.Given as goal

abbrev pub invariant-loop-peer : goal.invariant-loop-peer
invariant-loop-peer l = IsBefore l.clock l.seat l.heard l.peer
