use Rattle.link_table_tests.proofs.tests.row_consoles.Goals as goal

pub make_consoles-requires-clause-limits : goal.make_consoles-requires-clause-limits
make_consoles-requires-clause-limits g c = record { limit = 6000; all = c.loop-player.invariant.limits }
