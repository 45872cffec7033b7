use Rattle.gba_command.proofs.Calls.{performs-none, performs-one}
use Rattle.gba_command.specs.Writing.{Create}
use Rattle.gba_run_files.proofs.creating.create_last.Goals as goal

pub returns-in-Some : goal.returns-in-Some
returns-in-Some g c bytes =
    rw c.in-Some.is (performs-one g.O.Sink.Tells (Create c.in-Some.name.now) _ _ _ c.create.ensures)

pub returns-in-None : goal.returns-in-None
returns-in-None g c bytes = rw c.in-None.is (performs-none g.O.Sink.Tells (g.O.Sink.state c.args.out.now))
