use Rattle.gba_command.proofs.Calls.{performs-none, performs-one}
use Rattle.gba_command.specs.Writing.{Create}
use Rattle.std.specs.Prelude.{string_bytes}
use Rattle.gba_run_files.proofs.creating.create_if.Goals as goal

pub returns-then-asked : goal.returns-then-asked
returns-then-asked g c = λ bytes.
    rw c.if-asked.true (performs-one g.O.Sink.Tells (Create (string_bytes c.args.name.now)) _ _ _
    (rw c.as_str.ensures.value at c.create.ensures))

pub returns-else-asked : goal.returns-else-asked
returns-else-asked g c = λ bytes. rw c.if-asked.false (performs-none g.O.Sink.Tells _)
