use Rattle.std.proofs.Common.{Option, Err, subst}
use Rattle.gba_command.specs.Cause.{NoCommand, Refused}
use Rattle.gba_command.specs.Reading.{GoesTo}
use Rattle.gba_command.specs.Words.{Command}
use Rattle.gba_command.specs.Writing.{Run}
use Rattle.gba_command.proofs.Plans.{goes-refused}
use Rattle.gba_link.specs.CommandPlan.{command_plan}
use Rattle.gba_link.proofs.commands.do_words.Goals as goal

pub returns-in-None : goal.returns-in-None
returns-in-None g c =
    let gives = g.S.Store.gives in
    let at = c.args.store.now in
    subst (λ (o : Option Command). GoesTo gives (command_plan o) at at (Err (Refused NoCommand)))
    c.in-None.ensures.command (goes-refused Run gives NoCommand at)
