use Rattle.link_trace.proofs.Inboxes.{drops_dead, filters_waiting, waits_in_parts}
use Rattle.link_trace.proofs.inbox.Goals as goal

pub returns-clause-dead : goal.returns-clause-dead
returns-clause-dead c = drops_dead

pub returns-clause-due : goal.returns-clause-due
returns-clause-due c = filters_waiting

pub returns-clause-parts : goal.returns-clause-parts
returns-clause-parts c = waits_in_parts
