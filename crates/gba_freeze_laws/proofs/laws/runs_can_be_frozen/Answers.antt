use Rattle.gba_freeze_laws.proofs.Reaching.{can-be-frozen}
use Rattle.gba_freeze_laws.proofs.laws.runs_can_be_frozen.Goals as goal

pub returns : goal.returns
returns c =
    can-be-frozen c.steps_hold.ensures c.steps_leave_the_rest.ensures c.start.ensures c.leave.ensures c.cable.ensures
    c.steps.ensures c.end.ensures.near
