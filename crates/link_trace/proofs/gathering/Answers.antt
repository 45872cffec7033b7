use Rattle.link_trace.proofs.Gatherings.{gathered}
use Rattle.link_trace.proofs.gathering.Goals as goal

pub returns : goal.returns
returns c = gathered
