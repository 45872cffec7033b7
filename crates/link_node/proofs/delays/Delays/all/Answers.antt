use Rattle.std.proofs.Common.{refl}
use Rattle.link_node.specs.Delays.{all_delays}
use Rattle.link_node.proofs.DelayLaws.{all_are_delays}
use Rattle.link_node.proofs.delays.Delays.all.Goals as goal

pub returns-clause-value : goal.returns-clause-value
unfolding all_delays
returns-clause-value c = refl

pub returns-clause-within : goal.returns-clause-within
unfolding all_delays
returns-clause-within c some short = all_are_delays c.args.cycles some short
