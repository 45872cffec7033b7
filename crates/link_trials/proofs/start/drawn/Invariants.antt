use Rattle.link_node.specs.Delays.{AreDelays}
use Rattle.link_trials.proofs.start.drawn.Given as goal

abbrev pub invariant-loop-pair : goal.invariant-loop-pair
invariant-loop-pair l = AreDelays l.delays
