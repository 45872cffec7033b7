use Rattle.std.proofs.Common.{◌≡◌, drop}
use Rattle.link_trials.specs.Mixing.{mix_of}
use Rattle.link_trials.proofs.mixer.mix_of.Given as goal

abbrev pub invariant-loop-one : goal.invariant-loop-one
invariant-loop-one l = mix_of l.now (drop l.one-index l.due) ≡ mix_of l.state l.due
