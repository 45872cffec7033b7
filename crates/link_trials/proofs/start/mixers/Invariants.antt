use Rattle.std.proofs.Common.{◌≡◌}
use Rattle.std.specs.Prelude.{All}
use Rattle.std.specs.Vec.{vec_len}
use Rattle.link_trials.specs.declared.mixer.Mixer.{Mixer}
use Rattle.link_trials.proofs.start.mixers.Given as goal

abbrev pub invariant-loop : goal.invariant-loop
invariant-loop l = record {
  len : vec_len l.nodes ≡ l.counter;
  fresh : All (λ (m : Mixer). (m.clock ≡ 0) × (m.was ≡ 0) × (m.limit ≡ l.limit)) l.nodes.items;
}
