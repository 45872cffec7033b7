use Rattle.std.proofs.Common.{◌≡◌}
use Rattle.gba_psg.specs.Noise.{next_noise}
use Rattle.gba_psg.specs.Running.{repeated}
use Rattle.gba_psg.proofs.noise.noise_moved.Given as goal

abbrev pub invariant-loop : goal.invariant-loop
invariant-loop l = l.place ≡ repeated (next_noise l.narrow) l.counter l.fn.place
