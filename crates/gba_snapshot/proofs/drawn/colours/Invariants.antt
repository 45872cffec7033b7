use Rattle.std.proofs.Common.{◌*◌}
use Rattle.gba_loose_devices.specs.Values.{half_at}
use Rattle.gba_loose_devices.proofs.Filling.{IsFilled}
use Rattle.gba_snapshot.proofs.drawn.colours.Given as goal

abbrev pub invariant-loop-place : goal.invariant-loop-place
invariant-loop-place l = IsFilled (λ place. half_at (2 * place) l.bytes) 240 l.place l.colours
