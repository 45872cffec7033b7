use Rattle.std.proofs.Common.{arith, refl, ◌*◌}
use Rattle.gba_loose_devices.specs.Values.{half_at}
use Rattle.gba_loose_devices.proofs.Filling.{filled-all, filled-more, filled-none}
use Rattle.gba_snapshot.proofs.drawn.colours.Goals as goal

pub loop-place-init : goal.loop-place-init
loop-place-init c = filled-none (λ place. half_at (2 * place) c.args.bytes.now) 240 _ refl

pub loop-place-preserved : goal.loop-place-preserved
loop-place-preserved c =
    filled-more (λ place. half_at (2 * place) c.args.bytes.now) 240 c.loop-place.place _ c.loop-place.colours
    (omega arith) c.colour.ensures c.loop-place.invariant

pub returns : goal.returns
returns c =
    filled-all (λ place. half_at (2 * place) c.args.bytes.now) 240 c.loop-place.place c.loop-place.colours (omega arith)
    c.loop-place.invariant
