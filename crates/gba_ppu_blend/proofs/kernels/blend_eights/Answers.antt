use Rattle.std.proofs.Common.{slice_index}
use Rattle.gba_ppu_blend.proofs.More.{eight_more}
use Rattle.gba_ppu_blend.proofs.kernels.blend_eights.Goals as goal

pub loop-k-preserved : goal.loop-k-preserved
loop-k-preserved g c =
    eight_more
    (λ x. g.E.LaneEffect.colour c.args.effect.now (slice_index c.args.top.now x) (slice_index c.args.below.now x))
    c.loop-k.out c.blend_eight.new.out c.loop-k.k c.loop-k.invariant c.blend_eight.ensures.before
    c.blend_eight.ensures.here
