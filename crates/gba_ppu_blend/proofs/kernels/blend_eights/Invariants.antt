use Rattle.std.proofs.Common.{◌≡◌, ℕ, ◌*◌, ◌<◌, slice_index}
use Rattle.gba_ppu_blend.proofs.kernels.blend_eights.Given as goal

abbrev pub invariant-loop-k : goal.invariant-loop-k
invariant-loop-k g l = (x : ℕ) → x < 8 * l.k
    → slice_index l.out x ≡ g.E.LaneEffect.colour l.effect (slice_index l.top x) (slice_index l.below x)
