use Rattle.std.proofs.Common.{◌≡◌, ℕ, ◌<◌, ◌≤◌, slice_index}
use Rattle.gba_ppu_blend.proofs.kernels.blend_rest.Given as goal

abbrev pub invariant-loop-x : goal.invariant-loop-x
invariant-loop-x g l = record {
  before : (k : ℕ) → k < l.from → slice_index l.out k ≡ slice_index l.fn.out k;
  rest : (k : ℕ) → l.from ≤ k → k < l.x
      → slice_index l.out k ≡ g.E.LaneEffect.colour l.effect (slice_index l.top k) (slice_index l.below k);
}
