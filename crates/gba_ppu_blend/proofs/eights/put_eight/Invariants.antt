use Rattle.std.proofs.Common.{◌≡◌, ℕ, ◌+◌, ◌<◌, ◌≤◌, slice_index}
use Rattle.gba_ppu_blend.proofs.eights.put_eight.Given as goal

abbrev pub invariant-loop-k : goal.invariant-loop-k
invariant-loop-k l = record {
  before : (x : ℕ) → x < l.at → slice_index l.out x ≡ slice_index l.fn.out x;
  after : (x : ℕ) → l.at + 8 ≤ x → slice_index l.out x ≡ slice_index l.fn.out x;
  here : (i : ℕ) → i < l.k → slice_index l.out (l.at + i) ≡ slice_index l.colours i;
}
