use Rattle.std.proofs.Common.{◌≡◌, ◌≢◌, ℕ, ◌*◌, ◌%◌, ◌<◌, slice_index}
use Rattle.gba_ppu_dot.proofs.paint.clear_firsts.Given as goal

abbrev pub invariant-loop-number : goal.invariant-loop-number
invariant-loop-number l = record {
  firsts : (k : ℕ) → k < l.number → slice_index l.paints (16 * k) ≡ 0x8000;
  others : (k : ℕ) → k % 16 ≢ 0 → slice_index l.paints k ≡ slice_index l.fn.paints k;
}
