use Rattle.std.proofs.Common.{◌≡◌, ℕ, ◌<◌, ◌≤◌, slice_index, slice_index_or}
use Rattle.gba_ppu_dot.specs.Dots.{clear_dot}
use Rattle.gba_ppu_mix.specs.Painting.{run_shows}
use Rattle.gba_ppu_mix.proofs.paints.put_run.Given as goal

abbrev pub invariant-loop-x : goal.invariant-loop-x
invariant-loop-x l = record {
  before : (k : ℕ) → k < l.start → slice_index l.shows k ≡ slice_index l.fn.shows k;
  here : (k : ℕ) → l.start ≤ k → k < l.x → slice_index l.shows k
      ≡ run_shows l.run (slice_index_or l.dots k clear_dot).window;
}
