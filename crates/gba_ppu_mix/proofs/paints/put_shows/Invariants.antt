use Rattle.std.proofs.Common.{◌≡◌, ℕ, ◌-◌, ◌<◌, ◌≤◌, slice_index, slice_index_or}
use Rattle.gba_ppu_dot.specs.Dots.{clear_dot}
use Rattle.gba_ppu_mix.specs.Windows.{shows_at}
use Rattle.gba_ppu_mix.proofs.paints.put_shows.Given as goal

abbrev pub invariant-loop-start : goal.invariant-loop-start
invariant-loop-start l = record {
  most : l.start ≤ 240;
  here : (k : ℕ) → k < l.start → slice_index l.shows k ≡ shows_at l.w k (slice_index_or l.dots k clear_dot).window;
}

abbrev pub decreases-loop-start : goal.decreases-loop-start
decreases-loop-start l = 240 - l.start
