use Rattle.std.proofs.Common.{◌≡◌, ℕ, ◌-◌, ◌<◌, ◌≤◌, false, slice_index}
use Rattle.gba_ppu_mix.specs.Painting.{backdrop_colour}
use Rattle.gba_ppu_mix.specs.Windows.{shows_at}
use Rattle.gba_ppu_mix.proofs.line.fill.Given as goal

abbrev pub invariant-loop-start : goal.invariant-loop-start
invariant-loop-start l = record {
  most : l.start ≤ 240;
  filled : (k : ℕ) → k < l.start → slice_index l.colours k ≡ backdrop_colour l.palette l.b (shows_at l.w k false);
}

abbrev pub decreases-loop-start : goal.decreases-loop-start
decreases-loop-start l = 240 - l.start
