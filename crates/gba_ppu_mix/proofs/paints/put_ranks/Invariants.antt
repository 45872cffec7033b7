use Rattle.std.proofs.Common.{◌≡◌, ℕ, ◌<◌, slice_index, slice_index_or}
use Rattle.gba_ppu_dot.specs.Dots.{clear_dot}
use Rattle.gba_ppu_mix.specs.Stacks.{sprite_rank}
use Rattle.gba_ppu_mix.proofs.paints.put_ranks.Given as goal

abbrev pub invariant-loop-x : goal.invariant-loop-x
invariant-loop-x l = (k : ℕ) → k < l.x → slice_index l.ranks k
    ≡ sprite_rank (slice_index_or l.dots k clear_dot).priority
