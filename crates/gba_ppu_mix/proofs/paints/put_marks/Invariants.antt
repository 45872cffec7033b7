use Rattle.std.proofs.Common.{◌≡◌, ℕ, ◌<◌, slice_index, slice_index_or}
use Rattle.gba_ppu_dot.specs.Dots.{clear_dot}
use Rattle.gba_ppu_mix.specs.Blending.{is_semi}
use Rattle.gba_ppu_mix.specs.Painting.{marks_of}
use Rattle.gba_ppu_mix.specs.declared.stacks.Layer.TheVariants.{Sprites}
use Rattle.gba_ppu_mix.proofs.paints.put_marks.Given as goal

abbrev pub invariant-loop-x : goal.invariant-loop-x
invariant-loop-x l = (k : ℕ) → k < l.x
    → slice_index l.marks k ≡ marks_of l.b Sprites (is_semi (slice_index_or l.dots k clear_dot).kind)
