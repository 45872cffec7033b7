use Rattle.std.proofs.Common.{◌≡◌, ℕ, ◌+◌, ◌-◌, ◌<◌, ◌≤◌, slice_index_or}
use Rattle.gba_ppu_dot.specs.declared.dot.Dot.{Dot}
use Rattle.gba_ppu_obj.specs.Order.{over}
use Rattle.gba_ppu_obj.specs.Sprites.{straight_number}
use Rattle.gba_ppu_obj.specs.Tiles.{numbered_dot}
use Rattle.gba_ppu_obj.proofs.draw.draw_straight.Given as goal

abbrev pub invariant-loop-x : goal.invariant-loop-x
invariant-loop-x l = record {
  before : (k : ℕ) (d : Dot) → k < l.fn.span.start → slice_index_or l.dots k d ≡ slice_index_or l.fn.dots k d;
  drawn : (k : ℕ) (d : Dot) → l.fn.span.start ≤ k → k < l.x
      → slice_index_or l.dots k d
      ≡ over (slice_index_or l.fn.dots k d)
      (numbered_dot l.s (straight_number l.vram l.s l.fn.a l.q (l.fn.span.first + (k - l.fn.span.start))));
  rest : (k : ℕ) (d : Dot) → l.x ≤ k → slice_index_or l.dots k d ≡ slice_index_or l.fn.dots k d;
}
