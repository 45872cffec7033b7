use Rattle.std.proofs.Common.{◌≡◌, ℕ, ◌+◌, ◌*◌, ◌%◌, ◌^◌, ◌<◌, slice_index_or}
use Rattle.gba_ppu_dot.specs.declared.dot.Dot.{Dot}
use Rattle.gba_ppu_affine.specs.Places.{place_of}
use Rattle.gba_ppu_affine.proofs.walk.Walk.draw.Given as goal

abbrev pub invariant-loop-dot : goal.invariant-loop-dot
invariant-loop-dot g l = record {
  across : l.across ≡ (l.fn.self.across + l.fn.self.step_across * l.dot-index) % 2 ^ 32;
  down : l.down ≡ (l.fn.self.down + l.fn.self.step_down * l.dot-index) % 2 ^ 32;
  drawn : (x : ℕ) (d : Dot) → x < l.dot-index
      → slice_index_or l.dots x d
      ≡ g.S.Surface.dot_of l.surface l.vram (place_of l.fn.self.across l.fn.self.step_across x)
      (place_of l.fn.self.down l.fn.self.step_down x);
}
