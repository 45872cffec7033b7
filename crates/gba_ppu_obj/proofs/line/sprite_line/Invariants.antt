use Rattle.std.proofs.Common.{◌≡◌, ℕ, ◌<◌, slice_index_or}
use Rattle.gba_ppu_dot.specs.declared.dot.Dot.{Dot}
use Rattle.gba_ppu_obj.specs.Order.{first_over}
use Rattle.gba_ppu_obj.specs.Sprites.{sprite_dot}
use Rattle.gba_ppu_obj.proofs.line.sprite_line.Given as goal

abbrev pub invariant-loop-number : goal.invariant-loop-number
invariant-loop-number l = (x : ℕ) (d : Dot) → x < 240
    → slice_index_or l.dots x d ≡ first_over (sprite_dot l.r l.vram l.oam l.line x) l.number
