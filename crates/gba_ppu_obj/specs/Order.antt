use Rattle.std.specs.Prelude.{ℕ, zero, suc, Bool, not, ◌&&◌, ◌||◌, nat_lt, if◌then◌else◌}
use Rattle.gba_ppu_dot.specs.Dots.{clear_dot}
use Rattle.gba_ppu_dot.specs.declared.dot.Dot.{Dot}

-- A dot over those of the sprites before it: it is seen where it is opaque and no opaque one before it has its priority
-- or a lower one. So the seen one is the opaque one with the least priority, and among these the one with the least
-- number.
abbrev pub wins : Dot → Dot → Bool
wins best new = new.opaque && (not best.opaque || nat_lt new.priority best.priority)

unfoldable pub over : Dot → Dot → Dot
over best new =
    if wins best new
    then record new { window = best.window || new.window }
    else record best { window = best.window || new.window }

-- the first so many dots over one another
unfoldable pub first_over : (ℕ → Dot) → ℕ → Dot
first_over dot_of zero = clear_dot
first_over dot_of (suc count) = over (first_over dot_of count) (dot_of count)
