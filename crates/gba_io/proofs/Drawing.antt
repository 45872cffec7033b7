use Rattle.std.proofs.Common.{◌≡◌, ℕ, ◌+◌, ◌*◌, arith, if◌then◌else◌}
use Rattle.std.specs.Prelude.{◌&&◌}
use Rattle.std.proofs.lemmas.Bool.Decides.{nat_tests}
use Rattle.gba_devices.specs.Cycles.{draws_at}
use Rattle.gba_ppu_reg.specs.Position.{IsPosition, cycle as place_cycle}
use Rattle.gba_ppu_reg.specs.declared.position.Position.{Position}
use Rattle.gba_io.specs.Base.{early_at}
use Rattle.gba_io.specs.Drawing.{cycles_early, cycles_in, ends_frame, lines_drawn}

-- When lines of the picture are drawn.

-- A cycle of the place keeps it in step.
pub place-sound : (p : Position) → IsPosition p → IsPosition (place_cycle p)
place-sound p sound = record { line = grind (arith, nat_tests, sound.line); dot = grind (arith, nat_tests, sound.dot) }

pub frames-go : (clock count before begun : ℕ) (p : Position) → IsPosition p
    → clock + cycles_early p + before ≡ 280896 * count + cycles_in p + begun
    → clock + 1 + cycles_early (place_cycle p) + before
    ≡ 280896 * (if draws_at (place_cycle p) && ends_frame p then count + 1 else count)
    + cycles_in (place_cycle p) + begun
frames-go clock count before begun p sound same = grind (arith, nat_tests, sound.line, sound.dot)

-- what is early of a frame goes by its cycles alone
pub early-is : (p : Position) → IsPosition p → cycles_early p ≡ early_at (cycles_in p)
early-is p sound = grind (arith, nat_tests, sound.line, sound.dot)

pub lines-go : (p : Position) → IsPosition p
    → (if draws_at (place_cycle p) then (if ends_frame p then 0 else lines_drawn p + 1) else lines_drawn p)
    ≡ lines_drawn (place_cycle p)
lines-go p sound = grind (arith, nat_tests, sound.line, sound.dot)
