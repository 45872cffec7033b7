use Rattle.std.specs.Prelude.{ℕ, Bool, ◌+◌, ◌*◌, ◌==◌, ◌||◌, ◌&&◌, List, nat_le, if◌then◌else◌}
use Rattle.gba_ppu_reg.specs.declared.position.Position.{Position}
use Rattle.gba_screen.specs.Lines.{line_bytes}
use Rattle.gba_io.specs.Core.{Core}

-- The lines of the picture. One is drawn where HBlank begins in it, with the memories and the registers as they are
-- then. The lines 0 to 159 are a frame, which is whole when line 159 is drawn (this project's profile).
abbrev pub drawn_line : Core → List ℕ
drawn_line b = line_bytes b.devices.picture b.memory b.devices.place.line

-- whether this is the last line of a frame
abbrev pub ends_frame : Position → Bool
ends_frame p = p.line == 159

-- How much of the frame is drawn at a place: at its lines up to 159 those whose HBlank has begun, and none of the next
-- frame once the frame is whole.
abbrev pub is_whole : Position → Bool
is_whole p = nat_le 160 p.line || (p.line == 159 && nat_le 1006 p.dot)

abbrev pub lines_drawn : Position → ℕ
lines_drawn p = if is_whole p then 0 else if nat_le 1006 p.dot then p.line + 1 else p.line

-- how many cycles of the frame have passed at a place, and of the frames that are whole those which are still to come
abbrev pub cycles_in : Position → ℕ
cycles_in p = 1232 * p.line + p.dot

abbrev pub cycles_early : Position → ℕ
cycles_early p = if is_whole p then 280896 else 0
