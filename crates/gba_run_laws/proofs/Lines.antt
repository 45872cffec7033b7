-- The lines that are drawn.
use Rattle.std.proofs.Common.{ℕ, zero, suc, ◌^◌, ◌<◌, Bool, true, false, List, [], ◌∷◌, sym, subst, arith, if◌then◌else◌}
use Rattle.std.specs.Int.{byte_at}
use Rattle.std.specs.List.{flat_map}
use Rattle.std.specs.Prelude.{All}
use Rattle.std.proofs.lemmas.List.Concat.{flat_map-cons}
use Rattle.std.proofs.lemmas.List.Elements.{All-append}
use Rattle.gba_terms.specs.Bytes.{AreBytes}
use Rattle.gba_device_laws.proofs.Lines.{bytes-append}
use Rattle.gba_device_laws.specs.Holding.{HasBytes}
use Rattle.gba_devices.specs.Cycles.{draws_line}
use Rattle.gba_io.specs.Board.{board_after, board_cycle, lines_with}
use Rattle.gba_io.specs.Core.{Core}
use Rattle.gba_io.specs.Drawing.{drawn_line, ends_frame}
use Rattle.gba_io.specs.declared.board.Board.{Board}
use Rattle.gba_screen.proofs.Drawing.{line_length}
use Rattle.gba_screen.specs.Lines.{colour_bytes, colours_bytes, line_bytes, line_colours}

byte-small : (place n : ℕ) → byte_at place n < 2 ^ 8
byte-small zero n = omega arith
byte-small (suc place) n = omega arith

colour-are : (colour : ℕ) → AreBytes (colour_bytes colour)
colour-are colour zero within = byte-small 0 colour
colour-are colour (suc zero) within = byte-small 1 colour
colour-are colour (suc (suc at)) within = absurd (omega (arith, within))

colours-are : (colours : List ℕ) → AreBytes (colours_bytes colours)
colours-are [] = λ at within. absurd (omega (arith, within))
colours-are (colour ∷ colours) =
    subst AreBytes (sym (flat_map-cons colour_bytes colour colours))
    (bytes-append (colour_bytes colour) (flat_map colour_bytes colours) (colour-are colour) (colours-are colours))

drawn-has : (c : Core) → HasBytes 480 (drawn_line c)
unfolding line_bytes
drawn-has c = record {
  long = line_length c.devices.picture c.memory c.devices.place.line;
  bytes = colours-are (line_colours c.devices.picture c.memory c.devices.place.line);
}

none-drawn : All (HasBytes 480) []
none-drawn i d within = absurd (omega (arith, within))

one-drawn : (line : List ℕ) → HasBytes 480 line → All (HasBytes 480) (line ∷ [])
one-drawn line has zero d within = has
one-drawn line has (suc i) d within = absurd (omega (arith, within))

cycle-lines : (draws ends : Bool) (c : Core) → All (HasBytes 480) c.lines
    → All (HasBytes 480) (if draws then (if ends then [] else lines_with c) else c.lines)
cycle-lines true true c all = none-drawn
cycle-lines true false c all =
    All-append (HasBytes 480) c.lines (drawn_line c ∷ []) all (one-drawn (drawn_line c) (drawn-has c))
cycle-lines false ends c all = all

-- each has its bytes, so many cycles later too
pub lines-after : (cycles : ℕ) (b : Board) → All (HasBytes 480) b.core.lines
    → All (HasBytes 480) (board_after cycles b).core.lines
unfolding board_after board_cycle
lines-after zero b all = all
lines-after (suc cycles) b all =
    let c = (board_after cycles b).core in
    cycle-lines (draws_line c.devices) (ends_frame c.devices.place) c (lines-after cycles b all)
