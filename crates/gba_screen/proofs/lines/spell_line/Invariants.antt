use Rattle.std.proofs.Common.{◌≡◌, ◌*◌, length, take}
use Rattle.gba_screen.specs.Lines.{colours_bytes}
use Rattle.gba_screen.proofs.lines.spell_line.Given as goal

-- the colours so far are spelled
abbrev pub invariant-loop-part : goal.invariant-loop-part
invariant-loop-part l = record {
  spelled : take (16 * l.part) l.bytes ≡ colours_bytes (take (8 * l.part) l.colours);
  whole : length l.bytes ≡ 480;
}
