use Rattle.std.proofs.Common.{◌≡◌, ◌*◌, length, take}
use Rattle.gba_screen.specs.Lines.{colours_bytes}
use Rattle.gba_filling.proofs.drawn.bytes_of_line.Given as goal

abbrev pub invariant-loop-place : goal.invariant-loop-place
invariant-loop-place l = record {
  spelled : take (2 * l.place) l.bytes ≡ colours_bytes (take l.place l.colours);
  whole : length l.bytes ≡ 480;
}
