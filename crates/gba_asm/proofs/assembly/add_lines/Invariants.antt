use Rattle.std.proofs.Common.{length}
use Rattle.gba_asm.proofs.Passes.{AreGiven}
use Rattle.gba_asm.proofs.assembly.add_lines.Given as goal

abbrev pub invariant-loop-line : goal.invariant-loop-line
invariant-loop-line l = AreGiven l.source l.image.items l.cursor.number l.place l.cursor.lines

abbrev pub decreases-loop-line : goal.decreases-loop-line
decreases-loop-line l = length l.cursor.lines
