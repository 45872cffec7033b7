use Rattle.std.proofs.Common.{length}
use Rattle.gba_text.proofs.ReadLines.{IsReading}
use Rattle.gba_joblog.specs.KeyFile.{key_files}
use Rattle.gba_joblog.proofs.key_file.read_keys.Given as goal

abbrev pub invariant-loop-line : goal.invariant-loop-line
invariant-loop-line l = IsReading key_files l.bytes l.cursor.number l.changes.items l.cursor.lines

abbrev pub decreases-loop-line : goal.decreases-loop-line
decreases-loop-line l = length l.cursor.lines
