use Rattle.std.proofs.Common.{length}
use Rattle.gba_text.proofs.ReadLines.{IsReading}
use Rattle.gba_joblog.specs.Language.{jobs}
use Rattle.gba_joblog.specs.Views.{draft_value}
use Rattle.gba_joblog.proofs.parse.read_job.Given as goal

abbrev pub invariant-loop-line : goal.invariant-loop-line
invariant-loop-line l = IsReading jobs l.bytes l.cursor.number (draft_value l.draft) l.cursor.lines

abbrev pub decreases-loop-line : goal.decreases-loop-line
decreases-loop-line l = length l.cursor.lines
