-- How the program's answers agree with the definitions.
use Rattle.std.specs.Prelude.{Option, Some, None}
use Rattle.gba_joblog.specs.Kinds.{JobError}
use Rattle.gba_joblog.specs.declared.kinds.ParseRefused.{ParseRefused}
use Rattle.gba_joblog.specs.declared.kinds.ParseRefused.TheVariants as refusal

-- the line that is refused, if it isn't memory that is wanting
abbrev pub line_error : ParseRefused → Option JobError
line_error (refusal.Job e) = Some e
line_error refusal.NoMemory = None
