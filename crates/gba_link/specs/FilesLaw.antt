-- The files of the runs of commands.
use Rattle.std.specs.Prelude.{◌≡◌, ℕ, List, ◌++◌, Ok}
use Rattle.std.specs.List.{All}
use Rattle.gba_command.specs.LeftFiles.{HasOwnFiles, NamesDiffer}
use Rattle.gba_command.specs.Plan.{outcome}
use Rattle.gba_command.specs.Words.{Command, RunJob, Assemble, ListArm, ListThumb, Generate, Trace, Freeze, Resume, IsCommand}
use Rattle.gba_command.specs.Writing.{Output, Run}
use Rattle.gba_link.specs.CommandPlan.{plan_of_command}
use Rattle.gba_store.specs.Files.{Files}

-- a file whose name begins with OUT
pub record IsUnder (out : List ℕ) (file : Output) : Type 0 where
  pub rest : List ℕ
  pub named : file.name ≡ out ++ rest

-- the OUT of a command
abbrev pub out_of : Command → List ℕ
out_of (RunJob words) = words.out
out_of (Assemble words) = words.to
out_of (ListArm words) = words.to
out_of (ListThumb words) = words.to
out_of (Generate words) = words.out
out_of (Trace words) = words.run.out
out_of (Freeze words) = words.run.out
out_of (Resume words) = words.run.out

-- The files of a run under OUT: their names differ and begin with OUT, none is standard output, each piece is one of a
-- file, and the pieces of a file, one after another, are its bytes.
pub record HasFilesUnder (out : List ℕ) (run : Run) : Type 0 where
  pub differ : NamesDiffer run.outputs
  pub own : HasOwnFiles run
  pub under : All (IsUnder out) run.outputs

-- What a command comes to has such files, whatever it reads.
abbrev pub CommandsHaveFiles : Type 0
CommandsHaveFiles =
    (files : Files) (command : Command) (run : Run) → IsCommand command
    → outcome files (plan_of_command command) ≡ Ok run → HasFilesUnder (out_of command) run
