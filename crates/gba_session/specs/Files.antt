use Rattle.std.specs.Prelude.{ℕ, Bool, true, false, List, [], ◌∷◌, if◌then◌else◌}
use Rattle.gba_console.specs.Machine.{Machine}
use Rattle.gba_joblog.specs.Job.{ConsoleJob}
use Rattle.gba_joblog.specs.Outputs.{at_kind, per_kind}
use Rattle.gba_joblog.specs.Statements.{asks_for}
use Rattle.gba_joblog.specs.declared.outputs.OutKind.{OutKind}
use Rattle.gba_joblog.specs.declared.outputs.OutKind.TheVariants.{Frames, Samples, Words, State, Save}
use Rattle.gba_joblog.specs.declared.outputs.PerKind.{PerKind}
use Rattle.gba_output.specs.StateFile.{samples_file, save_file, state_file}
use Rattle.gba_output.specs.TransferWords.{words_text}

-- the bytes of a console's output of a kind
abbrev pub output_bytes : OutKind → Machine → List ℕ
output_bytes Frames m = m.board.made.frames
output_bytes Samples m = samples_file m
output_bytes Words m = words_text m.board.ended.words
output_bytes State m = state_file m
output_bytes Save m = save_file m

-- whether an output is made piece by piece while the console runs; of the others the whole is made at the end
abbrev pub grows : OutKind → Bool
grows Frames = true
grows Samples = true
grows Words = true
grows State = false
grows Save = false

-- what a console is asked for
abbrev pub asks_of : ConsoleJob → PerKind Bool
asks_of console = per_kind (asks_for console)

-- the bytes of the outputs that a console is asked for; of the others none
abbrev pub bytes_if : PerKind Bool → Machine → OutKind → List ℕ
bytes_if asks m kind = if at_kind asks kind then output_bytes kind m else []

abbrev pub files_of : PerKind Bool → Machine → PerKind (List ℕ)
files_of asks m = per_kind (bytes_if asks m)

-- those of each console
unfoldable pub all_files : List (PerKind Bool) → List Machine → List (PerKind (List ℕ))
all_files [] machines = []
all_files (asks ∷ rest) [] = []
all_files (asks ∷ rest) (m ∷ machines) = files_of asks m ∷ all_files rest machines
