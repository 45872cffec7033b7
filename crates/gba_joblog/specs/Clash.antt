-- Names of output files that are also the name of the job or of an input.
use Rattle.std.specs.Prelude.{ℕ, ◌+◌, Bool, false, ◌&&◌, ◌||◌, nat_le, nat_eq, List, [], ◌∷◌, ◌++◌, length, take, drop, codes, decimal, Option, Some, None, option_and_then, if◌then◌else◌}
use Rattle.std.specs.Cmp.Lexicographic.{pointwise}
use Rattle.std.specs.List.{list_any}
use Rattle.std.specs.Str.{bytes_eq}
use Rattle.gba_joblog.specs.Job.{ConsoleJob, NamedFile, WholeJob}
use Rattle.gba_joblog.specs.Outputs.{all_kinds, is_named, out_name}
use Rattle.gba_joblog.specs.Statements.{asks_for}
use Rattle.gba_joblog.specs.declared.outputs.OutKind.{OutKind}

-- the name of a console's output under OUT, as `OUT.0.state`
abbrev pub output_file : List ℕ → ℕ → OutKind → List ℕ
output_file out player kind = out ++ (codes "." ++ (decimal player ++ (codes "." ++ out_name kind)))

-- whether a console writes a file of this name
abbrev pub writes_as : List ℕ → ℕ → ConsoleJob → List ℕ → OutKind → Bool
writes_as out player console name kind = asks_for console kind && bytes_eq name (output_file out player kind)

unfoldable pub console_writes : List ℕ → ℕ → ConsoleJob → List ℕ → Bool
console_writes out player console name = list_any (writes_as out player console name) all_kinds

-- whether one of these consoles, which stand after so many others, writes a file of this name
unfoldable pub writes : List ℕ → ℕ → List ConsoleJob → List ℕ → Bool
writes out player [] name = false
writes out player (console ∷ consoles) name =
    console_writes out player console name || writes out (player + 1) consoles name

-- the name of the log under OUT
abbrev pub log_file : List ℕ → List ℕ
log_file out = out ++ codes ".log"

-- whether a run of these consoles writes a file of this name
unfoldable pub is_output : List ℕ → List ConsoleJob → List ℕ → Bool
is_output out consoles name = bytes_eq name (log_file out) || writes out 0 consoles name

-- whether a command that does with these consoles what `run` does writes a file of this name, where it may write
-- one file more
abbrev pub is_written : Option (List ℕ) → List ℕ → List ConsoleJob → List ℕ → Bool
is_written None out consoles name = is_output out consoles name
is_written (Some more) out consoles name = bytes_eq name more || is_output out consoles name

-- the lesser of two lines, where both are there
abbrev pub least : Option ℕ → Option ℕ → Option ℕ
least None line = line
least (Some m) None = Some m
least (Some m) (Some n) = if nat_le m n then Some m else Some n

-- the line of an input, where its name is that of an output
abbrev pub line_of : (List ℕ → Bool) → NamedFile → Option ℕ
line_of is_written file = if is_written file.name then Some file.line else None

abbrev pub any_line_of : (List ℕ → Bool) → Option NamedFile → Option ℕ
any_line_of is_written None = None
any_line_of is_written (Some file) = line_of is_written file

unfoldable pub console_clash : (List ℕ → Bool) → ConsoleJob → Option ℕ
console_clash is_written console =
    least (line_of is_written console.bios)
    (least (any_line_of is_written console.cart)
    (least (any_line_of is_written console.save) (any_line_of is_written console.keys)))

unfoldable pub inputs_clash : (List ℕ → Bool) → List ConsoleJob → Option ℕ
inputs_clash is_written [] = None
inputs_clash is_written (console ∷ consoles) =
    least (console_clash is_written console) (inputs_clash is_written consoles)

abbrev pub clash_under : (List ℕ → Bool) → WholeJob → List ℕ → Option ℕ
clash_under is_written job name = if is_written name then Some 0 else inputs_clash is_written job.consoles

-- The clash of a job that is read from the file `name` and writes under `out`: 0 where an output, the log or the file
-- more would be that file, else the least line of an input that one would be.
unfoldable pub clash_with : WholeJob → List ℕ → List ℕ → Option (List ℕ) → Option ℕ
clash_with job name out more = clash_under (is_written more out job.consoles) job name

-- the same of `run`, which writes no file more
abbrev pub clash_of : WholeJob → List ℕ → List ℕ → Option ℕ
clash_of job name out = clash_with job name out None

-- What follows a text at the front of the bytes, where they begin with it. Only private functions cite this and what
-- follows here.
abbrev pub after_text : List ℕ → List ℕ → Option (List ℕ)
after_text text bytes =
    if pointwise nat_eq (take (length text) bytes) text then Some (drop (length text) bytes) else None

unfoldable pub tail_after : List ℕ → List ℕ → List ℕ → Option (List ℕ)
tail_after out player name =
    option_and_then (after_text (codes "."))
    (option_and_then (after_text player) (option_and_then (after_text (codes ".")) (after_text out name)))

abbrev pub asks_as : ConsoleJob → List ℕ → OutKind → Bool
asks_as console tail kind = asks_for console kind && is_named tail kind

abbrev pub ends_as : ConsoleJob → List ℕ → Bool
ends_as console tail = list_any (asks_as console tail) all_kinds
