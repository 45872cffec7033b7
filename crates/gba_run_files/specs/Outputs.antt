use Rattle.std.specs.Prelude.{ℕ, Bool, List, [], ◌∷◌, ◌++◌, Option, Some, None, if◌then◌else◌}
use Rattle.std.specs.List.{flat_map}
use Rattle.std.specs.Str.{bytes_eq}
use Rattle.sha2.specs.Sha256.{sha256}
use Rattle.gba_command.specs.Cause.{Cause, Digest}
use Rattle.gba_command.specs.Writing.{Output}
use Rattle.gba_joblog.specs.Job.{ConsoleJob}
use Rattle.gba_joblog.specs.Outputs.{all_kinds, at_kind, per_kind}
use Rattle.gba_joblog.specs.Statements.{asks_for, output_of}
use Rattle.gba_joblog.specs.declared.job.OutLine.{OutLine}
use Rattle.gba_joblog.specs.declared.outputs.OutKind.{OutKind}
use Rattle.gba_joblog.specs.declared.outputs.PerKind.{PerKind}

-- The outputs of a run: for each console, in the order of their numbers, those that it is asked for, in the order of
-- the kinds. A console's names and files are given for each kind.

-- one output that may be asked for: the file of its name with its bytes
abbrev pub output_if : Bool → List ℕ → List ℕ → List Output
output_if asked name bytes = if asked then record { name = name; bytes = bytes } ∷ [] else []

abbrev pub kind_output : PerKind (List ℕ) → ConsoleJob → PerKind (List ℕ) → OutKind → List Output
kind_output names console files kind = output_if (asks_for console kind) (at_kind names kind) (at_kind files kind)

unfoldable pub console_outputs : PerKind (List ℕ) → ConsoleJob → PerKind (List ℕ) → List Output
console_outputs names console files = flat_map (kind_output names console files) all_kinds

-- those of each console; there are as many of the one as of the other
unfoldable pub outputs_of : List (PerKind (List ℕ)) → List ConsoleJob → List (PerKind (List ℕ)) → List Output
outputs_of [] consoles files = []
outputs_of (name ∷ names) [] files = []
outputs_of (name ∷ names) (console ∷ consoles) [] = []
outputs_of (name ∷ names) (console ∷ consoles) (one ∷ files) =
    console_outputs name console one ++ outputs_of names consoles files

-- the file that a run writes behind all outputs, where it writes one
abbrev pub last_output : Option (List ℕ) → List ℕ → List Output
last_output None bytes = []
last_output (Some name) bytes = record { name = name; bytes = bytes } ∷ []

-- the line of an output with the digest of its bytes stated, where it is asked for
abbrev pub stated_out : Option OutLine → List ℕ → Option OutLine
stated_out None bytes = None
stated_out (Some asked) bytes = Some (record { digest = Some (sha256 bytes) })

abbrev pub kind_stated : ConsoleJob → PerKind (List ℕ) → OutKind → Option OutLine
kind_stated console files kind = stated_out (output_of console kind) (at_kind files kind)

unfoldable pub outs_of : ConsoleJob → PerKind (List ℕ) → PerKind (Option OutLine)
outs_of console files = per_kind (kind_stated console files)

unfoldable pub all_outs : List ConsoleJob → List (PerKind (List ℕ)) → List (PerKind (Option OutLine))
all_outs [] files = []
all_outs (console ∷ consoles) [] = []
all_outs (console ∷ consoles) (one ∷ files) = outs_of console one ∷ all_outs consoles files

-- An output whose stated digest isn't that of its bytes.
abbrev pub digest_differs : List ℕ → Option (List ℕ) → List ℕ → Option Cause
digest_differs name None got = None
digest_differs name (Some stated) got = if bytes_eq stated got then None else Some (Digest name stated got)

abbrev pub output_differs : List ℕ → Option OutLine → List ℕ → Option Cause
output_differs name None bytes = None
output_differs name (Some asked) bytes = digest_differs name asked.digest (sha256 bytes)

abbrev pub kind_differs : PerKind (List ℕ) → ConsoleJob → PerKind (List ℕ) → OutKind → Option Cause
kind_differs names console files kind =
    output_differs (at_kind names kind) (output_of console kind) (at_kind files kind)

-- the first of two differences, and of those of a list
abbrev pub or_later : Option Cause → Option Cause → Option Cause
or_later (Some cause) later = Some cause
or_later None later = later

abbrev pub first_differs : (OutKind → Option Cause) → List OutKind → Option Cause
first_differs differs [] = None
first_differs differs (kind ∷ kinds) = or_later (differs kind) (first_differs differs kinds)

unfoldable pub console_difference : PerKind (List ℕ) → ConsoleJob → PerKind (List ℕ) → Option Cause
console_difference names console files = first_differs (kind_differs names console files) all_kinds

-- the first output, in that order, whose stated digest isn't that of its bytes
unfoldable pub difference_of : List (PerKind (List ℕ)) → List ConsoleJob → List (PerKind (List ℕ)) → Option Cause
difference_of [] consoles files = None
difference_of (name ∷ names) [] files = None
difference_of (name ∷ names) (console ∷ consoles) [] = None
difference_of (name ∷ names) (console ∷ consoles) (one ∷ files) =
    or_later (console_difference name console one) (difference_of names consoles files)
