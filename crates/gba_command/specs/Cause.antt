use Rattle.std.specs.Prelude.{ℕ, List, ◌++◌, codes, decimal}
use Rattle.hex.specs.Hex.{encode_lower}
use Rattle.gba_asm_words.specs.Kinds.{AsmError, kind_name as asm_kind_name}
use Rattle.gba_frozen.specs.Told.{kind_text}
use Rattle.gba_frozen.specs.declared.kinds.ThawKind.{ThawKind}
use Rattle.gba_image.specs.Names.{error_name}
use Rattle.gba_image.specs.declared.error.ImageError.{ImageError}
use Rattle.gba_joblog.specs.Kinds.{JobError, kind_name}
use Rattle.gba_text.specs.declared.kinds.LineError.{LineError}

-- why a command is refused, as its words and the files say
pub data Cause : Type 0 where
  -- the words are no command
  NoCommand : Cause
  -- the job of this name isn't of the language, or clashes with an output: the first refused line, and its kind
  Job : List ℕ → JobError → Cause
  -- the image of this name is refused, and why
  Image : List ℕ → ImageError → Cause
  -- the digest that the job states of the file of this name, and that of the file, which is another
  Digest : List ℕ → List ℕ → List ℕ → Cause
  -- the source of this name isn't of the assembly language: the first refused line, and its kind
  Source : List ℕ → AsmError → Cause
  -- the first refused line of the frozen file of this name, and its kind
  Frozen : List ℕ → LineError ThawKind → Cause

abbrev pub status_of : Cause → ℕ
status_of NoCommand = 2
status_of (Job name error) = 5
status_of (Image name error) = 6
status_of (Digest name stated got) = 7
status_of (Source name error) = 8
status_of (Frozen name error) = 12

-- the line that is reported on standard output
abbrev pub report_of : Cause → List ℕ
report_of NoCommand = codes "words\n"
report_of (Image name error) = codes "image " ++ name ++ codes " " ++ error_name error ++ codes "\n"
report_of (Job name error) =
    codes "job " ++ name ++ codes " line " ++ decimal error.line ++ codes " " ++ kind_name error.kind ++ codes "\n"
report_of (Digest name stated got) =
    codes "digest " ++ name ++ codes " stated " ++ encode_lower stated ++ codes " got " ++ encode_lower got
    ++ codes "\n"
report_of (Source name error) =
    codes "source " ++ name ++ codes " line " ++ decimal error.line ++ codes " " ++ asm_kind_name error.kind
    ++ codes "\n"
report_of (Frozen name error) =
    codes "frozen " ++ name ++ codes " line " ++ decimal error.line ++ codes " " ++ kind_text error.kind ++ codes "\n"

-- why a command stops before anything is written: refused for a cause, the named file isn't there, the store failed in
-- the read of the named file, or memory was wanting
pub data Stop : Type 0 where
  Refused : Cause → Stop
  Absent : List ℕ → Stop
  StoreFails : List ℕ → Stop
  LacksMemory : Stop

abbrev pub stop_status : Stop → ℕ
stop_status (Refused cause) = status_of cause
stop_status (Absent name) = 3
stop_status (StoreFails name) = 4
stop_status LacksMemory = 10

abbrev pub stop_report : Stop → List ℕ
stop_report (Refused cause) = report_of cause
stop_report (Absent name) = codes "absent " ++ name ++ codes "\n"
stop_report (StoreFails name) = codes "store " ++ name ++ codes "\n"
stop_report LacksMemory = codes "memory\n"
