-- The words of the commands.
use Rattle.std.specs.Prelude.{◌≡◌, ◌≤◌, ◌<◌, ◌^◌, ℕ, Bool, true, not, nat_le, ◌&&◌, List, [], ◌∷◌, length, codes, Option, Some, None, option_map, if◌then◌else◌}
use Rattle.std.specs.Str.{bytes_eq}
use Rattle.gba_joblog.specs.Names.{is_name}
use Rattle.gba_text.specs.Numbers.{number_of}

-- `run JOB OUT`
pub record RunWords : Type 0 where
  pub job : List ℕ
  pub out : List ℕ

-- a command that reads one file and writes another
pub record FileWords : Type 0 where
  pub from : List ℕ
  pub to : List ℕ

-- `gen NUMBER CYCLES OUT`
pub record GenerateWords : Type 0 where
  pub number : ℕ
  pub cycles : ℕ
  pub out : List ℕ

-- `trace JOB FIRST COUNT OUT`
pub record TraceWords : Type 0 where
  pub run : RunWords
  pub first : ℕ
  pub count : ℕ

-- `freeze JOB CLOCK OUT`
pub record FreezeWords : Type 0 where
  pub run : RunWords
  pub clock : ℕ

-- `resume JOB FROZEN OUT`
pub record ResumeWords : Type 0 where
  pub run : RunWords
  pub frozen : List ℕ

pub data Command : Type 0 where
  -- `run JOB OUT`: a job is run
  RunJob : RunWords → Command
  -- `asm SRC OUT`: a source is assembled
  Assemble : FileWords → Command
  -- `dis IMAGE OUT`: an image is listed as ARM code
  ListArm : FileWords → Command
  -- `tdis IMAGE OUT`: an image is listed as Thumb code
  ListThumb : FileWords → Command
  -- `gen NUMBER CYCLES OUT`: a run of four consoles is made of a number
  Generate : GenerateWords → Command
  -- `trace JOB FIRST COUNT OUT`: steps of a job are listed
  Trace : TraceWords → Command
  -- `freeze JOB CLOCK OUT`: a job is run to a clock, and the state of its consoles there is written
  Freeze : FreezeWords → Command
  -- `resume JOB FROZEN OUT`: a job is run on from where it was frozen
  Resume : ResumeWords → Command

-- OUT may have 180 bytes, so that the names of the written files are names too
abbrev pub longest_out : ℕ
longest_out = 180

abbrev pub is_out : List ℕ → Bool
is_out out = is_name out && nat_le (length out) longest_out

abbrev pub run_words : List ℕ → List ℕ → Option RunWords
run_words job out = if is_name job && is_out out then Some (record { job = job; out = out }) else None

-- the file that is written has another name than the one that is read
abbrev pub file_words : List ℕ → List ℕ → Option FileWords
file_words from to =
    if is_name from && is_out to && not (bytes_eq from to) then Some (record { from = from; to = to }) else None

abbrev pub generation : Option ℕ → Option ℕ → List ℕ → Option GenerateWords
generation None cycles out = None
generation (Some number) None out = None
generation (Some number) (Some cycles) out = Some (record { number = number; cycles = cycles; out = out })

-- NUMBER is below 2^32 and CYCLES from 1 to 2^31, each of 1 to 20 decimal digits
abbrev pub generate_words : List ℕ → List ℕ → List ℕ → Option GenerateWords
generate_words number cycles out =
    if is_out out then generation (number_of 0 4294967295 number) (number_of 1 2147483648 cycles) out else None

abbrev pub tracing : Option ℕ → Option ℕ → Option RunWords → Option TraceWords
tracing None count run = None
tracing (Some first) None run = None
tracing (Some first) (Some count) None = None
tracing (Some first) (Some count) (Some run) = Some (record { run = run; first = first; count = count })

-- FIRST is below 2^40 and COUNT from 1 to 1,000,000, each of 1 to 20 decimal digits
abbrev pub trace_words : List ℕ → List ℕ → List ℕ → List ℕ → Option TraceWords
trace_words job first count out =
    tracing (number_of 0 1099511627775 first) (number_of 1 1000000 count) (run_words job out)

abbrev pub freezing : Option ℕ → Option RunWords → Option FreezeWords
freezing None run = None
freezing (Some clock) None = None
freezing (Some clock) (Some run) = Some (record { run = run; clock = clock })

-- CLOCK is from 1 to 2^38, of 1 to 20 decimal digits
abbrev pub freeze_words : List ℕ → List ℕ → List ℕ → Option FreezeWords
freeze_words job clock out = freezing (number_of 1 274877906944 clock) (run_words job out)

abbrev pub resuming : List ℕ → Option RunWords → Option ResumeWords
resuming frozen None = None
resuming frozen (Some run) = Some (record { run = run; frozen = frozen })

abbrev pub resume_words : List ℕ → List ℕ → List ℕ → Option ResumeWords
resume_words job frozen out = if is_name frozen then resuming frozen (run_words job out) else None

-- a command of three words
abbrev pub command_of_three : List ℕ → List ℕ → List ℕ → Option Command
command_of_three name from to =
    if bytes_eq name (codes "run") then option_map RunJob (run_words from to)
    else if bytes_eq name (codes "asm") then option_map Assemble (file_words from to)
    else if bytes_eq name (codes "dis") then option_map ListArm (file_words from to)
    else if bytes_eq name (codes "tdis") then option_map ListThumb (file_words from to)
    else None

-- a command of four words
abbrev pub command_of_four : List ℕ → List ℕ → List ℕ → List ℕ → Option Command
command_of_four name one two out =
    if bytes_eq name (codes "gen") then option_map Generate (generate_words one two out)
    else if bytes_eq name (codes "freeze") then option_map Freeze (freeze_words one two out)
    else if bytes_eq name (codes "resume") then option_map Resume (resume_words one two out)
    else None

-- a command of five words
abbrev pub command_of_five : List ℕ → List ℕ → List ℕ → List ℕ → List ℕ → Option Command
command_of_five name job first count out =
    if bytes_eq name (codes "trace") then option_map Trace (trace_words job first count out) else None

-- the command that the words after the program's name say, if they say one
abbrev pub command_of : List (List ℕ) → Option Command
command_of [] = None
command_of (_ ∷ []) = None
command_of (_ ∷ _ ∷ []) = None
command_of (name ∷ from ∷ to ∷ []) = command_of_three name from to
command_of (name ∷ one ∷ two ∷ out ∷ []) = command_of_four name one two out
command_of (name ∷ job ∷ first ∷ count ∷ out ∷ []) = command_of_five name job first count out
command_of (_ ∷ _ ∷ _ ∷ _ ∷ _ ∷ _ ∷ _) = None

-- What holds of the words of every command.
abbrev pub IsOut : List ℕ → Type 0
IsOut out = (is_name out ≡ true) × (length out ≤ longest_out)

pub record AreRunWords (words : RunWords) : Type 0 where
  pub job : length words.job ≤ 200
  pub out : IsOut words.out

pub record AreFileWords (words : FileWords) : Type 0 where
  pub from : length words.from ≤ 200
  pub to : IsOut words.to

pub record AreGenerateWords (words : GenerateWords) : Type 0 where
  pub number : words.number < 2 ^ 32
  pub some_cycles : 1 ≤ words.cycles
  pub few_cycles : words.cycles ≤ 2 ^ 31
  pub out : IsOut words.out

pub record AreTraceWords (words : TraceWords) : Type 0 where
  pub run : AreRunWords words.run
  pub first : words.first < 2 ^ 40
  pub some_steps : 1 ≤ words.count
  pub few_steps : words.count ≤ 1000000

pub record AreFreezeWords (words : FreezeWords) : Type 0 where
  pub run : AreRunWords words.run
  pub some_cycles : 1 ≤ words.clock
  pub few_cycles : words.clock ≤ 2 ^ 38

pub record AreResumeWords (words : ResumeWords) : Type 0 where
  pub run : AreRunWords words.run
  pub frozen : length words.frozen ≤ 200

abbrev pub IsCommand : Command → Type 0
IsCommand (RunJob words) = AreRunWords words
IsCommand (Assemble words) = AreFileWords words
IsCommand (ListArm words) = AreFileWords words
IsCommand (ListThumb words) = AreFileWords words
IsCommand (Generate words) = AreGenerateWords words
IsCommand (Trace words) = AreTraceWords words
IsCommand (Freeze words) = AreFreezeWords words
IsCommand (Resume words) = AreResumeWords words
