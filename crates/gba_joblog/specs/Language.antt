-- The job language: what a line says after the lines before it, and the job that a file says.
use Rattle.std.specs.Prelude.{◌≡◌, ℕ, ◌+◌, Bool, true, false, List, length, Option, Some, None, Result, Ok, Err, unwrap_or}
use Rattle.gba_text.specs.Lines.{lines}
use Rattle.gba_text.specs.Words.{words}
use Rattle.gba_joblog.specs.Kinds.{JobError}
use Rattle.gba_text.specs.Languages.{error_at, Language, Says, answer_of}
use Rattle.gba_text.specs.Steps.{◌>>=◌}
use Rattle.gba_joblog.specs.Cable.{delays_of, players_for, usual_delay}
use Rattle.gba_joblog.specs.Draft.{Draft, nothing_said}
use Rattle.gba_joblog.specs.Lines.{is_said}
use Rattle.gba_joblog.specs.Job.{WholeJob}
use Rattle.gba_joblog.specs.Operands.{LineWords, word_at}
use Rattle.gba_joblog.specs.Statements.{Statement, keyword_in, refusal_at, arguments, plus_statement}
use Rattle.gba_joblog.specs.declared.draft.Place.{Place}
use Rattle.gba_joblog.specs.declared.draft.Place.TheVariants.{Start, Head, Inside, Ended}
use Rattle.gba_joblog.specs.declared.kinds.JobKind.{JobKind}
use Rattle.gba_joblog.specs.declared.kinds.JobKind.TheVariants as kind
use Rattle.gba_joblog.specs.declared.statement.Keyword.{Keyword}

-- a keyword that may stand here, with its operands
abbrev pub statement_of : Draft → Keyword → LineWords → Option JobKind → Result (Option Statement) JobKind
statement_of d keyword words (Some refusal) = Err refusal
statement_of d keyword words None = arguments d keyword words >>= (λ statement. Ok (Some statement))

-- the first word: a keyword, and one that may stand here
abbrev pub keyword_says : Draft → LineWords → Option Keyword → Result (Option Statement) JobKind
keyword_says d words None = Err kind.Word
keyword_says d words (Some keyword) = statement_of d keyword words (refusal_at d keyword)

-- after the line `end` no line says anything
abbrev pub unless_ended : Place → Result (Option Statement) JobKind → Result (Option Statement) JobKind
unless_ended Ended _ = Err kind.Extra
unless_ended Start said = said
unless_ended Head said = said
unless_ended Inside said = said

-- what the words of a line say, the first of which is the keyword
abbrev pub words_say : Draft → LineWords → Result (Option Statement) JobKind
words_say d words =
    word_at words >>= (λ word. unless_ended d.place (keyword_says d word.left (keyword_in d.version word.value)))

abbrev pub words_say_if : Draft → LineWords → Bool → Result (Option Statement) JobKind
words_say_if d words false = Ok None
words_say_if d words true = words_say d words

-- What a line says, after what the lines before it said; None where it is skipped. The tests in their order: its
-- length, its bytes unless it is a comment, its first word with the place, its other words.
unfoldable pub line_says : Draft → List ℕ → Result (Option Statement) JobKind
line_says d line = is_said line >>= words_say_if d (words line)

abbrev pub plus_statement_if : ℕ → Draft → Option Statement → Draft
plus_statement_if line d (Some statement) = plus_statement line statement d
plus_statement_if line d None = d

-- what is said once the line of this number is read as well
unfoldable pub said_with : ℕ → Draft → List ℕ → Result Draft JobKind
said_with number d line = line_says d line >>= (λ statement. Ok (plus_statement_if number d statement))

abbrev pub job_with : Draft → Option ℕ → ℕ → Result WholeJob JobError
job_with d (Some cycles) lines =
    Ok (record {
      cycles = cycles;
      delays = delays_of (unwrap_or d.delay usual_delay) d.links (players_for (length d.consoles));
      consoles = d.consoles;
    })
job_with d None lines = Err (error_at (lines + 1) kind.Missing)

-- the job, once all the lines are read: the last statement is `end`
abbrev pub job_at_place : Draft → Place → ℕ → Result WholeJob JobError
job_at_place d Ended lines = job_with d d.cycles lines
job_at_place d Start lines = Err (error_at (lines + 1) kind.Missing)
job_at_place d Head lines = Err (error_at (lines + 1) kind.Missing)
job_at_place d Inside lines = Err (error_at (lines + 1) kind.Missing)

unfoldable pub job_at_end : ℕ → Draft → Result WholeJob JobError
job_at_end lines d = job_at_place d d.place lines

-- the most bytes of a job
abbrev pub longest_job : ℕ
longest_job = 134217728

-- a file of statements, the last of which is `end`
abbrev pub jobs : Language Draft WholeJob JobKind
jobs = record {
  lines_of = lines;
  longest = longest_job;
  too_long = kind.Long;
  nothing = nothing_said;
  with_line = said_with;
  at_end = job_at_end;
}

-- the job that a file says, or its refusal
unfoldable pub job_of : List ℕ → Result WholeJob JobError
job_of bytes = answer_of jobs bytes

-- the relation and the function are one
abbrev pub IsAnswered : Type 0
IsAnswered = (bytes : List ℕ) → Says jobs bytes (job_of bytes)

abbrev pub HasOneAnswer : Type 0
HasOneAnswer = (bytes : List ℕ) (answer : Result WholeJob JobError) → Says jobs bytes answer → answer ≡ job_of bytes
