-- The table of statements. Each keyword has its spelling, its place, its operands, and what it says.
use Rattle.std.specs.Prelude.{ℕ, ◌+◌, ◌-◌, ◌^◌, ◌==◌, Bool, true, false, List, [], ◌∷◌, ◌++◌, length, codes, not, Option, Some, None, Result, Ok, is_some, if◌then◌else◌}
use Rattle.std.specs.Str.{bytes_eq}
use Rattle.gba_text.specs.Steps.{◌>>=◌, holds}
use Rattle.gba_joblog.specs.Cable.{link_for}
use Rattle.gba_image.specs.declared.backup.Backup.{Backup}
use Rattle.gba_joblog.specs.Changes.{change_at}
use Rattle.gba_joblog.specs.Draft.{Draft, DraftConsole, silent_console, with_image}
use Rattle.gba_joblog.specs.Job.{ConsoleJob, NamedFile}
use Rattle.gba_joblog.specs.Outputs.{at_kind, with_kind}
use Rattle.gba_joblog.specs.Operands.{LineWords, number_at, name_at, digest_at, player_at, version_at, pair_at, backup_at, out_kind_at, end_at}
use Rattle.gba_joblog.specs.declared.cable.Link.{Link as CableLink}
use Rattle.gba_joblog.specs.declared.draft.JobVersion.{JobVersion}
use Rattle.gba_joblog.specs.declared.draft.JobVersion.TheVariants.{One, Two}
use Rattle.gba_joblog.specs.declared.draft.Place.{Place}
use Rattle.gba_joblog.specs.declared.draft.Place.TheVariants.{Start, Head, Inside, Ended}
use Rattle.gba_joblog.specs.declared.job.FileKind.{FileKind}
use Rattle.gba_joblog.specs.declared.job.FileKind.TheVariants as file
use Rattle.gba_joblog.specs.declared.job.KeyChange.{KeyChange}
use Rattle.gba_joblog.specs.declared.outputs.OutKind.{OutKind}
use Rattle.gba_joblog.specs.declared.job.OutLine.{OutLine}
use Rattle.gba_joblog.specs.declared.kinds.JobKind.{JobKind}
use Rattle.gba_joblog.specs.declared.kinds.JobKind.TheVariants as kind
use Rattle.gba_joblog.specs.declared.statement.Keyword.{Keyword}
use Rattle.gba_joblog.specs.declared.statement.Keyword.TheVariants as keyword

-- what a line can say
pub data Statement : Type 0 where
  Version : JobVersion → Statement
  Cycles : ℕ → Statement
  -- the delay of all pairs that have no link
  Delay : ℕ → Statement
  -- the delay of one pair
  Link : CableLink → Statement
  -- the console of this number begins
  Console : ℕ → Statement
  -- an input, its name, and the digest stated with it
  File : FileKind → List ℕ → Option (List ℕ) → Statement
  Key : KeyChange → Statement
  -- the cartridge keeps its saves in this
  KeepsIn : Backup → Statement
  -- the console is off before this clock
  Off : ℕ → Statement
  -- an output, and the digest stated for it
  Out : OutKind → Option (List ℕ) → Statement
  End : Statement

-- the keyword that a line's first word spells
unfoldable pub keyword_of : List ℕ → Option Keyword
keyword_of word =
    if bytes_eq word (codes "gbalink") then Some keyword.Version
    else if bytes_eq word (codes "cycles") then Some keyword.Cycles
    else if bytes_eq word (codes "delay") then Some keyword.Delay
    else if bytes_eq word (codes "link") then Some keyword.Link
    else if bytes_eq word (codes "console") then Some keyword.Console
    else if bytes_eq word (codes "bios") then Some (keyword.File file.Bios)
    else if bytes_eq word (codes "cart") then Some (keyword.File file.Cart)
    else if bytes_eq word (codes "save") then Some (keyword.File file.Save)
    else if bytes_eq word (codes "keys") then Some (keyword.File file.Keys)
    else if bytes_eq word (codes "key") then Some keyword.Key
    else if bytes_eq word (codes "backup") then Some keyword.Backup
    else if bytes_eq word (codes "off") then Some keyword.Off
    else if bytes_eq word (codes "out") then Some keyword.Out
    else if bytes_eq word (codes "end") then Some keyword.End
    else None

abbrev pub is_two : JobVersion → Bool
is_two One = false
is_two Two = true

-- whether a version of the language has a keyword: three of them came with version 2
abbrev pub has_keyword : JobVersion → Keyword → Bool
has_keyword version keyword.Version = true
has_keyword version keyword.Cycles = true
has_keyword version keyword.Delay = true
has_keyword version keyword.Link = is_two version
has_keyword version keyword.Console = true
has_keyword version (keyword.File file) = true
has_keyword version keyword.Key = true
has_keyword version keyword.Backup = is_two version
has_keyword version keyword.Off = is_two version
has_keyword version keyword.Out = true
has_keyword version keyword.End = true

abbrev pub known_in : JobVersion → Option Keyword → Option Keyword
known_in version None = None
known_in version (Some keyword) = if has_keyword version keyword then Some keyword else None

-- the keyword that a line's first word spells in a version of the language
abbrev pub keyword_in : JobVersion → List ℕ → Option Keyword
keyword_in version word = known_in version (keyword_of word)

-- the most cycles of a job
abbrev pub most_cycles : JobVersion → ℕ
most_cycles One = 2 ^ 31
most_cycles Two = 2 ^ 38

-- refused as said before, if it was said
abbrev pub once : Bool → Option JobKind
once true = Some kind.Repeated
once false = None

-- before the first console, and at most once
abbrev pub in_head : Place → Bool → Option JobKind
in_head Head said = once said
in_head Start _ = Some kind.Order
in_head Inside _ = Some kind.Order
in_head Ended _ = Some kind.Order

-- among the lines of a console
abbrev pub in_console : Place → Option JobKind → Option JobKind
in_console Inside refusal = refusal
in_console Start _ = Some kind.Order
in_console Head _ = Some kind.Order
in_console Ended _ = Some kind.Order

-- a console whose keys come by `key` lines has no `keys` line, and no console has two
abbrev pub without_changes : List KeyChange → Option JobKind → Option JobKind
without_changes [] refusal = refusal
without_changes (_ ∷ _) _ = Some kind.Order

-- what a console says of an input
abbrev pub file_of : FileKind → DraftConsole → Option NamedFile
file_of file.Bios console = console.bios
file_of file.Cart console = console.cart
file_of file.Save console = console.save
file_of file.Keys console = console.keys

-- each input is named once
abbrev pub file_refusal : FileKind → DraftConsole → Option JobKind
file_refusal file.Bios console = once (is_some console.bios)
file_refusal file.Cart console = once (is_some console.cart)
file_refusal file.Save console = once (is_some console.save)
file_refusal file.Keys console = without_changes console.changes (once (is_some console.keys))

-- a console whose keys come from a file has no `key` line
abbrev pub without_file : Bool → Option JobKind
without_file true = Some kind.Order
without_file false = None

-- `gbalink` is the first line, and stands nowhere else
abbrev pub at_start : Place → Option JobKind
at_start Start = None
at_start Head = Some kind.Repeated
at_start Inside = Some kind.Repeated
at_start Ended = Some kind.Repeated

-- a console's first line stands after `cycles`
abbrev pub before_console : Place → Bool → Option JobKind
before_console Head true = None
before_console Head false = Some kind.Order
before_console Start _ = Some kind.Order
before_console Inside _ = None
before_console Ended _ = Some kind.Order

-- the place of each line: why it may not stand here, if so
unfoldable pub refusal_at : Draft → Keyword → Option JobKind
refusal_at d keyword.Version = at_start d.place
refusal_at d keyword.Cycles = in_head d.place (is_some d.cycles)
refusal_at d keyword.Delay = in_head d.place (is_some d.delay)
refusal_at d keyword.Link = in_head d.place false
refusal_at d keyword.Console = before_console d.place (is_some d.cycles)
refusal_at d (keyword.File file) = in_console d.place (file_refusal file d.last)
refusal_at d keyword.Key = in_console d.place (without_file (is_some d.last.keys))
refusal_at d keyword.Backup = in_console d.place (once (is_some d.last.backup))
refusal_at d keyword.Off = in_console d.place (once (not (d.last.off == 0)))
refusal_at d keyword.Out = in_console d.place None
refusal_at d keyword.End = in_console d.place None

-- what a console is asked for of an output, if it is
abbrev pub output_of : ConsoleJob → OutKind → Option OutLine
output_of console out = at_kind console.outs out

-- whether a console asks for an output
abbrev pub asks_for : ConsoleJob → OutKind → Bool
asks_for console out = is_some (output_of console out)

-- the consoles once the one whose lines stand here is whole
abbrev pub and_whole : List ConsoleJob → DraftConsole → Option NamedFile → List ConsoleJob
and_whole consoles last (Some bios) = consoles ++ with_image last bios ∷ []
and_whole consoles last None = consoles

abbrev pub whole_consoles : Place → List ConsoleJob → DraftConsole → List ConsoleJob
whole_consoles Inside consoles last = and_whole consoles last last.bios
whole_consoles Start consoles last = consoles
whole_consoles Head consoles last = consoles
whole_consoles Ended consoles last = consoles

-- the number of the next console
abbrev pub next_player : Place → ℕ → ℕ
next_player Inside whole = whole + 1
next_player Start whole = whole
next_player Head whole = whole
next_player Ended whole = whole

-- whether the console whose lines stand here has its BIOS image
abbrev pub has_image : Place → DraftConsole → Bool
has_image Inside last = is_some last.bios
has_image Start last = true
has_image Head last = true
has_image Ended last = true

-- the operands of each line, from left to right, and what it says with them
unfoldable pub arguments : Draft → Keyword → LineWords → Result Statement JobKind
arguments d keyword.Version words = do
  version ← version_at words
  _ ← end_at version.left
  Ok (Version version.value)
arguments d keyword.Cycles words = do
  cycles ← number_at 1 (most_cycles d.version) words
  _ ← end_at cycles.left
  Ok (Cycles cycles.value)
arguments d keyword.Delay words = do
  delay ← number_at 1 1024 words
  _ ← end_at delay.left
  Ok (Delay delay.value)
arguments d keyword.Link words = do
  pair ← pair_at words
  _ ← holds (not (is_some (link_for pair.value d.links))) kind.Repeated
  delay ← number_at 1 1024 pair.left
  _ ← end_at delay.left
  Ok (Link (record { pair = pair.value; delay = delay.value }))
arguments d keyword.Console words = do
  player ← player_at (next_player d.place (length d.consoles)) words
  _ ← holds (has_image d.place d.last) kind.Missing
  _ ← end_at player.left
  Ok (Console player.value)
arguments d (keyword.File file) words = do
  name ← name_at words
  digest ← digest_at name.left
  _ ← end_at digest.left
  Ok (File file name.value digest.value)
arguments d keyword.Key words = do
  change ← change_at d.last.changes words
  Ok (Key change)
arguments d keyword.Backup words = do
  backup ← backup_at words
  _ ← end_at backup.left
  Ok (KeepsIn backup.value)
arguments d keyword.Off words = do
  off ← number_at 1 (2 ^ 38 - 1) words
  _ ← end_at off.left
  Ok (Off off.value)
arguments d keyword.Out words = do
  out ← out_kind_at words
  _ ← holds (not (is_some (at_kind d.last.outs out.value))) kind.Repeated
  digest ← digest_at out.left
  _ ← end_at digest.left
  Ok (Out out.value digest.value)
arguments d keyword.End words = do
  _ ← holds (is_some d.last.bios) kind.Missing
  _ ← end_at words
  Ok End

abbrev pub named_file : List ℕ → Option (List ℕ) → ℕ → NamedFile
named_file name digest line = record { name = name; digest = digest; line = line }

abbrev pub asked_output : Option (List ℕ) → OutLine
asked_output digest = record { digest = digest }

-- a console with this line of an input
abbrev pub with_file : FileKind → NamedFile → DraftConsole → DraftConsole
with_file file.Bios named console = record console { bios = Some named }
with_file file.Cart named console = record console { cart = Some named }
with_file file.Save named console = record console { save = Some named }
with_file file.Keys named console = record console { keys = Some named }

-- a console that is asked for this output
abbrev pub with_output : OutKind → OutLine → DraftConsole → DraftConsole
with_output out asked console = record console { outs = with_kind out (Some asked) console.outs }

-- what is said once the console whose lines stand here is whole, and the next line stands at this place
abbrev pub closed : Place → Draft → Draft
closed place d =
    record d { place = place; consoles = whole_consoles d.place d.consoles d.last; last = silent_console }

-- what is said once a line, with its number, is said as well
unfoldable pub plus_statement : ℕ → Statement → Draft → Draft
plus_statement line (Version version) d = record d { version = version; place = Head }
plus_statement line (Cycles cycles) d = record d { cycles = Some cycles }
plus_statement line (Delay delay) d = record d { delay = Some delay }
plus_statement line (Link link) d = record d { links = d.links ++ link ∷ [] }
plus_statement line (Console player) d = closed Inside d
plus_statement line (File file name digest) d =
    record d { last = with_file file (named_file name digest line) d.last }
plus_statement line (Key change) d = record d { last = record d.last { changes = d.last.changes ++ change ∷ [] } }
plus_statement line (KeepsIn backup) d = record d { last = record d.last { backup = Some backup } }
plus_statement line (Off off) d = record d { last = record d.last { off = off } }
plus_statement line (Out out digest) d = record d { last = with_output out (asked_output digest) d.last }
plus_statement line End d = closed Ended d
