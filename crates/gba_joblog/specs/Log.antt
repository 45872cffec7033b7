-- The log: a job in one spelling.
use Rattle.std.specs.Prelude.{ℕ, ◌+◌, ◌/◌, ◌%◌, ◌==◌, if◌then◌else◌, List, [], ◌∷◌, ◌++◌, length, codes, decimal, slice_index, Option, Some, None}
use Rattle.std.specs.List.{flat_map}
use Rattle.hex.specs.Hex.{encode_lower, lower_digits}
use Rattle.gba_image.specs.declared.backup.Backup.{Backup}
use Rattle.gba_image.specs.declared.backup.Backup.TheVariants.{Sram, Flash64, Flash128}
use Rattle.link_node.specs.Delays.{hop_of}
use Rattle.link_node.specs.declared.delays.Delays.{Delays}
use Rattle.gba_joblog.specs.Backups.{backup_word}
use Rattle.gba_joblog.specs.Cable.{all_pairs, is_joined, players_for}
use Rattle.gba_joblog.specs.Job.{ConsoleJob, NamedFile, WholeJob}
use Rattle.gba_joblog.specs.Operands.{LineWords}
use Rattle.gba_joblog.specs.Outputs.{all_kinds, out_name}
use Rattle.gba_joblog.specs.Statements.{output_of}
use Rattle.gba_joblog.specs.declared.cable.Pair.{Pair}
use Rattle.gba_joblog.specs.declared.job.KeyChange.{KeyChange}
use Rattle.gba_joblog.specs.declared.job.OutLine.{OutLine}
use Rattle.gba_joblog.specs.declared.outputs.OutKind.{OutKind}

-- what follows a word of a line: a space before each of the other words, and the line feed
abbrev pub after_words : LineWords → List ℕ
after_words [] = codes "\n"
after_words (word ∷ words) = codes " " ++ (word ++ after_words words)

-- a line of these words, the first of which is the keyword
abbrev pub line_of : List ℕ → LineWords → List ℕ
line_of keyword words = keyword ++ after_words words

-- a stated digest, with lower case digits
abbrev pub digest_words : Option (List ℕ) → LineWords
digest_words None = []
digest_words (Some digest) = codes "sha256" ∷ encode_lower digest ∷ []

-- the line of an input
abbrev pub file_text : List ℕ → NamedFile → List ℕ
file_text keyword file = line_of keyword (file.name ∷ digest_words file.digest)

-- the same, where the console has it
abbrev pub any_file_text : List ℕ → Option NamedFile → List ℕ
any_file_text keyword None = []
any_file_text keyword (Some file) = file_text keyword file

-- pressed keys as three lower case digits
abbrev pub keys_word : ℕ → List ℕ
keys_word keys =
    slice_index lower_digits (keys / 256) ∷ slice_index lower_digits (keys / 16 % 16)
    ∷ slice_index lower_digits (keys % 16) ∷ []

abbrev pub change_text : KeyChange → List ℕ
change_text change = line_of (codes "key") (decimal change.clock ∷ keys_word change.keys ∷ [])

-- a line for each change, in their order
unfoldable pub changes_text : List KeyChange → List ℕ
changes_text [] = []
changes_text (change ∷ changes) = change_text change ++ changes_text changes

-- the line of an output, where the console is asked for it
abbrev pub asked_text : List ℕ → Option OutLine → List ℕ
asked_text name None = []
asked_text name (Some asked) = line_of (codes "out") (name ∷ digest_words asked.digest)

abbrev pub out_text : ConsoleJob → OutKind → List ℕ
out_text console out = asked_text (out_name out) (output_of console out)

abbrev pub outs_text : ConsoleJob → List ℕ
outs_text console = flat_map (out_text console) all_kinds

abbrev pub files_text : ConsoleJob → List ℕ
files_text console =
    file_text (codes "bios") console.bios
    ++ (any_file_text (codes "cart") console.cart ++ any_file_text (codes "save") console.save)

-- the line of what keeps the saves, where it isn't SRAM
abbrev pub backup_text : Backup → List ℕ
backup_text Sram = []
backup_text Flash64 = line_of (codes "backup") (backup_word Flash64 ∷ [])
backup_text Flash128 = line_of (codes "backup") (backup_word Flash128 ∷ [])

-- the line of the clock from which on the console is on, where it isn't on from the start
abbrev pub off_text : ℕ → List ℕ
off_text off = if off == 0 then [] else line_of (codes "off") (decimal off ∷ [])

-- The lines of the console of this number. The key file isn't named: its changes stand as lines.
unfoldable pub console_text : ℕ → ConsoleJob → List ℕ
console_text player console =
    line_of (codes "console") (decimal player ∷ [])
    ++ (files_text console
    ++ (backup_text console.backup ++ (off_text console.off ++ (changes_text console.changes ++ outs_text console))))

unfoldable pub consoles_text : ℕ → List ConsoleJob → List ℕ
consoles_text player [] = []
consoles_text player (console ∷ consoles) = console_text player console ++ consoles_text (player + 1) consoles

-- the line of a pair's delay, where the cable joins the pair
abbrev pub link_text : ℕ → Delays → Pair → List ℕ
link_text players delays pair =
    if is_joined players pair
    then line_of (codes "link")
    (decimal pair.sender ∷ decimal pair.receiver ∷ decimal (hop_of delays pair.sender pair.receiver) ∷ [])
    else []

-- a line for each pair that the cable joins, by sender and then by receiver
unfoldable pub links_text : ℕ → Delays → List ℕ
links_text players delays = flat_map (link_text players delays) all_pairs

-- The log of a job, which is of version 2: its lines in the order of the language's table, each word parted from the
-- next by one space, decimal numbers without leading zeros, a link for each pair that the cable joins and no other
-- delay, no comments and no blank lines.
unfoldable pub log_text : WholeJob → List ℕ
log_text job =
    line_of (codes "gbalink") (codes "2" ∷ []) ++ (line_of (codes "cycles") (decimal job.cycles ∷ [])
    ++ (links_text (players_for (length job.consoles)) job.delays
    ++ (consoles_text 0 job.consoles ++ line_of (codes "end") [])))
