-- The words after a line's first one, from left to right: each reader takes the next word, or says why it can't.
use Rattle.std.specs.Prelude.{ℕ, Bool, true, false, not, nat_lt, ◌==◌, List, [], ◌∷◌, codes, Option, Some, None, Result, Ok, Err, if◌then◌else◌}
use Rattle.std.specs.Str.{bytes_eq}
use Rattle.std.specs.Result.{result_ok}
use Rattle.hex.specs.Hex.{decode_sized}
use Rattle.gba_image.specs.declared.backup.Backup.{Backup}
use Rattle.gba_text.specs.Numbers.{is_number, number_of, hex_number_of}
use Rattle.gba_text.specs.Steps.{◌>>=◌, Taken, taken, holds, or_refused, no_more}
use Rattle.gba_joblog.specs.Backups.{backup_named}
use Rattle.gba_joblog.specs.Cable.{pair_of}
use Rattle.gba_joblog.specs.Digests.{digest_size}
use Rattle.gba_joblog.specs.Names.{is_name}
use Rattle.gba_joblog.specs.Outputs.{kind_named}
use Rattle.gba_joblog.specs.declared.cable.Pair.{Pair}
use Rattle.gba_joblog.specs.declared.draft.JobVersion.{JobVersion}
use Rattle.gba_joblog.specs.declared.draft.JobVersion.TheVariants.{One, Two}
use Rattle.gba_joblog.specs.declared.outputs.OutKind.{OutKind}
use Rattle.gba_joblog.specs.declared.kinds.JobKind.{JobKind}
use Rattle.gba_joblog.specs.declared.kinds.JobKind.TheVariants.{Word, Number, Name, Digest, Order, Missing, Extra}

-- the words that aren't read yet
abbrev pub LineWords : Type 0
LineWords = List (List ℕ)

abbrev pub has_words : LineWords → Bool
has_words [] = false
has_words (_ ∷ _) = true

abbrev pub word_at : LineWords → Result (Taken LineWords (List ℕ)) JobKind
word_at [] = Err Missing
word_at (word ∷ words) = Ok (taken word words)

abbrev pub number_in : ℕ → ℕ → Taken LineWords (List ℕ) → Result (Taken LineWords ℕ) JobKind
number_in least most t = or_refused Number t.left (number_of least most t.value)

-- a number from `least` to `most`
unfoldable pub number_at : ℕ → ℕ → LineWords → Result (Taken LineWords ℕ) JobKind
number_at least most words = word_at words >>= number_in least most

-- one bit for each of the ten keys
abbrev pub keys_within : Option ℕ → Option ℕ
keys_within None = None
keys_within (Some keys) = if nat_lt keys 1024 then Some keys else None

abbrev pub keys_in : Taken LineWords (List ℕ) → Result (Taken LineWords ℕ) JobKind
keys_in t = or_refused Number t.left (keys_within (hex_number_of 3 t.value))

-- the pressed keys as three hexadecimal digits, below 400h
unfoldable pub keys_at : LineWords → Result (Taken LineWords ℕ) JobKind
keys_at words = word_at words >>= keys_in

abbrev pub name_of : List ℕ → Option (List ℕ)
name_of word = if is_name word then Some word else None

abbrev pub name_in : Taken LineWords (List ℕ) → Result (Taken LineWords (List ℕ)) JobKind
name_in t = or_refused Name t.left (name_of t.value)

-- a file's name
unfoldable pub name_at : LineWords → Result (Taken LineWords (List ℕ)) JobKind
name_at words = word_at words >>= name_in

-- the versions of the language that are understood
abbrev pub version_of : List ℕ → Option JobVersion
version_of word = if bytes_eq word (codes "1") then Some One else if bytes_eq word (codes "2") then Some Two else None

abbrev pub version_in : Taken LineWords (List ℕ) → Result (Taken LineWords JobVersion) JobKind
version_in t = or_refused Word t.left (version_of t.value)

-- the word `1` or `2`, the version
unfoldable pub version_at : LineWords → Result (Taken LineWords JobVersion) JobKind
version_at words = word_at words >>= version_in

abbrev pub backup_in : Taken LineWords (List ℕ) → Result (Taken LineWords Backup) JobKind
backup_in t = or_refused Word t.left (backup_named t.value)

-- what a cartridge keeps its saves in
unfoldable pub backup_at : LineWords → Result (Taken LineWords Backup) JobKind
backup_at words = word_at words >>= backup_in

abbrev pub out_kind_in : Taken LineWords (List ℕ) → Result (Taken LineWords OutKind) JobKind
out_kind_in t = or_refused Word t.left (kind_named t.value)

-- the kind of an output
unfoldable pub out_kind_at : LineWords → Result (Taken LineWords OutKind) JobKind
out_kind_at words = word_at words >>= out_kind_in

-- the greatest number of a console
abbrev pub last_player : ℕ
last_player = 3

abbrev pub only : ℕ → Taken LineWords ℕ → Result (Taken LineWords ℕ) JobKind
only next t = if t.value == next then Ok t else Err Order

-- a number of another console, however great, stands where it may not
abbrev pub no_player : List ℕ → JobKind
no_player word = if is_number word then Order else Number

abbrev pub player_of : ℕ → Taken LineWords (List ℕ) → Option ℕ → Result (Taken LineWords ℕ) JobKind
player_of next t (Some player) = only next (taken player t.left)
player_of next t None = Err (no_player t.value)

abbrev pub player_in : ℕ → Taken LineWords (List ℕ) → Result (Taken LineWords ℕ) JobKind
player_in next t = player_of next t (number_of 0 last_player t.value)

-- the number of a console, which has to be the next one
unfoldable pub player_at : ℕ → LineWords → Result (Taken LineWords ℕ) JobKind
player_at next words = word_at words >>= player_in next

-- the bytes that hexadecimal digits spell, two a byte, if they spell a digest
abbrev pub digest_of : List ℕ → Option (List ℕ)
digest_of word = result_ok (decode_sized word digest_size)

abbrev pub digits_in : Taken LineWords (List ℕ) → Result (Taken LineWords (List ℕ)) JobKind
digits_in t = or_refused Digest t.left (digest_of t.value)

-- the digits of a digest, in either case
unfoldable pub digits_at : LineWords → Result (Taken LineWords (List ℕ)) JobKind
digits_at words = word_at words >>= digits_in

abbrev pub stated : Taken LineWords (List ℕ) → Taken LineWords (Option (List ℕ))
stated t = taken (Some t.value) t.left

abbrev pub digest_in : Taken LineWords (List ℕ) → Result (Taken LineWords (Option (List ℕ))) JobKind
digest_in t = if bytes_eq t.value (codes "sha256") then digits_at t.left >>= (λ t. Ok (stated t)) else Err Word

abbrev pub digest_if : LineWords → Bool → Result (Taken LineWords (Option (List ℕ))) JobKind
digest_if words false = Ok (taken None words)
digest_if words true = word_at words >>= digest_in

-- the digest that the rest of the line states, by the word `sha256` and its digits; there may be none
unfoldable pub digest_at : LineWords → Result (Taken LineWords (Option (List ℕ))) JobKind
digest_at words = digest_if words (has_words words)

-- two players, of which the second isn't the first
unfoldable pub pair_at : LineWords → Result (Taken LineWords Pair) JobKind
pair_at words = do
  sender ← number_at 0 last_player words
  receiver ← number_at 0 last_player sender.left
  _ ← holds (not (sender.value == receiver.value)) Number
  Ok (taken (pair_of sender.value receiver.value) receiver.left)

-- nothing follows
abbrev pub end_at : LineWords → Result Bool JobKind
end_at words = no_more Extra words
