-- The words of a line, from left to right: each reader takes the next one, or refuses the line.
use Rattle.std.specs.Prelude.{ℕ, zero, suc, Bool, true, List, [], ◌∷◌, ◌++◌, codes, decimal, Option, Some, None, Result, Ok, Err, if◌then◌else◌}
use Rattle.std.specs.Str.{bytes_eq}
use Rattle.gba_text.specs.Steps.{◌>>=◌, Taken, taken, or_refused, no_more}
use Rattle.gba_numbers.specs.declared.names.MemoryName.{MemoryName}
use Rattle.gba_numbers.specs.declared.names.MemoryName.TheVariants as memory
use Rattle.gba_frozen.specs.Spelling.{decimal_said, hex_said, number_said, numbers_said}
use Rattle.gba_frozen.specs.declared.kinds.ThawKind.{ThawKind}
use Rattle.gba_frozen.specs.declared.kinds.ThawKind.TheVariants as kind
use Rattle.gba_frozen.specs.declared.rows.Spelling.{Spelling}

-- the words that aren't read yet
abbrev pub LineWords : Type 0
LineWords = List (List ℕ)

abbrev pub word_at : LineWords → Result (Taken LineWords (List ℕ)) ThawKind
word_at [] = Err kind.Spelling
word_at (word ∷ words) = Ok (taken word words)

abbrev pub exact_in : List ℕ → Taken LineWords (List ℕ) → Result (Taken LineWords Bool) ThawKind
exact_in word t = if bytes_eq t.value word then Ok (taken true t.left) else Err kind.Spelling

-- just this word
unfoldable pub exact : List ℕ → LineWords → Result (Taken LineWords Bool) ThawKind
exact word words = word_at words >>= exact_in word

abbrev pub decimal_in : Taken LineWords (List ℕ) → Result (Taken LineWords ℕ) ThawKind
decimal_in t = or_refused kind.Spelling t.left (decimal_said t.value)

-- a decimal number
unfoldable pub decimal_at : LineWords → Result (Taken LineWords ℕ) ThawKind
decimal_at words = word_at words >>= decimal_in

abbrev pub hex_in : ℕ → Taken LineWords (List ℕ) → Result (Taken LineWords ℕ) ThawKind
hex_in count t = or_refused kind.Spelling t.left (hex_said count t.value)

-- a number of so many hexadecimal digits
unfoldable pub hex_at : ℕ → LineWords → Result (Taken LineWords ℕ) ThawKind
hex_at count words = word_at words >>= hex_in count

abbrev pub numbers_in_word : ℕ → ℕ → Taken LineWords (List ℕ) → Result (Taken LineWords (List ℕ)) ThawKind
numbers_in_word width count t = or_refused kind.Spelling t.left (numbers_said width count t.value)

-- so many numbers of `width` hexadecimal digits each, in one word
unfoldable pub numbers_at : ℕ → ℕ → LineWords → Result (Taken LineWords (List ℕ)) ThawKind
numbers_at width count words = word_at words >>= numbers_in_word width count

abbrev pub value_in : Spelling → Taken LineWords (List ℕ) → Result (Taken LineWords ℕ) ThawKind
value_in spelling t = or_refused kind.Spelling t.left (number_said spelling t.value)

-- a number so written, and so many of them behind these
unfoldable pub value_at : Spelling → LineWords → Result (Taken LineWords ℕ) ThawKind
value_at spelling words = word_at words >>= value_in spelling

unfoldable pub values_at : Spelling → ℕ → List ℕ → LineWords → Result (Taken LineWords (List ℕ)) ThawKind
values_at spelling zero values words = Ok (taken values words)
values_at spelling (suc count) values words =
    value_at spelling words >>= (λ t. values_at spelling count (values ++ t.value ∷ []) t.left)

-- the number behind a row's first word, where there is one
unfoldable pub number_behind : Option ℕ → LineWords → Result (Taken LineWords Bool) ThawKind
number_behind None words = Ok (taken true words)
number_behind (Some number) words = exact (decimal number) words

-- the name of a memory
abbrev pub memory_name : MemoryName → List ℕ
memory_name memory.Io = codes "io"
memory_name memory.Wram = codes "wram"
memory_name memory.Iwram = codes "iwram"
memory_name memory.Palette = codes "palette"
memory_name memory.Vram = codes "vram"
memory_name memory.Oam = codes "oam"
memory_name memory.Backup = codes "backup"

unfoldable pub memory_named : List ℕ → Option MemoryName
memory_named word =
    if bytes_eq word (codes "io") then Some memory.Io
    else if bytes_eq word (codes "wram") then Some memory.Wram
    else if bytes_eq word (codes "iwram") then Some memory.Iwram
    else if bytes_eq word (codes "palette") then Some memory.Palette
    else if bytes_eq word (codes "vram") then Some memory.Vram
    else if bytes_eq word (codes "oam") then Some memory.Oam
    else if bytes_eq word (codes "backup") then Some memory.Backup
    else None

abbrev pub memory_in : Taken LineWords (List ℕ) → Result (Taken LineWords MemoryName) ThawKind
memory_in t = or_refused kind.Spelling t.left (memory_named t.value)

unfoldable pub memory_at : LineWords → Result (Taken LineWords MemoryName) ThawKind
memory_at words = word_at words >>= memory_in

-- nothing follows
abbrev pub end_at : LineWords → Result Bool ThawKind
end_at words = no_more kind.Spelling words
