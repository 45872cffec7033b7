-- What is printed is read again as it was.
use Rattle.std.proofs.Common.{◌≡◌, ℕ, zero, suc, ◌*◌, ◌/◌, ◌%◌, ◌^◌, ◌<◌, ◌==◌, true, false, nat_le, nat_lt, List, [], ◌∷◌, ◌++◌, length, Ok, refl, ap, sym, ◌∙◌, append_assoc, arith}
use Rattle.std.specs.Prelude.{codes, decimal}
use Rattle.std.specs.List.{list_all}
use Rattle.std.specs.Str.{bytes_eq}
use Rattle.std.proofs.lemmas.Bool.{le-leb, lt-ltb}
use Rattle.std.proofs.lemmas.Bool.Decides.{nat_tests}
use Rattle.std.proofs.lemmas.List.{append-nil}
use Rattle.gba_terms.specs.Hexadecimal.{hex}
use Rattle.gba_text.specs.Steps.{taken}
use Rattle.gba_frozen.specs.Spelling.{hex_all, numbers_in, spelled}
use Rattle.gba_frozen.specs.Words.{LineWords, decimal_at, exact, hex_at, numbers_at, value_at, values_at}
use Rattle.gba_frozen.specs.Rows.{spelled_all}
use Rattle.gba_frozen.specs.declared.rows.Spelling.{Spelling}
use Rattle.gba_frozen.specs.declared.rows.Spelling.TheVariants.{Decimal, Word}
use Rattle.link_node.specs.Packing.{packed_head, packed_words}
use Rattle.gba_numbers.specs.declared.names.MemoryName.{MemoryName}
use Rattle.gba_numbers.specs.declared.names.MemoryName.TheVariants as memory
use Rattle.gba_frozen.specs.Lines.{are_bytes, digest_line, drawn_said, memory_said, queue_name, queue_said, signal_said, wave_said}
use Rattle.gba_frozen_print.specs.Printed.{long_digits, queue_word}
use Rattle.gba_frozen.specs.Words.{memory_at, memory_name, memory_named}
use Rattle.gba_frozen_print.specs.Laws.{DigestAgain, WavesAgain, QueuesAgain, MemoryAgain, DrawnAgain, SignalsAgain, AreBelow, AreSpellable, is_spellable}
use Rattle.gba_frozen.proofs.LinePieces.{AreWords, are_more, are_none, no_space, pieces-joined}
use Rattle.gba_frozen.proofs.Loops.{numbers_in-none}
use Rattle.gba_frozen_print.proofs.SpelledAgain.{decimal_said-again, hex_said-again, no_space-decimal, no_space-digits, hex-digits, hex_all-digits, length-hex_all, numbers_in-again, numbers_said-again}

pub same_bytes : (word : List ℕ) → bytes_eq word word ≡ true
same_bytes [] = refl
same_bytes (b ∷ word) =
    let here : (b == b) ≡ true = grind (arith, nat_tests) in
    let rest = same_bytes word in
    rw (here, rest) refl

pub exact-again : (word : List ℕ) (rest : LineWords) → exact word (word ∷ rest) ≡ Ok (taken true rest)
unfolding exact
exact-again word rest = let same = same_bytes word in rw same refl

pub decimal-again : (n : ℕ) (rest : LineWords) → n < 2 ^ 64 → decimal_at (decimal n ∷ rest) ≡ Ok (taken n rest)
unfolding decimal_at
decimal-again n rest small = let said = decimal_said-again n small in rw said refl

pub hex-again : (count n : ℕ) (rest : LineWords) → n < 2 ^ (4 * count)
    → hex_at count (hex count n ∷ rest) ≡ Ok (taken n rest)
unfolding hex_at
hex-again count n rest small = let said = hex_said-again count n small in rw said refl

pub numbers-again : (width : ℕ) (ns : List ℕ) (rest : LineWords) → AreBelow width ns
    → numbers_at width (length ns) (hex_all width ns ∷ rest) ≡ Ok (taken ns rest)
unfolding numbers_at
numbers-again width ns rest are = let said = numbers_said-again width ns are in rw said refl

pub value-again : (spelling : Spelling) (n : ℕ) (rest : LineWords) → is_spellable spelling n ≡ true
    → value_at spelling (spelled spelling n ∷ rest) ≡ Ok (taken n rest)
unfolding value_at
value-again Decimal n rest small = let said = decimal_said-again n (grind (arith, nat_tests)) in rw said refl
value-again Word n rest small = let said = hex_said-again 8 n (grind (arith, nat_tests)) in rw said refl

pub no_space-spelled : (spelling : Spelling) (n : ℕ) → is_spellable spelling n ≡ true
    → list_all no_space (spelled spelling n) ≡ true
no_space-spelled Decimal n small = no_space-decimal n (grind (arith, nat_tests))
no_space-spelled Word n small = no_space-digits (hex 8 n) (hex-digits 8 n)

pub values-again : (spelling : Spelling) (front values : List ℕ) → AreSpellable spelling values
    → values_at spelling (length values) front (spelled_all spelling values) ≡ Ok (taken (front ++ values) [])
unfolding AreSpellable values_at
values-again spelling front [] are = ap (λ t. Ok (taken t [])) (sym (append-nil front))
values-again spelling front (value ∷ values) are =
    let first = value-again spelling value (spelled_all spelling values) are.0 in
    rw first (values-again spelling (front ++ value ∷ []) values are.1
    ∙ ap (λ t. Ok (taken t [])) (append_assoc front (value ∷ []) values))

pub are_words-spelled : (spelling : Spelling) (values : List ℕ) → AreSpellable spelling values
    → AreWords (spelled_all spelling values)
unfolding AreSpellable
are_words-spelled spelling [] are = are_none
are_words-spelled spelling (value ∷ values) are =
    are_more (spelled spelling value) (spelled_all spelling values) (no_space-spelled spelling value are.0)
    (are_words-spelled spelling values are.1)

-- one word of digits, and others
digits_words : (width : ℕ) (ns : List ℕ) → AreWords (hex_all width ns ∷ [])
digits_words width ns =
    are_more (hex_all width ns) [] (no_space-digits (hex_all width ns) (hex_all-digits width ns)) are_none

counted : (width count : ℕ) (ns : List ℕ) (rest : LineWords) → length ns ≡ count → AreBelow width ns
    → numbers_at width count (hex_all width ns ∷ rest) ≡ Ok (taken ns rest)
counted width count ns rest long are =
    ap (λ c. numbers_at width c (hex_all width ns ∷ rest)) (sym long) ∙ numbers-again width ns rest are

-- the digest of the job
pub digest-again : DigestAgain
unfolding digest_line
digest-again digest long are =
    let words = hex_all 2 digest ∷ [] in
    let k = exact-again (codes "job") words in
    let d = counted 2 32 digest [] long are in
    let same = same_bytes digest in
    ap (digest_line digest) (pieces-joined (codes "job") words refl (digits_words 2 digest)) ∙ rw (k, d, same) refl

-- a bank of the wave
pub waves-again : WavesAgain
unfolding wave_said
waves-again bank bytes two long are =
    let rest = hex_all 2 bytes ∷ [] in
    let words = decimal bank ∷ rest in
    let k = exact-again (codes "wave") words in
    let n = exact-again (decimal bank) rest in
    let b = counted 2 16 bytes [] long are in
    ap (wave_said bank)
    (pieces-joined (codes "wave") words refl
    (are_more (decimal bank) rest (no_space-decimal bank (omega arith)) (digits_words 2 bytes)))
    ∙ rw (k, n, b) refl

-- the bytes of a queue
no_space-queue_word : (bytes : List ℕ) → list_all no_space (queue_word bytes) ≡ true
no_space-queue_word [] = refl
no_space-queue_word (b ∷ bytes) =
    let some : (length (b ∷ bytes) == 0) ≡ false = grind (arith, nat_tests) in
    rw some (no_space-digits (hex_all 2 (b ∷ bytes)) (hex_all-digits 2 (b ∷ bytes)))

are_bytes-again : (bytes : List ℕ) → are_bytes (length bytes) (queue_word bytes) ≡ true
unfolding are_bytes
are_bytes-again [] = refl
are_bytes-again (b ∷ bytes) =
    let some : (length (b ∷ bytes) == 0) ≡ false = grind (arith, nat_tests) in
    let all = hex_all-digits 2 (b ∷ bytes) in
    let long = length-hex_all 2 (b ∷ bytes) in
    let even : (length (hex_all 2 (b ∷ bytes)) % 2 == 0) ≡ true = grind (arith, nat_tests, long) in
    let half : (length (hex_all 2 (b ∷ bytes)) / 2 == length (b ∷ bytes)) ≡ true = grind (arith, nat_tests, long) in
    rw (some, even, half, all) refl

queue_bytes-again : (bytes : List ℕ) → AreBelow 2 bytes → numbers_in 2 (length bytes) (queue_word bytes) ≡ bytes
queue_bytes-again [] are = numbers_in-none 2 0 (queue_word []) refl
queue_bytes-again (b ∷ bytes) are =
    let some : (length (b ∷ bytes) == 0) ≡ false = grind (arith, nat_tests) in
    rw some (numbers_in-again 2 (b ∷ bytes) are)

no_space-queue_name : (queue : ℕ) → list_all no_space (queue_name queue) ≡ true
no_space-queue_name zero = refl
no_space-queue_name (suc queue) =
    let some : (suc queue == 0) ≡ false = grind (arith, nat_tests) in
    rw some refl

pub queues-again : QueuesAgain
unfolding queue_said
queues-again queue current bytes two small few are =
    let last = queue_word bytes ∷ [] in
    let count = decimal (length bytes) ∷ last in
    let now = hex 2 current ∷ count in
    let words = queue_name queue ∷ now in
    let long : length bytes < 2 ^ 64 = omega arith in
    let k = exact-again (codes "queue") words in
    let l = exact-again (queue_name queue) now in
    let c = hex-again 2 current count small in
    let n = decimal-again (length bytes) last long in
    let held = are_bytes-again bytes in
    let fits : nat_le (length bytes) 32 ≡ true = le-leb (length bytes) 32 few in
    let same = queue_bytes-again bytes are in
    let all =
    are_more (queue_name queue) now (no_space-queue_name queue)
    (are_more (hex 2 current) count (no_space-digits (hex 2 current) (hex-digits 2 current))
    (are_more (decimal (length bytes)) last (no_space-decimal (length bytes) long)
    (are_more (queue_word bytes) [] (no_space-queue_word bytes) are_none))) in
    ap (queue_said queue) (pieces-joined (codes "queue") words refl all) ∙ rw (k, l, c, n, held, fits, same) refl

-- 32 bytes of a memory
pub memory_at-again : (name : MemoryName) (rest : LineWords)
    → memory_at (memory_name name ∷ rest) ≡ Ok (taken name rest)
unfolding memory_at memory_named
memory_at-again memory.Io rest = refl
memory_at-again memory.Wram rest = refl
memory_at-again memory.Iwram rest = refl
memory_at-again memory.Palette rest = refl
memory_at-again memory.Vram rest = refl
memory_at-again memory.Oam rest = refl
memory_at-again memory.Backup rest = refl

no_space-memory_name : (name : MemoryName) → list_all no_space (memory_name name) ≡ true
no_space-memory_name memory.Io = refl
no_space-memory_name memory.Wram = refl
no_space-memory_name memory.Iwram = refl
no_space-memory_name memory.Palette = refl
no_space-memory_name memory.Vram = refl
no_space-memory_name memory.Oam = refl
no_space-memory_name memory.Backup = refl

pub memory-again : MemoryAgain
unfolding memory_said
memory-again backup last place bytes long are some small behind within =
    let rest = hex_all 2 bytes ∷ [] in
    let offset = hex 6 place.offset ∷ rest in
    let words = memory_name place.name ∷ offset in
    let k = exact-again (codes "mem") words in
    let m = memory_at-again place.name offset in
    let o = hex-again 6 place.offset rest small in
    let b = counted 2 32 bytes [] long are in
    let all = are_more (memory_name place.name) offset (no_space-memory_name place.name)
    (are_more (hex 6 place.offset) rest (no_space-digits (hex 6 place.offset) (hex-digits 6 place.offset))
    (digits_words 2 bytes)) in
    ap (memory_said backup last) (pieces-joined (codes "mem") words refl all)
    ∙ rw (k, m, o, b, behind, some, within) refl

-- a drawn line
pub drawn-again : DrawnAgain
unfolding drawn_said
drawn-again last line colours long are low below =
    let rest = hex_all 4 colours ∷ [] in
    let words = decimal line ∷ rest in
    let k = exact-again (codes "drawn") words in
    let y = decimal-again line rest (omega arith) in
    let c = counted 4 240 colours [] long are in
    let fits : nat_lt line 159 ≡ true = lt-ltb line 159 low in
    ap (drawn_said last)
    (pieces-joined (codes "drawn") words refl
    (are_more (decimal line) rest (no_space-decimal line (omega arith)) (digits_words 4 colours)))
    ∙ rw (k, y, c, below, fits) refl

-- a live signal
pub signals-again : SignalsAgain
unfolding signal_said long_digits
signals-again consoles sender signal less few head words packed =
    let last = hex 16 (packed_words signal) ∷ [] in
    let first = hex 16 (packed_head signal) ∷ last in
    let all_words = decimal sender ∷ first in
    let small : sender < 2 ^ 64 = omega arith in
    let k = exact-again (codes "signal") all_words in
    let s = decimal-again sender first small in
    let a = hex-again 16 (packed_head signal) last head in
    let b = hex-again 16 (packed_words signal) [] words in
    let fits : nat_lt sender consoles ≡ true = lt-ltb sender consoles less in
    let all =
    are_more (decimal sender) first (no_space-decimal sender small)
    (are_more (hex 16 (packed_head signal)) last
    (no_space-digits (hex 16 (packed_head signal)) (hex-digits 16 (packed_head signal)))
    (are_more (hex 16 (packed_words signal)) []
    (no_space-digits (hex 16 (packed_words signal)) (hex-digits 16 (packed_words signal))) are_none)) in
    ap (signal_said consoles) (pieces-joined (codes "signal") all_words refl all) ∙ rw (k, s, a, b, fits, packed) refl
