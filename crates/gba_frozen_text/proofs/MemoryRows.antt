-- The lines of memories may stand in a file, and make the memories again.
use Rattle.std.proofs.Common.{◌≡◌, ◌<◌, ◌≤◌, ℕ, zero, suc, ◌+◌, ◌*◌, ◌/◌, ◌%◌, ◌^◌, ◌==◌, Bool, true, false, cond, not, ◌&&◌, nat_lt, List, [], ◌∷◌, ◌++◌, length, take, drop, Option, Some, None, refl, ap, sym, ◌∙◌, append_assoc, arith}
use Rattle.std.specs.Prelude.{replicate}
use Rattle.std.proofs.lemmas.Bool.{eq-eqb, eqb-true, lt-ltb}
use Rattle.std.proofs.lemmas.Bool.Decides.{nat_tests}
use Rattle.std.proofs.lemmas.List.{append-nil, length-append, length-drop, length-take, nil_from_length}
use Rattle.gba_text.proofs.Spans.{first_of_all, negated, rest_of_all}
use Rattle.gba_image.specs.declared.backup.Backup.{Backup}
use Rattle.gba_image.specs.declared.backup.Backup.TheVariants as kind
use Rattle.gba_numbers.specs.declared.names.MemoryName.{MemoryName}
use Rattle.gba_numbers.specs.declared.names.MemoryName.TheVariants as memory
use Rattle.gba_frozen.specs.Lines.{all_zero}
use Rattle.gba_frozen.specs.Places.{is_behind, is_row_place, memory_length, memory_order}
use Rattle.gba_frozen.specs.declared.places.MemoryPlace.{MemoryPlace}
use Rattle.gba_frozen_print.specs.Laws.{AreBelow}
use Rattle.gba_frozen_text.specs.Laws.{AreRows}
use Rattle.gba_frozen_text.specs.Memories.{AreMemories, MemoriesAgain, memory_rows, memories, rows_in, rows_of, rows_of_all, with_row, with_rows}

-- each memory has whole lines, and fewer than an offset can say
lines-whole : (backup : Backup) (name : MemoryName) → memory_length backup name % 32 ≡ 0
lines-whole backup memory.Io = refl
lines-whole backup memory.Wram = refl
lines-whole backup memory.Iwram = refl
lines-whole backup memory.Palette = refl
lines-whole backup memory.Vram = refl
lines-whole backup memory.Oam = refl
lines-whole kind.Sram memory.Backup = refl
lines-whole kind.Flash64 memory.Backup = refl
lines-whole kind.Flash128 memory.Backup = refl

lines-few : (backup : Backup) (name : MemoryName) → memory_length backup name < 2 ^ 24
lines-few backup memory.Io = omega arith
lines-few backup memory.Wram = omega arith
lines-few backup memory.Iwram = omega arith
lines-few backup memory.Palette = omega arith
lines-few backup memory.Vram = omega arith
lines-few backup memory.Oam = omega arith
lines-few kind.Sram memory.Backup = omega arith
lines-few kind.Flash64 memory.Backup = omega arith
lines-few kind.Flash128 memory.Backup = omega arith

-- every later memory stands behind a line
Ends : Option MemoryPlace → MemoryName → Type 0
Ends last name = (next : MemoryName) (o : ℕ) → memory_order name < memory_order next
    → is_behind last (record { name = next; offset = o }) ≡ true

-- so does the same memory from an offset on
Below : Option MemoryPlace → MemoryName → ℕ → Type 0
Below last name offset = (o : ℕ) → offset ≤ o → is_behind last (record { name = name; offset = o }) ≡ true

row-ends : (name : MemoryName) (offset : ℕ) → Ends (Some (record { name = name; offset = offset })) name
unfolding Ends is_behind
row-ends name offset next o less =
    let behind : nat_lt (memory_order name) (memory_order next) ≡ true =
    lt-ltb (memory_order name) (memory_order next) less in
    rw behind refl

row-below : (name : MemoryName) (offset : ℕ) → Below (Some (record { name = name; offset = offset })) name (offset + 32)
unfolding Below is_behind
row-below name offset o less =
    let not_less : nat_lt (memory_order name) (memory_order name) ≡ false = grind (arith, nat_tests) in
    let same : (memory_order name == memory_order name) ≡ true = grind (arith, nat_tests) in
    let higher : nat_lt offset o ≡ true = grind (arith, nat_tests) in
    rw (not_less, same, higher) refl

below-take : (k : ℕ) (xs : List ℕ) → AreBelow 2 xs → AreBelow 2 (take k xs)
unfolding AreBelow
below-take zero xs h = tt
below-take (suc k) [] h = tt
below-take (suc k) (x ∷ xs) h = (h.0, below-take k xs h.1)

below-drop : (k : ℕ) (xs : List ℕ) → AreBelow 2 xs → AreBelow 2 (drop k xs)
unfolding AreBelow
below-drop zero xs h = h
below-drop (suc k) [] h = tt
below-drop (suc k) (x ∷ xs) h = below-drop k xs h.1

rows-stand : (backup : Backup) (name : MemoryName) (offset count : ℕ) (bytes : List ℕ) (last : Option MemoryPlace)
    (rest : List (MemoryPlace × List ℕ)) → Ends last name → Below last name offset → offset % 32 ≡ 0
    → offset + 32 * count ≤ memory_length backup name → length bytes ≡ 32 * count → AreBelow 2 bytes
    → ((l : Option MemoryPlace) → Ends l name → AreRows backup l rest)
    → AreRows backup last (rows_in name offset count bytes ++ rest)
unfolding rows_in AreRows Below is_row_place
rows-stand backup name offset zero bytes last rest ends below even few long are more = more last ends
rows-stand backup name offset (suc count) bytes last rest ends below even few long are more =
    by_zero (all_zero (take 32 bytes)) refl
    (λ l e b. rows-stand backup name (offset + 32) count (drop 32 bytes) l rest e b (omega arith)
    (omega arith) (omega (arith, length-drop {A = ℕ})) (below-drop 32 bytes are) more) where
      next : List (MemoryPlace × List ℕ)
      next = rows_in name (offset + 32) count (drop 32 bytes)

      by_zero : (z : Bool) → all_zero (take 32 bytes) ≡ z
          → ((l : Option MemoryPlace) → Ends l name → Below l name (offset + 32) → AreRows backup l (next ++ rest))
          → AreRows backup last (cond z next ((record { name = name; offset = offset }, take 32 bytes) ∷ next) ++ rest)
      by_zero true e go = go last ends (λ o high. below o (omega arith))
      by_zero false e go =
          let aligned : (offset % 32 == 0) ≡ true = eq-eqb (offset % 32) 0 even in
          let inside : nat_lt offset (memory_length backup name) ≡ true =
          lt-ltb offset (memory_length backup name) (omega arith) in (
            omega (arith, length-take {A = ℕ}),
            below-take 32 bytes are,
            e,
            omega (arith, lines-few backup name),
            below offset (omega arith),
            rw (aligned, inside) refl,
            go (Some (record { name = name; offset = offset })) (row-ends name offset) (row-below name offset),
          )

-- the lines of one memory, and what follows them
one-stands : (backup : Backup) (bytes : MemoryName → List ℕ) (name : MemoryName) (last : Option MemoryPlace)
    (rest : List (MemoryPlace × List ℕ)) → AreMemories backup bytes → Ends last name → Below last name 0
    → ((l : Option MemoryPlace) → Ends l name → AreRows backup l rest)
    → AreRows backup last (rows_of backup bytes name ++ rest)
unfolding rows_of
one-stands backup bytes name last rest are ends below more =
    let whole = lines-whole backup name in
    rows-stand backup name 0 (memory_length backup name / 32) (bytes name) last rest ends below (omega arith)
    (omega arith) (omega (arith, are.long name)) (are.small name) more

-- behind the lines of a memory
then-ends : (last : Option MemoryPlace) (name next : MemoryName) → memory_order name < memory_order next
    → Ends last name → Ends last next
unfolding Ends
then-ends last name next less h later o more = h later o (omega arith)

then-below : (last : Option MemoryPlace) (name next : MemoryName) → memory_order name < memory_order next
    → Ends last name → Below last next 0
unfolding Ends Below
then-below last name next less h o high = h next o less

none-ends : (name : MemoryName) → Ends None name
unfolding Ends is_behind
none-ends name next o less = refl

none-below : (name : MemoryName) → Below None name 0
unfolding Below is_behind
none-below name o high = refl

next-stands : (backup : Backup) (bytes : MemoryName → List ℕ) (before name : MemoryName)
    (rest : List (MemoryPlace × List ℕ)) → memory_order before < memory_order name → AreMemories backup bytes
    → ((l : Option MemoryPlace) → Ends l name → AreRows backup l rest)
    → (l : Option MemoryPlace) → Ends l before → AreRows backup l (rows_of backup bytes name ++ rest)
next-stands backup bytes before name rest less are more l ends =
    one-stands backup bytes name l rest are (then-ends l before name less ends)
    (then-below l before name less ends) more

nothing-stands : (backup : Backup) (name : MemoryName) (l : Option MemoryPlace) → Ends l name → AreRows backup l []
unfolding AreRows
nothing-stands backup name l ends = tt

pub stand : (backup : Backup) (bytes : MemoryName → List ℕ) → AreMemories backup bytes
    → AreRows backup None (memory_rows backup bytes)
unfolding rows_of_all
stand backup bytes are =
    one-stands backup bytes memory.Io None _ are (none-ends memory.Io) (none-below memory.Io)
    (next-stands backup bytes memory.Io memory.Wram _ (omega arith) are
    (next-stands backup bytes memory.Wram memory.Iwram _ (omega arith) are
    (next-stands backup bytes memory.Iwram memory.Palette _ (omega arith) are
    (next-stands backup bytes memory.Palette memory.Vram _ (omega arith) are
    (next-stands backup bytes memory.Vram memory.Oam _ (omega arith) are
    (next-stands backup bytes memory.Oam memory.Backup [] (omega arith) are (nothing-stands backup memory.Backup)))))))

-- bytes in front of others
split : (k : ℕ) (xs : List ℕ) → take k xs ++ drop k xs ≡ xs
split zero xs = refl
split (suc k) [] = refl
split (suc k) (x ∷ xs) = ap (λ (t : List ℕ). x ∷ t) (split k xs)

take_front : (front rest : List ℕ) → take (length front) (front ++ rest) ≡ front
take_front [] rest = refl
take_front (x ∷ front) rest = ap (λ (t : List ℕ). x ∷ t) (take_front front rest)

drop_front : (front rest : List ℕ) → drop (length front) (front ++ rest) ≡ rest
drop_front [] rest = refl
drop_front (x ∷ front) rest = drop_front front rest

abbrev zeros : ℕ → List ℕ
zeros k = replicate k 0

zeros_more : (k l : ℕ) → zeros (k + l) ≡ zeros k ++ zeros l
zeros_more zero l = ap zeros (omega arith)
zeros_more (suc k) l =
    let next : suc k + l ≡ suc (k + l) = omega arith in
    ap zeros next ∙ ap (λ (t : List ℕ). 0 ∷ t) (zeros_more k l)

zeros_count : (k : ℕ) → length (zeros k) ≡ k
zeros_count zero = refl
zeros_count (suc k) = ap suc (zeros_count k)

zeros_only : (xs : List ℕ) → all_zero xs ≡ true → xs ≡ replicate (length xs) 0
zeros_only [] h = refl
zeros_only (x ∷ xs) h =
    let first : x ≡ 0 = eqb-true x 0 (first_of_all (x == 0) (all_zero xs) h) in
    ap (λ (v : ℕ). v ∷ xs) first ∙ ap (λ (t : List ℕ). 0 ∷ t) (zeros_only xs (rest_of_all (x == 0) (all_zero xs) h))

-- one line replaces bytes 0
row-put : (name : MemoryName) (offset : ℕ) (front line rest : List ℕ) (count : ℕ) → length front ≡ offset
    → length line ≡ count
    → with_row name (record { name = name; offset = offset }, line) (front ++ (replicate count 0 ++ rest))
    ≡ (front ++ line) ++ rest
unfolding with_row
row-put name offset front line rest count at long =
    let same : (memory_order name == memory_order name) ≡ true = grind (arith, nat_tests) in
    let all : List ℕ = front ++ (replicate count 0 ++ rest) in
    let before : take offset all ≡ front =
    ap (λ k. take k all) (sym at) ∙ take_front front (replicate count 0 ++ rest) in
    let end : offset + length line ≡ length (front ++ replicate count 0) =
    omega (arith, at, long, length-append front (replicate count 0), zeros_count count) in
    let behind : drop (offset + length line) all ≡ rest =
    ap (λ k. drop k all) end
    ∙ ap (drop (length (front ++ replicate count 0))) (sym (append_assoc front (replicate count 0) rest))
    ∙ drop_front (front ++ replicate count 0) rest in
    rw (same, before, behind) refl

rows-put : (name : MemoryName) (offset count : ℕ) (front bytes : List ℕ) → length front ≡ offset
    → length bytes ≡ 32 * count
    → with_rows name (rows_in name offset count bytes) (front ++ replicate (32 * count) 0) ≡ front ++ bytes
unfolding rows_in with_rows
rows-put name offset zero front bytes at long =
    ap (λ (t : List ℕ). front ++ t) (sym (nil_from_length bytes (omega arith)))
rows-put name offset (suc count) front bytes at long =
    by_zero (all_zero (take 32 bytes)) refl
    (λ f h. rows-put name (offset + 32) count f (drop 32 bytes) h (omega (arith, length-drop {A = ℕ}))) where
      next : List (MemoryPlace × List ℕ)
      next = rows_in name (offset + 32) count (drop 32 bytes)

      line : List ℕ
      line = take 32 bytes

      left : List ℕ
      left = zeros (32 * count)

      made : length line ≡ 32
      made = omega (arith, length-take {A = ℕ})

      further : length (front ++ line) ≡ offset + 32
      further = omega (arith, length-append front line, made, at)

      more : zeros (32 * suc count) ≡ zeros 32 ++ left
      more = ap zeros (omega arith) ∙ zeros_more 32 (32 * count)

      whole : (front ++ line) ++ drop 32 bytes ≡ front ++ bytes
      whole = append_assoc front line (drop 32 bytes) ∙ ap (λ (t : List ℕ). front ++ t) (split 32 bytes)

      by_zero : (z : Bool) → all_zero line ≡ z
          → ((f : List ℕ) → length f ≡ offset + 32 → with_rows name next (f ++ left) ≡ f ++ drop 32 bytes)
          → with_rows name (cond z next ((record { name = name; offset = offset }, line) ∷ next))
          (front ++ replicate (32 * suc count) 0)
          ≡ front ++ bytes
      by_zero true e go =
          let none : zeros 32 ≡ line = ap zeros (sym made) ∙ sym (zeros_only line e) in
          ap (λ (t : List ℕ). with_rows name next (front ++ t)) (more ∙ ap (λ (t : List ℕ). t ++ left) none)
          ∙ ap (with_rows name next) (sym (append_assoc front line left)) ∙ go (front ++ line) further ∙ whole
      by_zero false e go =
          ap (λ (t : List ℕ). with_rows name next
          (with_row name (record { name = name; offset = offset }, line) (front ++ t))) more
          ∙ ap (with_rows name next) (row-put name offset front line left 32 at made) ∙ go (front ++ line) further
          ∙ whole

-- lines of another memory change nothing
row-passes : (name other : MemoryName) (offset : ℕ) (line all : List ℕ)
    → (memory_order name == memory_order other) ≡ false
    → with_row name (record { name = other; offset = offset }, line) all ≡ all
unfolding with_row
row-passes name other offset line all apart = rw apart refl

rows-pass : (name other : MemoryName) (offset count : ℕ) (bytes all : List ℕ)
    → (memory_order name == memory_order other) ≡ false → with_rows name (rows_in other offset count bytes) all ≡ all
unfolding rows_in with_rows
rows-pass name other offset zero bytes all apart = refl
rows-pass name other offset (suc count) bytes all apart =
    by_zero (all_zero (take 32 bytes)) (rows-pass name other (offset + 32) count (drop 32 bytes) all apart) where
      next : List (MemoryPlace × List ℕ)
      next = rows_in other (offset + 32) count (drop 32 bytes)

      by_zero : (z : Bool) → with_rows name next all ≡ all
          → with_rows name (cond z next ((record { name = other; offset = offset }, take 32 bytes) ∷ next)) all ≡ all
      by_zero true rest = rest
      by_zero false rest = ap (with_rows name next) (row-passes name other offset (take 32 bytes) all apart) ∙ rest

with_rows-both : (name : MemoryName) (one other : List (MemoryPlace × List ℕ)) (all : List ℕ)
    → with_rows name (one ++ other) all ≡ with_rows name other (with_rows name one all)
unfolding with_rows
with_rows-both name [] other all = refl
with_rows-both name (line ∷ one) other all = with_rows-both name one other (with_row name line all)

-- what a list of lines makes of a memory, where the lines of one memory come first
passed : (backup : Backup) (bytes : MemoryName → List ℕ) (name other : MemoryName) (rest : List (MemoryPlace × List ℕ))
    (all : List ℕ) → (memory_order name == memory_order other) ≡ false
    → with_rows name (rows_of backup bytes other ++ rest) all ≡ with_rows name rest all
unfolding rows_of
passed backup bytes name other rest all apart =
    with_rows-both name (rows_in other 0 (memory_length backup other / 32) (bytes other)) rest all
    ∙ ap (with_rows name rest) (rows-pass name other 0 (memory_length backup other / 32) (bytes other) all apart)

put : (backup : Backup) (bytes : MemoryName → List ℕ) (name : MemoryName) (rest : List (MemoryPlace × List ℕ))
    → AreMemories backup bytes
    → with_rows name (rows_of backup bytes name ++ rest) (replicate (memory_length backup name) 0)
    ≡ with_rows name rest (bytes name)
unfolding rows_of
put backup bytes name rest are =
    let count : ℕ = memory_length backup name / 32 in
    let whole = lines-whole backup name in
    let long : length (bytes name) ≡ 32 * count = omega (arith, are.long name) in
    let same : zeros (memory_length backup name) ≡ zeros (32 * count) = ap zeros (omega arith) in
    with_rows-both name (rows_in name 0 count (bytes name)) rest (replicate (memory_length backup name) 0)
    ∙ ap (λ (t : List ℕ). with_rows name rest (with_rows name (rows_in name 0 count (bytes name)) t)) same
    ∙ ap (with_rows name rest) (rows-put name 0 count [] (bytes name) refl long)

-- memories that are none of this name
abbrev none_of : MemoryName → List MemoryName → Bool
none_of name [] = true
none_of name (other ∷ names) = not (memory_order name == memory_order other) && none_of name names

pass-all : (backup : Backup) (bytes : MemoryName → List ℕ) (name : MemoryName) (before after : List MemoryName)
    (all : List ℕ) → none_of name before ≡ true
    → with_rows name (rows_of_all backup bytes (before ++ after)) all
    ≡ with_rows name (rows_of_all backup bytes after) all
unfolding rows_of_all
pass-all backup bytes name [] after all h = refl
pass-all backup bytes name (other ∷ before) after all h =
    let apart : (memory_order name == memory_order other) ≡ false =
    negated (memory_order name == memory_order other)
    (first_of_all (not (memory_order name == memory_order other)) (none_of name before) h) in
    passed backup bytes name other (rows_of_all backup bytes (before ++ after)) all apart
    ∙ pass-all backup bytes name before after all
    (rest_of_all (not (memory_order name == memory_order other)) (none_of name before) h)

found : (backup : Backup) (bytes : MemoryName → List ℕ) (name : MemoryName) (before after : List MemoryName)
    → AreMemories backup bytes → none_of name before ≡ true → none_of name after ≡ true
    → with_rows name (rows_of_all backup bytes (before ++ name ∷ after)) (replicate (memory_length backup name) 0)
    ≡ bytes name
unfolding rows_of_all with_rows
found backup bytes name before after are h k =
    pass-all backup bytes name before (name ∷ after) (zeros (memory_length backup name)) h
    ∙ put backup bytes name (rows_of_all backup bytes after) are
    ∙ ap (λ names. with_rows name (rows_of_all backup bytes names) (bytes name)) (sym (append-nil after))
    ∙ pass-all backup bytes name after [] (bytes name) k

pub made_again : (backup : Backup) (bytes : MemoryName → List ℕ) (name : MemoryName) → AreMemories backup bytes
    → with_rows name (memory_rows backup bytes) (replicate (memory_length backup name) 0) ≡ bytes name
made_again backup bytes memory.Io are = found backup bytes memory.Io [] (drop 1 memories) are refl refl
made_again backup bytes memory.Wram are =
    found backup bytes memory.Wram (take 1 memories) (drop 2 memories) are refl refl
made_again backup bytes memory.Iwram are =
    found backup bytes memory.Iwram (take 2 memories) (drop 3 memories) are refl refl
made_again backup bytes memory.Palette are =
    found backup bytes memory.Palette (take 3 memories) (drop 4 memories) are refl refl
made_again backup bytes memory.Vram are =
    found backup bytes memory.Vram (take 4 memories) (drop 5 memories) are refl refl
made_again backup bytes memory.Oam are = found backup bytes memory.Oam (take 5 memories) (drop 6 memories) are refl refl
made_again backup bytes memory.Backup are = found backup bytes memory.Backup (take 6 memories) [] are refl refl

pub memories-again : MemoriesAgain
memories-again = record { stand = stand; again = made_again }
