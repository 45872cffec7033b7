-- Lines of memories, one after another.
use Rattle.std.proofs.Common.{◌≡◌, ◌<◌, ◌≤◌, ℕ, zero, suc, ◌+◌, ◌%◌, ◌==◌, Bool, true, false, cond, ◌&&◌, nat_lt, List, [], ◌∷◌, ◌++◌, length, take, drop, refl, ap, sym, ◌∙◌, arith}
use Rattle.std.specs.Prelude.{replicate, slice_index_or, slice_set}
use Rattle.std.proofs.lemmas.Bool.Decides.{nat_tests}
use Rattle.std.proofs.lemmas.Bool.{eq-eqb, eqb-true}
use Rattle.std.proofs.lemmas.List.{get_or-set_other, get_or-set_same, length-append, length-drop, length-replicate, length-take}
use Rattle.gba_text.proofs.Spans.{first_of_all, rest_of_all}
use Rattle.gba_flash.specs.Replacing.{with_bytes}
use Rattle.gba_image.specs.declared.backup.Backup.{Backup}
use Rattle.gba_image.specs.declared.backup.Backup.TheVariants as kind
use Rattle.gba_numbers.specs.declared.names.MemoryName.{MemoryName}
use Rattle.gba_numbers.specs.declared.names.MemoryName.TheVariants as memory
use Rattle.gba_frozen.specs.Places.{is_row_place, memory_length, memory_order}
use Rattle.gba_frozen.specs.declared.places.MemoryPlace.{MemoryPlace}
use Rattle.gba_frozen_text.specs.Memories.{with_row, with_rows}
use Rattle.gba_filling.specs.Memories.{AreFrom, HaveLengths, bytes_of, with_memory}

-- the memories before any line
pub none-put : (backup : Backup) (memories : List (List ℕ))
    → ((name : MemoryName) → bytes_of name memories ≡ replicate (memory_length backup name) 0)
    → AreFrom backup [] memories
unfolding with_rows
none-put backup memories zeros = record {
  long = λ name. ap length (zeros name) ∙ length-replicate (memory_length backup name) 0;
  bytes = zeros;
}

-- a line more
rows-more : (name : MemoryName) (rows : List (MemoryPlace × List ℕ)) (row : MemoryPlace × List ℕ) (bytes : List ℕ)
    → with_rows name (rows ++ row ∷ []) bytes ≡ with_row name row (with_rows name rows bytes)
unfolding with_rows
rows-more name [] row bytes = refl
rows-more name (first ∷ rows) row bytes = rows-more name rows row (with_row name first bytes)

-- each memory has whole lines
lines-whole : (backup : Backup) (name : MemoryName) → memory_length backup name % 32 ≡ 0
lines-whole backup memory.Io = refl
lines-whole backup memory.Wram = refl
lines-whole backup memory.Iwram = refl
lines-whole backup memory.Palette = refl
lines-whole backup memory.Vram = refl
lines-whole backup memory.Oam = refl
lines-whole kind.Sram memory.Backup = refl
lines-whole kind.Flash64 memory.Backup = refl
lines-whole kind.Flash128 memory.Backup = refl

within : (offset long : ℕ) → long % 32 ≡ 0 → ((offset % 32 == 0) && nat_lt offset long) ≡ true → offset + 32 ≤ long
within offset long whole h =
    let first = first_of_all (offset % 32 == 0) (nat_lt offset long) h in
    let rest = rest_of_all (offset % 32 == 0) (nat_lt offset long) h in
    let aligned : offset % 32 ≡ 0 = eqb-true (offset % 32) 0 first in
    let below : offset < long = grind (arith, nat_tests) in
    omega arith

-- a line ends within its memory
pub row-within : (backup : Backup) (place : MemoryPlace) (rows : List (MemoryPlace × List ℕ)) (memories : List (List ℕ))
    → AreFrom backup rows memories → is_row_place backup place ≡ true
    → place.offset + 32 ≤ length (bytes_of place.name memories)
unfolding is_row_place
row-within backup place rows memories from h =
    let fits = within place.offset (memory_length backup place.name) (lines-whole backup place.name) h in
    omega (arith, from.long place.name)

-- a memory that has a byte is one of them
order-below : (memories : List (List ℕ)) (order : ℕ) → 0 < length (slice_index_or memories order [])
    → order < length memories
order-below [] order some = absurd (omega arith)
order-below (first ∷ memories) zero some = omega arith
order-below (first ∷ memories) (suc order) some = omega (arith, order-below memories order some)

put-length : (place : ℕ) (new bytes : List ℕ) → place + length new ≤ length bytes
    → length (with_bytes place new bytes) ≡ length bytes
put-length place new bytes inside =
    omega (
      arith,
      length-append (take place bytes ++ new) (drop (place + length new) bytes),
      length-append (take place bytes) new,
      length-take place bytes,
      length-drop (place + length new) bytes,
    )

-- what the bytes of a line leave of each memory
put-bytes : (place : MemoryPlace) (new : List ℕ) (memories : List (List ℕ)) (name : MemoryName)
    → memory_order place.name < length memories
    → bytes_of name (with_memory place new memories) ≡ with_row name (place, new) (bytes_of name memories)
unfolding with_row
put-bytes place new memories name below = by_test (memory_order name == memory_order place.name) refl where
  put : List ℕ
  put = with_bytes place.offset new (bytes_of place.name memories)

  by_test : (b : Bool) → (memory_order name == memory_order place.name) ≡ b
      → bytes_of name (slice_set memories (memory_order place.name) put)
      ≡ cond b (with_bytes place.offset new (bytes_of name memories)) (bytes_of name memories)
  by_test true e =
      let same : memory_order name ≡ memory_order place.name =
      eqb-true (memory_order name) (memory_order place.name) e in
      ap (λ (order : ℕ). slice_index_or (slice_set memories (memory_order place.name) put) order []) same
      ∙ get_or-set_same memories (memory_order place.name) put [] below
      ∙ ap (λ (order : ℕ). with_bytes place.offset new (slice_index_or memories order [])) (sym same)
  by_test false e =
      get_or-set_other memories (memory_order place.name) (memory_order name) put []
      (λ (same : memory_order name ≡ memory_order place.name).
      absurd (cc (e, eq-eqb (memory_order name) (memory_order place.name) same)))

with_row-length : (name : MemoryName) (place : MemoryPlace) (new bytes : List ℕ)
    → (memory_order name ≡ memory_order place.name → place.offset + length new ≤ length bytes)
    → length (with_row name (place, new) bytes) ≡ length bytes
unfolding with_row
with_row-length name place new bytes inside = by_test (memory_order name == memory_order place.name) refl where
  by_test : (b : Bool) → (memory_order name == memory_order place.name) ≡ b
      → length (cond b (with_bytes place.offset new bytes) bytes) ≡ length bytes
  by_test true e = put-length place.offset new bytes (inside (eqb-true (memory_order name) (memory_order place.name) e))
  by_test false e = refl

-- the bytes of a line within a memory leave each its length
put-long : (place : MemoryPlace) (new : List ℕ) (memories : List (List ℕ)) (name : MemoryName)
    → memory_order place.name < length memories
    → place.offset + length new ≤ length (bytes_of place.name memories)
    → length (bytes_of name (with_memory place new memories)) ≡ length (bytes_of name memories)
put-long place new memories name below inside =
    ap length (put-bytes place new memories name below)
    ∙ with_row-length name place new (bytes_of name memories)
    (λ (same : memory_order name ≡ memory_order place.name).
    let there : bytes_of name memories ≡ bytes_of place.name memories =
    ap (λ (order : ℕ). slice_index_or memories order []) same in
    let long : place.offset + length new ≤ length (bytes_of name memories) = omega (arith, ap length there) in long)

-- each memory of a console has bytes
some-bytes : (backup : Backup) (name : MemoryName) → 0 < memory_length backup name
some-bytes backup memory.Io = omega arith
some-bytes backup memory.Wram = omega arith
some-bytes backup memory.Iwram = omega arith
some-bytes backup memory.Palette = omega arith
some-bytes backup memory.Vram = omega arith
some-bytes backup memory.Oam = omega arith
some-bytes kind.Sram memory.Backup = omega arith
some-bytes kind.Flash64 memory.Backup = omega arith
some-bytes kind.Flash128 memory.Backup = omega arith

pub lengths-kept : (backup : Backup) (place : MemoryPlace) (new : List ℕ) (memories : List (List ℕ))
    → place.offset + length new ≤ length (bytes_of place.name memories) → HaveLengths backup memories
    → HaveLengths backup (with_memory place new memories)
lengths-kept backup place new memories inside long name =
    let below : memory_order place.name < length memories =
    order-below memories (memory_order place.name) (omega (arith, some-bytes backup place.name, long place.name)) in
    put-long place new memories name below inside ∙ long name

-- one line more
pub put-more : (backup : Backup) (rows : List (MemoryPlace × List ℕ)) (place : MemoryPlace) (new : List ℕ)
    (memories : List (List ℕ))
    → length new ≡ 32 → is_row_place backup place ≡ true → AreFrom backup rows memories
    → AreFrom backup (rows ++ (place, new) ∷ []) (with_memory place new memories)
put-more backup rows place new memories count is h =
    let inside : place.offset + 32 ≤ length (bytes_of place.name memories) =
    row-within backup place rows memories h is in
    let below : memory_order place.name < length memories =
    order-below memories (memory_order place.name) (omega arith) in
    record {
      long = lengths-kept backup place new memories (omega arith) h.long;
      bytes = λ name. put-bytes place new memories name below
          ∙ ap (λ (bytes : List ℕ). with_row name (place, new) bytes) (h.bytes name)
          ∙ sym (rows-more name rows (place, new) (replicate (memory_length backup name) 0));
    }
