use Rattle.std.specs.Prelude.{ℕ, Bool, nat_le, List, [], ◌∷◌, ◌++◌, drop, length, slice_index_or, if◌then◌else◌}
use Rattle.gba_terms.specs.Bits.{field}

-- A queue of direct sound (GBATEK, GBA Sound Channel A and B): the bytes that it holds, oldest first, and its current
-- byte, which is the one that sounds. It has room for 32 bytes.
pub record SoundQueue : Type 0 where
  pub bytes : List ℕ
  pub current : ℕ

-- an empty queue, as at reset
abbrev pub empty_queue : SoundQueue
empty_queue = record { bytes = []; current = 0 }

-- a word has four bytes, the low one first
abbrev pub bytes_of : ℕ → List ℕ
bytes_of word = field word 0 8 ∷ field word 8 8 ∷ field word 16 8 ∷ field word 24 8 ∷ []

-- whether a word fits, and the queue after it: one that doesn't fit is dropped
abbrev pub has_room : SoundQueue → Bool
has_room q = nat_le (length q.bytes) 28

abbrev pub after_push : ℕ → SoundQueue → SoundQueue
after_push word q = record q { bytes = if has_room q then q.bytes ++ bytes_of word else q.bytes }

-- At an overflow of the queue's timer its oldest byte leaves and becomes the current byte. An empty queue keeps its
-- current byte.
abbrev pub after_take : SoundQueue → SoundQueue
after_take q = record { bytes = drop 1 q.bytes; current = slice_index_or q.bytes 0 q.current }

-- whether a queue asks for DMA when a byte has left
abbrev pub is_half_empty : SoundQueue → Bool
is_half_empty q = nat_le (length q.bytes) 16
