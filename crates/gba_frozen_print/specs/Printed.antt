-- How each line is printed, without its line feed. The rows are printed as `row_line` says.
use Rattle.std.specs.Prelude.{ℕ, ◌==◌, List, [], ◌∷◌, ◌++◌, length, codes, decimal, if◌then◌else◌}
use Rattle.gba_terms.specs.Hexadecimal.{hex}
use Rattle.link_node.specs.Packing.{packed_head, packed_words}
use Rattle.link_node.specs.declared.signal.Signal.{Signal}
use Rattle.gba_frozen.specs.Lines.{queue_name}
use Rattle.gba_frozen.specs.Spelling.{hex_all, joined}
use Rattle.gba_frozen.specs.Words.{memory_name}
use Rattle.gba_frozen.specs.declared.places.MemoryPlace.{MemoryPlace}

-- a line with its line feed
abbrev pub ended : List ℕ → List ℕ
ended line = line ++ codes "\n"

abbrev pub version_text : List ℕ
version_text = codes "gbalink-frozen 1"

abbrev pub end_text : List ℕ
end_text = codes "end"

abbrev pub digest_text : List ℕ → List ℕ
digest_text digest = joined (codes "job") (hex_all 2 digest ∷ [])

-- the bytes of a queue, or a dash
abbrev pub queue_word : List ℕ → List ℕ
queue_word bytes = if length bytes == 0 then codes "-" else hex_all 2 bytes

abbrev pub queue_text : ℕ → ℕ → List ℕ → List ℕ
queue_text queue current bytes =
    joined (codes "queue") (queue_name queue ∷ hex 2 current ∷ decimal (length bytes) ∷ queue_word bytes ∷ [])

abbrev pub wave_text : ℕ → List ℕ → List ℕ
wave_text bank bytes = joined (codes "wave") (decimal bank ∷ hex_all 2 bytes ∷ [])

abbrev pub memory_text : MemoryPlace → List ℕ → List ℕ
memory_text place bytes = joined (codes "mem") (memory_name place.name ∷ hex 6 place.offset ∷ hex_all 2 bytes ∷ [])

abbrev pub drawn_text : ℕ → List ℕ → List ℕ
drawn_text line colours = joined (codes "drawn") (decimal line ∷ hex_all 4 colours ∷ [])

-- sixteen digits
unfoldable pub long_digits : ℕ → List ℕ
long_digits n = hex 16 n

abbrev pub signal_text : ℕ → Signal → List ℕ
signal_text sender signal =
    joined (codes "signal") (decimal sender ∷ long_digits (packed_head signal) ∷ long_digits (packed_words signal) ∷ [])
