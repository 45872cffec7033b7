use Rattle.std.specs.Prelude.{ℕ, ◌≡◌, ◌+◌, ◌*◌, ◌-◌, ◌/◌, ◌%◌, ◌^◌, List, slice_index}
use Rattle.link_node.specs.declared.signal.Signal.{Signal}
use Rattle.link_node.specs.Packing.{packed_head, packed_words}

-- this project's profile: the words of the shared table. Each of four players has a clock word, and then a ring of
-- 4,096 signals of two words

-- where player i's clock word stands
abbrev pub clock_place : ℕ → ℕ
clock_place i = 8193 * i

-- where the first word of player i's signal n stands. The second one follows it
abbrev pub ring_place : ℕ → ℕ → ℕ
ring_place i n = 8193 * i + 1 + 2 * (n % 4096)

-- a clock word: the clock in bits 0 to 39, the number of signals sent, modulo 2^24, above
abbrev pub clock_word : ℕ → ℕ → ℕ
clock_word clock count = clock + 2 ^ 40 * (count % 2 ^ 24)

-- the whole count of a clock word, by the number of signals that were fetched: the word's 24 bits are those of a number
-- from there on
abbrev pub count_of : ℕ → ℕ → ℕ
count_of word taken = taken + (word / 2 ^ 40 + 2 ^ 24 - taken % 2 ^ 24) % 2 ^ 24

-- how many words there are
abbrev pub word_count : ℕ
word_count = 32772

-- the two words of player i's signal n are those of this signal
pub record HasSignal (words : List ℕ) (i n : ℕ) (signal : Signal) : Type 0 where
  pub head : slice_index words (ring_place i n) ≡ packed_head signal
  pub body : slice_index words (ring_place i n + 1) ≡ packed_words signal
