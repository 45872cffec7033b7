-- The numbers of a console together.
use Rattle.std.specs.Prelude.{◌≡◌, ℕ, ◌-◌, ◌≤◌, ◌==◌, Bool, true, nat_lt, List, [], ◌++◌, length, take, replicate, slice_index, slice_set, if◌then◌else◌}
use Rattle.gba_numbers.specs.Fields.{place_of}
use Rattle.gba_numbers.specs.declared.fields.Field.{Field}

-- those that stand by themselves, by their places; the bytes that the two sound queues hold, oldest first; and the
-- bytes of the two banks of channel 3's wave
pub record ConsoleNumbers : Type 0 where
  pub values : List ℕ
  pub queue_a : List ℕ
  pub queue_b : List ℕ
  pub wave0 : List ℕ
  pub wave1 : List ℕ

-- where the lengths of the queues stand
abbrev pub length_a : ℕ
length_a = 76

abbrev pub length_b : ℕ
length_b = 78

-- CPSR's place, and what CPSR is at reset
abbrev pub status_place : ℕ
status_place = 33

abbrev pub reset_status : ℕ
reset_status = 0xd3

-- every number 0, but CPSR as it is at reset, since 0 isn't in its range
unfoldable pub numbers_at_first : ConsoleNumbers
numbers_at_first = record {
  values = slice_set (replicate 138 0) status_place reset_status;
  queue_a = [];
  queue_b = [];
  wave0 = replicate 16 0;
  wave1 = replicate 16 0;
}

-- whether there is a number at a place: a byte of a queue is one of those that the queue holds
unfoldable pub is_there : ℕ → ConsoleNumbers → Bool
is_there place n =
    if nat_lt place 138 then true
    else if nat_lt place 170 then nat_lt (place - 138) (length n.queue_a)
    else if nat_lt place 202 then nat_lt (place - 170) (length n.queue_b)
    else nat_lt place 234

-- a number by its place
unfoldable pub value_at : ℕ → ConsoleNumbers → ℕ
value_at place n =
    if nat_lt place 138 then slice_index n.values place
    else if nat_lt place 170 then slice_index n.queue_a (place - 138)
    else if nat_lt place 202 then slice_index n.queue_b (place - 170)
    else if nat_lt place 218 then slice_index n.wave0 (place - 202)
    else slice_index n.wave1 (place - 218)

-- bytes of another length: those below it stay, and bytes 0 come behind them
abbrev pub resized : ℕ → List ℕ → List ℕ
resized count bytes = take count bytes ++ replicate (count - length bytes) 0

-- with another number that stands by itself; with a queue's length its bytes change
unfoldable pub with_single : ℕ → ℕ → ConsoleNumbers → ConsoleNumbers
with_single place value n = record n {
  values = slice_set n.values place value;
  queue_a = if place == length_a then resized value n.queue_a else n.queue_a;
  queue_b = if place == length_b then resized value n.queue_b else n.queue_b;
}

-- with another number at a place
unfoldable pub with_at : ℕ → ℕ → ConsoleNumbers → ConsoleNumbers
with_at place value n =
    if nat_lt place 138 then with_single place value n
    else if nat_lt place 170 then record n { queue_a = slice_set n.queue_a (place - 138) value }
    else if nat_lt place 202 then record n { queue_b = slice_set n.queue_b (place - 170) value }
    else if nat_lt place 218 then record n { wave0 = slice_set n.wave0 (place - 202) value }
    else record n { wave1 = slice_set n.wave1 (place - 218) value }

abbrev pub value_of : Field → ConsoleNumbers → ℕ
value_of field n = value_at (place_of field) n

abbrev pub with_value : Field → ℕ → ConsoleNumbers → ConsoleNumbers
with_value field value n = with_at (place_of field) value n

-- what always holds of a console's numbers: how many there are, and that a queue's length is that of its bytes
pub record AreWhole (n : ConsoleNumbers) : Type 0 where
  pub values : length n.values ≡ 138
  pub queue_a : length n.queue_a ≡ slice_index n.values length_a
  pub queue_b : length n.queue_b ≡ slice_index n.values length_b
  pub short_a : length n.queue_a ≤ 32
  pub short_b : length n.queue_b ≤ 32
  pub wave0 : length n.wave0 ≡ 16
  pub wave1 : length n.wave1 ≡ 16
