-- What setting a number does.
use Rattle.std.specs.Prelude.{◌≡◌, ◌≢◌, ℕ, ◌<◌, ◌≤◌, ◌==◌, ◌&&◌, Bool, true, false, nat_le, nat_lt, if◌then◌else◌}
use Rattle.gba_numbers.specs.Fields.{is_field, place_of}
use Rattle.gba_numbers.specs.Numbers.{AreWhole, ConsoleNumbers, is_there, length_a, length_b, value_at, with_at}
use Rattle.gba_numbers.specs.declared.fields.Field.{Field}

-- whether a byte is one of the queue whose length stands at a place
abbrev pub is_byte_of : ℕ → ℕ → Bool
is_byte_of length_place place =
    if length_place == length_a then nat_le 138 place && nat_lt place 170
    else if length_place == length_b then nat_le 170 place && nat_lt place 202
    else false

-- A number that is set is the number that is read there; every other one stays, but for the bytes of a queue whose
-- length is set: those below the length stay too, and those behind the former bytes are 0.
pub record SetsOne : Type 0 where
  pub taken : (place value : ℕ) (n : ConsoleNumbers) → place < 234 → AreWhole n → is_there place n ≡ true
      → value_at place (with_at place value n) ≡ value
  pub others : (place other value : ℕ) (n : ConsoleNumbers) → place < 234 → other < 234 → place ≢ other
      → is_byte_of place other ≡ false → value_at other (with_at place value n) ≡ value_at other n
  pub whole : (place value : ℕ) (n : ConsoleNumbers) → place < 234 → AreWhole n
      → (place ≡ length_a → value ≤ 32) → (place ≡ length_b → value ≤ 32) → AreWhole (with_at place value n)

-- no two numbers have the same place
abbrev pub HaveOwnPlaces : Type 0
HaveOwnPlaces =
    (one other : Field) → is_field one ≡ true → is_field other ≡ true → place_of one ≡ place_of other → one ≡ other
