use Rattle.std.specs.Prelude.{ℕ, Bool, nat_le, ◌&&◌, ◌==◌, List, length, Option, Some, None, if◌then◌else◌}
use Rattle.std.specs.Char.{is_ascii_digit, is_ascii_hexdigit}
use Rattle.std.specs.List.{list_all}
use Rattle.std.specs.Str.Parse.{digits_value}

abbrev pub all_digits : List ℕ → Bool
all_digits word = list_all is_ascii_digit word

-- a number is spelled with 1 to 20 decimal digits
abbrev pub is_number : List ℕ → Bool
is_number word = nat_le 1 (length word) && nat_le (length word) 20 && all_digits word

abbrev pub is_within : ℕ → ℕ → ℕ → Bool
is_within least most n = nat_le least n && nat_le n most

-- the number that a word spells, if it spells one from `least` to `most`
unfoldable pub number_of : ℕ → ℕ → List ℕ → Option ℕ
number_of least most word =
    if is_number word && is_within least most (digits_value 10 word) then Some (digits_value 10 word) else None

abbrev pub all_hex_digits : List ℕ → Bool
all_hex_digits word = list_all is_ascii_hexdigit word

-- the number that a word of just so many hexadecimal digits spells, in either case
unfoldable pub hex_number_of : ℕ → List ℕ → Option ℕ
hex_number_of digits word =
    if length word == digits && all_hex_digits word then Some (digits_value 16 word) else None
