-- The numbers that words spell: decimal digits, or `0x` and hexadecimal digits in either case, of at most 32 bits.
use Rattle.std.specs.Prelude.{ℕ, ◌^◌, Bool, nat_le, nat_lt, ◌&&◌, List, length, take, drop, codes, Option, Some, None, if◌then◌else◌}
use Rattle.std.specs.Str.{bytes_eq}
use Rattle.std.specs.Str.Parse.{digits_value}
use Rattle.gba_text.specs.Numbers.{all_digits, all_hex_digits}

abbrev pub is_decimal : List ℕ → Bool
is_decimal word = nat_le 1 (length word) && all_digits word && nat_lt (digits_value 10 word) (2 ^ 32)

unfoldable pub decimal_of : List ℕ → Option ℕ
decimal_of word = if is_decimal word then Some (digits_value 10 word) else None

abbrev pub is_hexadecimal : List ℕ → Bool
is_hexadecimal digits = nat_le 1 (length digits) && all_hex_digits digits && nat_lt (digits_value 16 digits) (2 ^ 32)

unfoldable pub hexadecimal_of : List ℕ → Option ℕ
hexadecimal_of digits = if is_hexadecimal digits then Some (digits_value 16 digits) else None

-- whether a word begins with `0x`
abbrev pub begins_as_hexadecimal : List ℕ → Bool
begins_as_hexadecimal word = nat_le 2 (length word) && bytes_eq (take 2 word) (codes "0x")

unfoldable pub number_of : List ℕ → Option ℕ
number_of word = if begins_as_hexadecimal word then hexadecimal_of (drop 2 word) else decimal_of word
