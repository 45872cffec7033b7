use Rattle.std.specs.Prelude.{ℕ, Bool, not, nat_le, ◌&&◌, ◌||◌, ◌==◌, List, length, codes}
use Rattle.std.specs.Char.{is_ascii_alphanumeric}
use Rattle.std.specs.List.{list_all}
use Rattle.std.specs.Str.{bytes_eq}

-- a letter, a digit, or one of `-` (45), `.` (46), `/` (47) and `_` (95)
abbrev pub is_name_byte : ℕ → Bool
is_name_byte byte = is_ascii_alphanumeric byte || (nat_le 45 byte && nat_le byte 47) || byte == 95

abbrev pub longest_name : ℕ
longest_name = 200

-- a file's name: 1 to 200 such bytes, and not `-`, which is standard output
unfoldable pub is_name : List ℕ → Bool
is_name name =
    nat_le 1 (length name) && nat_le (length name) longest_name && list_all is_name_byte name
    && not (bytes_eq name (codes "-"))
