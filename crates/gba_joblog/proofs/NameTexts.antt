-- Names are text.
use Rattle.std.proofs.Common.{◌≡◌, ℕ, ◌<◌, ◌≤◌, true, List, [], ◌∷◌, length, arith}
use Rattle.std.specs.List.{list_all}
use Rattle.std.specs.Str.{IsAscii}
use Rattle.std.proofs.lemmas.Bool.Decides.{nat_tests}
use Rattle.std.proofs.lemmas.Str.Ascii.{IsAscii-cons}
use Rattle.gba_text.proofs.Spans.{first_of_all, rest_of_all}
use Rattle.gba_joblog.specs.Names.{is_name, is_name_byte}

name_byte-small : (b : ℕ) → is_name_byte b ≡ true → b < 128
name_byte-small b h = grind (arith, nat_tests)

IsAscii-from_name_bytes : (name : List ℕ) → list_all is_name_byte name ≡ true → IsAscii name
IsAscii-from_name_bytes [] h = λ i. omega arith
IsAscii-from_name_bytes (b ∷ name) h =
    IsAscii-cons b name (name_byte-small b (first_of_all (is_name_byte b) (list_all is_name_byte name) h))
    (IsAscii-from_name_bytes name (rest_of_all (is_name_byte b) (list_all is_name_byte name) h))

pub IsAscii-from_name : (name : List ℕ) → is_name name ≡ true → IsAscii name
unfolding is_name
IsAscii-from_name name h = IsAscii-from_name_bytes name (rest_of_all _ _ (first_of_all _ _ h))

-- a name has at most 200 bytes
pub name-short : (name : List ℕ) → is_name name ≡ true → length name ≤ 200
unfolding is_name
name-short name h = grind arith
