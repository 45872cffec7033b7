-- Hexadecimal digits.
use Rattle.std.proofs.Common.{◌≡◌, ℕ, zero, suc, ◌^◌, ◌<◌, true, List, [], ◌∷◌, length, take, drop, refl, arith}
use Rattle.std.specs.Char.{is_ascii_hexdigit}
use Rattle.std.specs.List.{list_all}
use Rattle.std.specs.Str.Parse.{digits_value}
use Rattle.std.proofs.lemmas.Bool.Decides.{nat_tests}
use Rattle.std.proofs.lemmas.Int.Digits.{digits_value-lt}
use Rattle.gba_text.specs.Numbers.{all_hex_digits}
use Rattle.gba_text.proofs.Numerals.{AllDigits-from_hex}
use Rattle.gba_text.proofs.Spans.{first_of_all, rest_of_all}
use Rattle.gba_frozen.specs.Spelling.{is_digit}

digit-hex : (b : ℕ) → is_digit b ≡ true → is_ascii_hexdigit b ≡ true
digit-hex b h = grind (arith, nat_tests)

pub digits-hex : (word : List ℕ) → list_all is_digit word ≡ true → all_hex_digits word ≡ true
digits-hex [] h = refl
digits-hex (b ∷ word) h =
    let here = digit-hex b (first_of_all _ _ h) in
    let rest = digits-hex word (rest_of_all _ _ h) in
    rw (here, rest) refl

-- so many digits are a number below that power of 16
pub digits-small : (word : List ℕ) → list_all is_digit word ≡ true → digits_value 16 word < 16 ^ length word
digits-small word h = digits_value-lt 16 word (AllDigits-from_hex word (digits-hex word h))

-- the digits of a part
pub digits-take : (n : ℕ) (word : List ℕ) → list_all is_digit word ≡ true → list_all is_digit (take n word) ≡ true
digits-take zero word h = refl
digits-take (suc n) [] h = refl
digits-take (suc n) (b ∷ word) h =
    let here : is_digit b ≡ true = first_of_all (is_digit b) (list_all is_digit word) h in
    let rest = digits-take n word (rest_of_all (is_digit b) (list_all is_digit word) h) in
    rw (here, rest) refl

pub digits-drop : (n : ℕ) (word : List ℕ) → list_all is_digit word ≡ true → list_all is_digit (drop n word) ≡ true
digits-drop zero word h = h
digits-drop (suc n) [] h = refl
digits-drop (suc n) (b ∷ word) h = digits-drop n word (rest_of_all (is_digit b) (list_all is_digit word) h)
