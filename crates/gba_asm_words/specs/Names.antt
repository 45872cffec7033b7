-- The names of registers, and the words that may be labels.
use Rattle.std.specs.Prelude.{ℕ, Bool, false, nat_le, ◌&&◌, ◌||◌, ◌==◌, List, [], ◌∷◌, length, codes, Option, Some, None, if◌then◌else◌}
use Rattle.std.specs.Char.{is_ascii_alphabetic, is_ascii_alphanumeric}
use Rattle.std.specs.List.{list_all}
use Rattle.std.specs.Str.{bytes_eq}

-- the register from r0 to r7 that a word names
unfoldable pub low_register_of : List ℕ → Option ℕ
low_register_of word =
    if bytes_eq word (codes "r0") then Some 0
    else if bytes_eq word (codes "r1") then Some 1
    else if bytes_eq word (codes "r2") then Some 2
    else if bytes_eq word (codes "r3") then Some 3
    else if bytes_eq word (codes "r4") then Some 4
    else if bytes_eq word (codes "r5") then Some 5
    else if bytes_eq word (codes "r6") then Some 6
    else if bytes_eq word (codes "r7") then Some 7
    else None

-- the register from r8 to r15 that a word names; `sp`, `lr` and `pc` are r13, r14 and r15
unfoldable pub high_register_of : List ℕ → Option ℕ
high_register_of word =
    if bytes_eq word (codes "r8") then Some 8
    else if bytes_eq word (codes "r9") then Some 9
    else if bytes_eq word (codes "r10") then Some 10
    else if bytes_eq word (codes "r11") then Some 11
    else if bytes_eq word (codes "r12") then Some 12
    else if bytes_eq word (codes "r13") then Some 13
    else if bytes_eq word (codes "r14") then Some 14
    else if bytes_eq word (codes "r15") then Some 15
    else if bytes_eq word (codes "sp") then Some 13
    else if bytes_eq word (codes "lr") then Some 14
    else if bytes_eq word (codes "pc") then Some 15
    else None

abbrev pub first_some : {T : Type 0} → Option T → Option T → Option T
first_some (Some x) other = Some x
first_some None other = other

-- the register that a word names
unfoldable pub register_of : List ℕ → Option ℕ
register_of word = first_some (low_register_of word) (high_register_of word)

-- the most bytes of a label
abbrev pub longest_label : ℕ
longest_label = 32

-- a letter, a digit or `_` (95)
abbrev pub is_label_byte : ℕ → Bool
is_label_byte b = is_ascii_alphanumeric b || b == 95

abbrev pub begins_as_label : List ℕ → Bool
begins_as_label [] = false
begins_as_label (b ∷ _) = is_ascii_alphabetic b || b == 95

-- a label: a letter or `_`, and up to 31 letters, digits or `_`
unfoldable pub is_label : List ℕ → Bool
is_label word = begins_as_label word && nat_le (length word) longest_label && list_all is_label_byte word
