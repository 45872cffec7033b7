-- What the lines of a listing stand for: words, halfwords, calls and bytes.
use Rattle.std.specs.Prelude.{ℕ, ◌/◌, Bool, true, false, ◌&&◌, ◌==◌, List, [], ◌∷◌, ◌++◌, if◌then◌else◌}
use Rattle.std.specs.Int.{w16, w32, from_le_bytes, to_le_bytes}
use Rattle.gba_dis.specs.declared.units.Set.{Set}
use Rattle.gba_dis.specs.declared.units.Set.TheVariants.{Arm, Thumb}
use Rattle.gba_dis.specs.declared.units.Unit.{Unit}
use Rattle.gba_dis.specs.declared.units.Unit.TheVariants.{Word, Half, Call, Byte}

abbrev pub is_thumb : Set → Bool
is_thumb Arm = false
is_thumb Thumb = true

-- the bytes of a unit
abbrev pub bytes_of : Unit → List ℕ
bytes_of (Word word) = to_le_bytes w32 word
bytes_of (Half half) = to_le_bytes w16 half
bytes_of (Call first second) = to_le_bytes w16 first ++ to_le_bytes w16 second
bytes_of (Byte byte) = byte ∷ []

abbrev pub size_of : Unit → ℕ
size_of (Word word) = 4
size_of (Half half) = 2
size_of (Call first second) = 4
size_of (Byte byte) = 1

-- bytes that make no whole word or halfword
abbrev pub left_bytes : List ℕ → List Unit
left_bytes [] = []
left_bytes (b ∷ bs) = Byte b ∷ left_bytes bs

abbrev pub half_of : ℕ → ℕ → ℕ
half_of low high = from_le_bytes w16 (low ∷ high ∷ [])

-- the first half of BL and its second half (GBATEK, THUMB.19)
abbrev pub is_call : ℕ → ℕ → Bool
is_call first second = first / 2048 == 30 && second / 2048 == 31

-- words, and then the bytes that are left
unfoldable pub arm_units : List ℕ → List Unit
arm_units (a ∷ b ∷ c ∷ d ∷ rest) = Word (from_le_bytes w32 (a ∷ b ∷ c ∷ d ∷ [])) ∷ arm_units rest
arm_units bytes = left_bytes bytes

-- calls and halfwords, and then the byte that is left
unfoldable pub thumb_units : List ℕ → List Unit
thumb_units (a ∷ b ∷ c ∷ d ∷ rest) =
    if is_call (half_of a b) (half_of c d) then Call (half_of a b) (half_of c d) ∷ thumb_units rest
    else Half (half_of a b) ∷ thumb_units (c ∷ d ∷ rest)
thumb_units (a ∷ b ∷ rest) = Half (half_of a b) ∷ left_bytes rest
thumb_units bytes = left_bytes bytes

abbrev pub units : Set → List ℕ → List Unit
units Arm bytes = arm_units bytes
units Thumb bytes = thumb_units bytes
