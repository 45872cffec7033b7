-- Lines of data are assembled to their units.
use Rattle.std.proofs.Common.{◌≡◌, ◌<◌, ◌≤◌, ℕ, ◌+◌, ◌%◌, ◌^◌, Bool, List, [], ◌∷◌, length, None, Ok, refl, lit<, lit≤, arith}
use Rattle.gba_asm.specs.Assembly.{lone_bytes}
use Rattle.gba_asm.proofs.Lone.{Tells, byte_line, half_line, halves_line, told, word_line}
use Rattle.gba_dis.specs.declared.units.Unit.{Unit}
use Rattle.gba_dis.specs.declared.units.Unit.TheVariants.{Word, Half, Call, Byte}
use Rattle.gba_dis.specs.Listing.{data_pieces}
use Rattle.gba_dis.specs.Pieces.{digits_text, text_of}
use Rattle.gba_dis.specs.Units.{bytes_of, size_of}
use Rattle.gba_dis.proofs.Numerals.{byte_back, half_back, word_back}
use Rattle.gba_dis.proofs.Shapes.{Fine, after_comma, after_digits, after_name, done, wider}
use Rattle.gba_dis.proofs.Spelling.{spelled_label, spelled_says, tokens_of}

-- a unit's number fits its bits, and its address its width
abbrev pub IsPlaced : ℕ → Unit → Type 0
IsPlaced at (Word word) = (word < 2 ^ 32) × (at % 4 ≡ 0)
IsPlaced at (Half half) = (half < 2 ^ 16) × (at % 2 ≡ 0)
IsPlaced at (Call first second) = (first < 2 ^ 16) × (second < 2 ^ 16) × (at % 2 ≡ 0)
IsPlaced at (Byte byte) = byte < 2 ^ 8

pub data_fine : (u : Unit) → Fine 30 (data_pieces u)
data_fine (Word word) =
    wider (lit≤ tt)
    (after_name {k = 5} (record { all = refl; few = lit≤ tt }) (lit< tt) (after_digits 8 word (lit≤ tt) tt done))
data_fine (Half half) =
    wider (lit≤ tt)
    (after_name {k = 5} (record { all = refl; few = lit≤ tt }) (lit< tt) (after_digits 4 half (lit≤ tt) tt done))
data_fine (Call first second) =
    wider (lit≤ tt) (after_name {k = 5} (record { all = refl; few = lit≤ tt }) (lit< tt)
    (after_digits 4 first (lit≤ tt) tt
    (after_comma (after_digits 4 second (lit≤ tt) tt done))))
data_fine (Byte byte) =
    wider (lit≤ tt)
    (after_name {k = 5} (record { all = refl; few = lit≤ tt }) (lit< tt) (after_digits 2 byte (lit≤ tt) tt done))

data_tells : (thumb : Bool) (at : ℕ) (u : Unit) → IsPlaced at u → at + size_of u ≤ 33554432
    → Tells thumb at (tokens_of (data_pieces u)) (bytes_of u)
data_tells thumb at (Word word) h room = word_line thumb at (digits_text 8 word) word (word_back word h.0) h.1 room
data_tells thumb at (Half half) h room = half_line thumb at (digits_text 4 half) half (half_back half h.0) h.0 h.1 room
data_tells thumb at (Call first second) h room =
    halves_line thumb at (digits_text 4 first) (digits_text 4 second) first second (half_back first h.0)
    (half_back second h.1) h.0 h.1 h.2 room
data_tells thumb at (Byte byte) h room = byte_line thumb at (digits_text 2 byte) byte (byte_back byte h) h room

-- the line of data gives the unit's bytes
pub data_back : (thumb : Bool) (at : ℕ) (u : Unit) → IsPlaced at u → at + size_of u ≤ 33554432
    → lone_bytes thumb at (text_of (data_pieces u)) ≡ Ok (bytes_of u)
data_back thumb at u h room =
    let f = data_fine u in
    let short : length (text_of (data_pieces u)) ≤ 400 = omega (arith, f.short) in
    told thumb at (text_of (data_pieces u)) (tokens_of (data_pieces u)) (bytes_of u)
    (spelled_says thumb (data_pieces u) f.spelled short) (spelled_label (data_pieces u) f.spelled short)
    (data_tells thumb at u h room)
