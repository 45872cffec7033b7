-- The listing of bytes: a line for each unit, in the order of the bytes.
use Rattle.std.specs.Prelude.{ℕ, ◌+◌, Bool, true, false, List, [], ◌∷◌, ◌++◌, codes, Result, Ok, Err, if◌then◌else◌}
use Rattle.std.specs.Str.{bytes_eq}
use Rattle.gba_arm_table.specs.Table as arm_table
use Rattle.gba_thumb_table.specs.Table as thumb_table
use Rattle.gba_asm_words.specs.declared.kinds.AsmKind.{AsmKind}
use Rattle.gba_asm.specs.Assembly.{lone_bytes}
use Rattle.gba_dis.specs.declared.units.Set.{Set}
use Rattle.gba_dis.specs.declared.units.Unit.{Unit}
use Rattle.gba_dis.specs.declared.units.Unit.TheVariants.{Word, Half, Call, Byte}
use Rattle.gba_dis.specs.Arm.{arm_statement}
use Rattle.gba_dis.specs.Thumb.{thumb_statement, call_pieces}
use Rattle.gba_dis.specs.Pieces.{Piece, Name, Plain, Comma, Mark, digits, text_of}
use Rattle.gba_dis.specs.Units.{is_thumb, bytes_of, size_of, units}

-- the statement of a unit at this address, if it has one
abbrev pub statement : ℕ → Unit → List Piece
statement at (Word word) = arm_statement at (arm_table.operation word)
statement at (Half half) = thumb_statement at (thumb_table.operation half)
statement at (Call first second) = call_pieces at first second
statement at (Byte byte) = []

-- the data of a unit
abbrev pub data_pieces : Unit → List Piece
data_pieces (Word word) = Name (codes ".word") ∷ digits 8 word ∷ []
data_pieces (Half half) = Name (codes ".half") ∷ digits 4 half ∷ []
data_pieces (Call first second) = Name (codes ".half") ∷ digits 4 first ∷ Comma ∷ digits 4 second ∷ []
data_pieces (Byte byte) = Name (codes ".byte") ∷ digits 2 byte ∷ []

abbrev pub are_bytes : List ℕ → Result (List ℕ) AsmKind → Bool
are_bytes bytes (Ok given) = bytes_eq given bytes
are_bytes bytes (Err kind) = false

-- whether a line by itself at this address is assembled to these bytes
abbrev pub gives : Bool → ℕ → List ℕ → List ℕ → Bool
gives thumb at line bytes = are_bytes bytes (lone_bytes thumb at line)

-- The line of a unit at this address: its statement, or its data where the statement wouldn't be assembled to the same
-- bytes there.
unfoldable pub line_pieces : Bool → ℕ → Unit → List Piece
line_pieces thumb at unit =
    if gives thumb at (text_of (statement at unit)) (bytes_of unit) then statement at unit else data_pieces unit

abbrev pub line_text : Bool → ℕ → Unit → List ℕ
line_text thumb at unit = text_of (line_pieces thumb at unit)

-- the lines of units from this address on, each ended by a line feed (10)
unfoldable pub lines_of : Bool → ℕ → List Unit → List ℕ
lines_of thumb at [] = []
lines_of thumb at (unit ∷ units) = line_text thumb at unit ++ 10 ∷ lines_of thumb (at + size_of unit) units

-- a Thumb listing begins with a line `.thumb`
abbrev pub heading : Bool → List ℕ
heading true = codes ".thumb" ++ 10 ∷ []
heading false = []

-- the listing of bytes that begin at address 0
unfoldable pub listing : Set → List ℕ → List ℕ
listing set bytes = heading (is_thumb set) ++ lines_of (is_thumb set) 0 (units set bytes)
