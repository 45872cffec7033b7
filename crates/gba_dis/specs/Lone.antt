use Rattle.std.specs.Prelude.{ℕ, Bool, List, if◌then◌else◌}
use Rattle.gba_dis.specs.declared.units.Set.{Set}
use Rattle.gba_dis.specs.declared.units.Set.TheVariants.{Arm, Thumb}
use Rattle.gba_dis.specs.declared.units.Unit.{Unit}
use Rattle.gba_dis.specs.declared.units.Unit.TheVariants.{Word, Half}
use Rattle.gba_dis.specs.Listing.{data_pieces, gives, statement}
use Rattle.gba_dis.specs.Pieces.{Piece, text_of}
use Rattle.gba_dis.specs.Units.{bytes_of, is_thumb}

-- A word or halfword by itself, wherever it stands: its statement at this address, if a listing that begins with it has
-- its statement, and else its data.
unfoldable pub lone_pieces : Bool → ℕ → Unit → List Piece
lone_pieces thumb at unit =
    if gives thumb 0 (text_of (statement 0 unit)) (bytes_of unit) then statement at unit else data_pieces unit

-- the word or halfword of this number
abbrev pub unit_of : Set → ℕ → Unit
unit_of Arm number = Word number
unit_of Thumb number = Half number

abbrev pub lone_text : Set → ℕ → ℕ → List ℕ
lone_text set at number = text_of (lone_pieces (is_thumb set) at (unit_of set number))
