use Rattle.std.specs.Prelude.{ℕ, List, [], ◌++◌, codes, decimal, slice_index}
use Rattle.std.specs.List.{flat_map}
use Rattle.gba_terms.specs.Hexadecimal.{hex}
use Rattle.gba_serial.specs.declared.transfer.Transfer.{Transfer}
use Rattle.gba_output.specs.Truths.{truth}
use Rattle.link_node.specs.declared.signal.LinkMode.{LinkMode}
use Rattle.link_node.specs.declared.signal.LinkMode.TheVariants.{Normal8, Normal32, Multi, Other}

-- The words of transfers (this project's profile). In Multi the four words and whether one is missing; in a Normal mode
-- the word that was sent and the one that was got, of as many digits as the mode has. No transfer ends in another mode.
unfoldable pub half_text : ℕ → List ℕ
half_text value = hex 4 value ++ codes " "

abbrev pub multi_words : Transfer → List ℕ
multi_words t =
    codes "multi " ++ half_text (slice_index t.words 0) ++ half_text (slice_index t.words 1)
    ++ half_text (slice_index t.words 2) ++ half_text (slice_index t.words 3) ++ truth t.error

abbrev pub words_in : LinkMode → Transfer → List ℕ
words_in Multi t = multi_words t
words_in Normal8 t = codes "normal8 " ++ hex 2 t.sent ++ codes " " ++ hex 2 t.got
words_in Normal32 t = codes "normal32 " ++ hex 8 t.sent ++ codes " " ++ hex 8 t.got
words_in Other t = []

-- the line of a transfer: the clock of its end, and its words
unfoldable pub words_line : Transfer → List ℕ
words_line t = decimal t.end ++ codes " " ++ words_in t.mode t ++ codes "\n"

-- a line for each transfer
abbrev pub words_text : List Transfer → List ℕ
words_text transfers = flat_map words_line transfers
