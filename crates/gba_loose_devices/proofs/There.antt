-- Each number of the board is there.
use Rattle.std.proofs.Common.{◌≡◌, true, arith}
use Rattle.std.proofs.lemmas.Bool.Decides.{nat_tests}
use Rattle.gba_numbers.specs.Fields.{is_board_field, place_of, board_place}
use Rattle.gba_numbers.specs.Numbers.{ConsoleNumbers, is_there}
use Rattle.gba_numbers.specs.declared.fields.BoardField.{BoardField}
use Rattle.gba_numbers.specs.declared.fields.BoardField.TheVariants as board
use Rattle.gba_numbers.specs.declared.fields.Field.TheVariants.{Board}

pub number_there : (field : BoardField) (n : ConsoleNumbers) → is_board_field field ≡ true
    → is_there (place_of (Board field)) n ≡ true
unfolding is_board_field place_of board_place is_there
number_there board.Halted m is = grind (arith, nat_tests)
number_there (board.TimerCounter n) m is = grind (arith, nat_tests)
number_there (board.TimerReload n) m is = grind (arith, nat_tests)
number_there (board.TimerControl n) m is = grind (arith, nat_tests)
number_there (board.TimerPhase n) m is = grind (arith, nat_tests)
number_there (board.DmaActive n) m is = grind (arith, nat_tests)
number_there (board.DmaFirst n) m is = grind (arith, nat_tests)
number_there (board.DmaSource n) m is = grind (arith, nat_tests)
number_there (board.DmaTarget n) m is = grind (arith, nat_tests)
number_there (board.DmaLeft n) m is = grind (arith, nat_tests)
number_there (board.QueueCurrent q) m is = grind (arith, nat_tests)
number_there (board.QueueLength n) m is = grind (arith, nat_tests)
number_there board.Sequencer m is = grind (arith, nat_tests)
number_there (board.Tone n part) m is = grind (arith, nat_tests)
number_there (board.WaveByte n place) m is = grind (arith, nat_tests)
number_there board.Line m is = grind (arith, nat_tests)
number_there board.Dot m is = grind (arith, nat_tests)
number_there (board.ReferenceX n) m is = grind (arith, nat_tests)
number_there (board.ReferenceY n) m is = grind (arith, nat_tests)
number_there board.SerialMode m is = grind (arith, nat_tests)
number_there board.SerialRunning m is = grind (arith, nat_tests)
number_there board.SerialStarted m is = grind (arith, nat_tests)
number_there board.SerialEnd m is = grind (arith, nat_tests)
number_there board.SerialGot m is = grind (arith, nat_tests)
number_there board.SerialSent m is = grind (arith, nat_tests)
number_there board.SerialWord m is = grind (arith, nat_tests)
number_there (board.Known n) m is = grind (arith, nat_tests)
