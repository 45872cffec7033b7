use Rattle.std.specs.Prelude.{ℕ, List, [], ◌∷◌, ◌++◌, option_to_list}
use Rattle.gba_serial.specs.SerialUnit.{SerialUnit}
use Rattle.gba_serial.specs.Write.{written}
use Rattle.gba_serial.specs.Take.{taken}
use Rattle.gba_serial.specs.End.{ended, ending}
use Rattle.gba_serial.specs.declared.transfer.Transfer.{Transfer}
use Rattle.link_node.specs.declared.signal.Incoming.{Incoming}

-- A unit in one step of its console (this project's profile): it takes the due signals, ends what is due,
-- and is written.

-- the due signals in their order; a transfer whose end is at or below an arrival ends before that signal is taken
abbrev pub fed : List Incoming → SerialUnit → SerialUnit
fed [] u = u
fed (due ∷ dues) u = fed dues (taken due (ended due.arrival u))

abbrev pub fed_ends : List Incoming → SerialUnit → List Transfer
fed_ends [] u = []
fed_ends (due ∷ dues) u = option_to_list (ending due.arrival u) ++ fed_ends dues (taken due (ended due.arrival u))

-- the unit before the writes of a step that begins at a clock, and the transfers that ended in the step
abbrev pub hear : ℕ → List Incoming → SerialUnit → SerialUnit
hear clock dues u = ended clock (fed dues u)

abbrev pub ends : ℕ → List Incoming → SerialUnit → List Transfer
ends clock dues u = fed_ends dues u ++ option_to_list (ending clock (fed dues u))

-- a halfword write: its offset from 04000000h and its value
pub record HalfwordWrite : Type 0 where
  pub offset : ℕ
  pub value : ℕ

-- the writes of a step, the last one first
abbrev pub all_written : ℕ → List HalfwordWrite → SerialUnit → SerialUnit
all_written clock [] u = u
all_written clock (one ∷ earlier) u = written clock one.offset one.value (all_written clock earlier u)
