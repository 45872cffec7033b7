use Rattle.std.specs.Prelude.{ℕ, Bool, ◌+◌, List, [], ◌∷◌, ◌++◌, Option, None, Some, if◌then◌else◌}
use Rattle.gba_io.specs.Base.{at_reset}
use Rattle.gba_io.specs.declared.base.Base.{Base}
use Rattle.gba_io.specs.declared.made.Room.{Room}
use Rattle.gba_serial.specs.declared.transfer.Transfer.{Transfer}

-- The transfers that ended. They are kept where they are asked for, and counted anyway. `until` is the clock below
-- which the steps begin that there is room for, and `base` is where those that are kept begin.
pub record Ended : Type 0 where
  pub keeps_words : Bool
  pub until : ℕ
  pub words : List Transfer
  pub count : ℕ
  pub base : Base

-- a transfer ended, or none
abbrev pub words_with : Option Transfer → Ended → List Transfer
words_with None e = e.words
words_with (Some transfer) e = if e.keeps_words then e.words ++ (transfer ∷ []) else e.words

abbrev pub count_with : Option Transfer → Ended → ℕ
count_with None e = e.count
count_with (Some transfer) e = e.count + 1

abbrev pub with_transfer : Option Transfer → Ended → Ended
with_transfer transfer e = record e { words = words_with transfer e; count = count_with transfer e }

-- none ended yet
abbrev pub none_ended : Room → Ended
none_ended room = record { keeps_words = room.words; until = room.until; words = []; count = 0; base = at_reset }

-- none is kept any more, and all stay counted
abbrev pub ended_emptied : Ended → Ended
ended_emptied e = record e { words = [] }

-- those that are kept begin at this base, and there is room up to this clock
abbrev pub ended_from : Base → ℕ → Ended → Ended
ended_from base until e = record e { base = base; until = until }

-- so many are counted
abbrev pub ended_counted : ℕ → Ended → Ended
ended_counted count e = record e { count = count }
