-- What is held of a frozen file whose lines are read.
use Rattle.std.specs.Prelude.{◌≡◌, List, length}
use Rattle.gba_frozen.specs.Reading.{Draft}
use Rattle.gba_frozen.specs.declared.kinds.Setup.{Setup}
use Rattle.gba_filling.specs.Consoles.{AreFilled}
use Rattle.gba_filling.specs.Signals.{AreSignals, LiveSignals}
use Rattle.gba_filling.specs.Loose.{LooseConsole}

-- the consoles of the job by player, and the live signals
pub record FilledJob : Type 0 where
  pub consoles : List LooseConsole
  pub signals : LiveSignals

-- It is what the lines so far come to.
pub record IsFilledJob (j : FilledJob) (setup : Setup) (draft : Draft) : Type 0 where
  pub count : length j.consoles ≡ setup.consoles
  pub consoles : AreFilled setup draft.consoles j.consoles
  pub signals : AreSignals draft.sent j.signals
