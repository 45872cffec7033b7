-- Why no run goes on from a frozen file.
use Rattle.std.specs.Prelude.{◌≡◌, Result, Err}
use Rattle.gba_console.specs.Machine.{Machine}
use Rattle.gba_frozen.specs.declared.kinds.ThawKind.{ThawKind}
use Rattle.gba_text.specs.declared.kinds.LineError.{LineError}
use Rattle.gba_thaw.specs.declared.file.ThawRefused.{ThawRefused}
use Rattle.gba_thaw.specs.declared.file.ThawRefused.TheVariants.{Frozen, NoMemory}
use Rattle.link_order.specs.Cut.{Cut}

-- A refused line is the one of the definition. Want of memory may come anywhere.
abbrev pub IsRefusal : Result (Cut Machine) (LineError ThawKind) → ThawRefused → Type 0
IsRefusal answer (Frozen e) = answer ≡ Err e
IsRefusal answer NoMemory = Unit {0}
