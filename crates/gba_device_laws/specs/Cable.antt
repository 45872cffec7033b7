-- The rules to which the numbers of a serial unit keep in each run.
use Rattle.std.specs.Prelude.{◌≡◌, ℕ, ◌+◌, ◌^◌, ◌<◌, ◌≤◌, true, false, IfSome, length}
use Rattle.gba_device_laws.specs.Holding.{HasStoredBits}
use Rattle.gba_serial.specs.End.{ended}
use Rattle.gba_serial.specs.Making.{IsSeat, seat_of}
use Rattle.gba_serial.specs.Registers.{serial_kept, serial_rows}
use Rattle.gba_serial.specs.SerialUnit.{SerialUnit, is_peer, known_mode, mode_of, serial_at_reset}
use Rattle.gba_serial.specs.Take.{learned, taken}
use Rattle.gba_serial.specs.Tell.{silent}
use Rattle.gba_serial.specs.Timing.{is_word_of}
use Rattle.gba_serial.specs.Write.{written}
use Rattle.gba_serial.specs.declared.transfer.Running.{Running}
use Rattle.link_node.specs.declared.signal.Incoming.{Incoming}
use Rattle.link_node.specs.declared.signal.LinkMode.{LinkMode}
use Rattle.link_node.specs.declared.signal.LinkMode.TheVariants.{Other}

-- A transfer that runs is one of its mode, and its end is near a clock of a run.
pub record RunHolds (mode : LinkMode) (run : Running) : Type 0 where
  pub players : length run.got ≡ 4
  pub end : run.end < 2 ^ 40
  pub sent : is_word_of mode run.sent ≡ true
  pub word : is_word_of mode run.word ≡ true

-- What a serial unit knows of itself, and of a player that isn't there, is Other.
pub record SerialHolds (u : SerialUnit) : Type 0 where
  pub seat : IsSeat (seat_of u)
  pub words : length u.words ≡ 4
  pub players : length u.known ≡ 4
  pub others : (player : ℕ) → is_peer player u ≡ false → known_mode u.known player ≡ Other
  pub stored : HasStoredBits serial_rows (λ offset. serial_kept offset u)
  pub run : IfSome u.run (RunHolds (mode_of u))

-- They keep to them at reset, and after whatever comes to the unit at a clock of a run: a write, a signal, the end of a
-- transfer, the start of a step.
abbrev pub last_clock : ℕ
last_clock = 2 ^ 39 + 2 ^ 20

pub record SerialStays : Type 0 where
  pub reset : (player count round : ℕ) → player < count → count ≤ 4 → round ≤ 2048
      → SerialHolds (serial_at_reset player count round)
  pub write : (clock offset value : ℕ) (u : SerialUnit) → clock ≤ last_clock → SerialHolds u
      → SerialHolds (written clock offset value u)
  pub taken : (due : Incoming) (u : SerialUnit) → due.signal.clock ≤ last_clock → SerialHolds u
      → SerialHolds (taken due u)
  pub learned : (due : Incoming) (u : SerialUnit) → SerialHolds u → SerialHolds (learned due u)
  pub ended : (clock : ℕ) (u : SerialUnit) → SerialHolds u → SerialHolds (ended clock u)
  pub told : (u : SerialUnit) → SerialHolds u → SerialHolds (silent u)
