use Rattle.std.specs.Prelude.{ℕ, ◌≡◌, ◌+◌, ◌-◌, ◌^◌, ◌<◌, ◌≤◌, false, Option, None, Some}
use Rattle.gba_serial.specs.SerialUnit.{SerialUnit}
use Rattle.gba_serial.specs.Write.{written}
use Rattle.gba_serial.specs.Take.{taken}
use Rattle.gba_serial.specs.End.{ended, ending}
use Rattle.gba_serial.specs.Tell.{has_news, outgoing, silent}
use Rattle.gba_serial.specs.declared.transfer.Running.{Running}
use Rattle.link_node.specs.declared.signal.Incoming.{Incoming}

-- When transfers end: how far their ends are apart, and what stays before the next one.

-- the clock at which the transfer that runs ends, or one that no console reaches
abbrev pub next_end_of : Option Running → ℕ
next_end_of None = 2 ^ 64 - 1
next_end_of (Some run) = run.end

abbrev pub next_end : SerialUnit → ℕ
next_end u = next_end_of u.run

-- A write at a clock, and a signal at its arrival, leave no end that is nearer than 512 cycles and that wasn't there
-- before. So two ends of one console are at least 512 cycles apart.
pub record EndsApart : Type 0 where
  pub written : (clock offset value bound : ℕ) (u : SerialUnit) → 1 ≤ u.count → bound ≤ clock + 512
      → bound ≤ next_end u → bound ≤ next_end (written clock offset value u)
  pub taken : (due : Incoming) (bound : ℕ) (u : SerialUnit) → bound ≤ due.arrival + 512
      → bound ≤ next_end u → bound ≤ next_end (taken due u)

-- Before the next end nothing ends. A unit with nothing to tell tells nothing, and stays when it falls silent.
pub record StaysQuiet : Type 0 where
  pub ended : (clock : ℕ) (u : SerialUnit) → clock < next_end u → ended clock u ≡ u
  pub ending : (clock : ℕ) (u : SerialUnit) → clock < next_end u → ending clock u ≡ None
  pub silent : (u : SerialUnit) → has_news u ≡ false → silent u ≡ u
  pub outgoing : (clock : ℕ) (u : SerialUnit) → has_news u ≡ false → outgoing clock u ≡ None
