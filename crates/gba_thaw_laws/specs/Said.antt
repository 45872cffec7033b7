-- What a frozen file says of a board: its numbers, each in its range, the bytes of its sound queues and of its wave,
-- and those of the I/O registers.
use Rattle.std.specs.Prelude.{◌≡◌, ℕ, ◌*◌, ◌<◌, List}
use Rattle.gba_io.specs.Core.{Core, core_half_listed}
use Rattle.gba_loose.specs.Again.{AreBytesOf, AreInRange, AreNumbersOf}
use Rattle.gba_loose_devices.specs.Values.{half_at}
use Rattle.gba_numbers.specs.Numbers.{ConsoleNumbers}

-- each halfword of these bytes is what a core has stored there
abbrev pub AreHalvesOf : Core → List ℕ → Type 0
AreHalvesOf b io = (half : ℕ) → half < 512 → half_at (2 * half) io ≡ core_half_listed (2 * half) b

pub record Says (b : Core) (n : ConsoleNumbers) (io : List ℕ) : Type 0 where
  pub numbers : AreNumbersOf b n
  pub range : AreInRange b
  pub bytes : AreBytesOf b n
  pub halves : AreHalvesOf b io
