use Rattle.std.specs.Prelude.{◌≡◌, ℕ}
use Rattle.gba_bus.specs.declared.width.Width.{Width}
use Rattle.gba_io.specs.Core.{Core}
use Rattle.gba_io.specs.Bus.{core_written}

-- The clock, the picture's place and the lines that are drawn are the same.
pub record IsSameTime (before after : Core) : Type 0 where
  pub clock : after.devices.clock ≡ before.devices.clock
  pub place : after.devices.place ≡ before.devices.place
  pub lines : after.lines ≡ before.lines

-- A write leaves all three.
abbrev pub WritesKeepTime : Type 0
WritesKeepTime =
    (b : Core) (address : ℕ) (width : Width) (value : ℕ) → IsSameTime b (core_written b address width value)
