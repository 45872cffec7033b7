use Rattle.std.specs.Prelude.{◌≡◌, ℕ, true}
use Rattle.gba_bus.specs.declared.width.Width.{Width}
use Rattle.gba_devices.specs.Registers.{io_written}
use Rattle.gba_devices.specs.State.{Devices, begun, is_calm, is_idle}

-- A write leaves the clock, the picture's place and the prices of this step.
pub record WritesKeep : Type 0 where
  pub clock : (offset : ℕ) (width : Width) (value : ℕ) (d : Devices) → (io_written offset width value d).clock ≡ d.clock
  pub place : (offset : ℕ) (width : Width) (value : ℕ) (d : Devices) → (io_written offset width value d).place ≡ d.place
  pub priced : (offset : ℕ) (width : Width) (value : ℕ) (d : Devices)
      → (io_written offset width value d).priced ≡ d.priced

-- Calm and idle devices have the prices of this step already.
pub record CalmHasBegun : Type 0 where
  pub calm : (d : Devices) → is_calm d ≡ true → begun d ≡ d
  pub idle : (d : Devices) → is_idle d ≡ true → begun d ≡ d
