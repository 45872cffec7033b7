use Rattle.std.specs.Prelude.{◌≡◌, ◌+◌, ◌≤◌, ℕ, List}
use Rattle.gba_exec_transfers.specs.Done.{Done, IsStepLength}
use Rattle.gba_io.specs.Core.{Core}
use Rattle.gba_serial.specs.Apart.{next_end}
use Rattle.gba_console.specs.Step.{acted, instruction_done}

-- What a step does before its devices move leaves the picture's place and the lines that are drawn, and no end of
-- a transfer that is nearer than 512 cycles and that wasn't there before. Only private functions cite this and
-- the next two.
pub record KeepsCourse (before after : Core) : Type 0 where
  pub place : after.devices.place ≡ before.devices.place
  pub lines : after.lines ≡ before.lines
  pub next : (bound : ℕ) → 1 ≤ before.serial.count → bound ≤ before.devices.clock + 512 → bound ≤ next_end before.serial
      → bound ≤ next_end after.serial
  pub seat : 1 ≤ before.serial.count → 1 ≤ after.serial.count

-- It takes from 1 to 512 cycles, and leaves the clock.
pub record Passes (before : Core) (done : Done Core) : Type 0 where
  pub length : IsStepLength done.cycles
  pub clock : done.bus.devices.clock ≡ before.devices.clock
  pub course : KeepsCourse before done.bus

pub record ActsPass : Type 0 where
  pub instructions : (file : List ℕ) (b : Core) → Passes b (instruction_done file b)
  pub all : (file : List ℕ) (b : Core) → Passes b (acted file b)
