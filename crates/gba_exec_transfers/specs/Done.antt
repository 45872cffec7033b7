use Rattle.std.specs.Prelude.{◌≡◌, ℕ, ◌≤◌, List}

-- what an instruction leaves: the register file and the bus, and the cycles that it took
pub record Done (State : Type 0) : Type 0 where
  pub registers : List ℕ
  pub bus : State
  pub cycles : ℕ

-- how long a step of the machine may last (this project's profile)
pub record IsStepLength (cycles : ℕ) : Type 0 where
  pub least : 1 ≤ cycles
  pub most : cycles ≤ 512

-- a register file, a bus and a count of cycles are those of a meaning
pub record Leaves {State : Type 0} (done : Done State) (file : List ℕ) (bus : State) (cycles : ℕ) : Type 0 where
  pub registers_left : file ≡ done.registers
  pub bus_left : bus ≡ done.bus
  pub cycles_taken : cycles ≡ done.cycles
