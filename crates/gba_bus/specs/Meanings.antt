use Rattle.std.specs.Prelude.{ℕ, ◌≤◌, Bool}
use Rattle.gba_bus.specs.Widths.{FitsWidth}
use Rattle.gba_bus.specs.declared.width.Width.{Width}

-- The meanings of a bus: what its calls answer and leave, as functions of its state. An access that is sequential
-- follows one at the address before it (ARM7TDMI Technical Reference Manual, bus cycle types).

-- a value read, its price in cycles, and the bus after it
pub record Loaded (State : Type 0) : Type 0 where
  pub value : ℕ
  pub price : ℕ
  pub after : State

-- the price of a write, and the bus after it
pub record Stored (State : Type 0) : Type 0 where
  pub price : ℕ
  pub after : State

-- an instruction read, and the bus after it
pub record Fetched (State : Type 0) : Type 0 where
  pub value : ℕ
  pub after : State

-- reads of instructions, by address and width
abbrev pub Code : Type 0 → Type 0
Code State = State → ℕ → Width → Fetched State

-- prices, by address, width and whether the access is sequential
abbrev pub Price : Type 0 → Type 0
Price State = State → ℕ → Width → Bool → ℕ

-- reads of data, by the instruction's own address, the address, width and whether the access is sequential
abbrev pub Load : Type 0 → Type 0
Load State = State → ℕ → ℕ → Width → Bool → Loaded State

-- writes of data, by address, width, value and whether the access is sequential
abbrev pub Store : Type 0 → Type 0
Store State = State → ℕ → Width → ℕ → Bool → Stored State

-- what an access may cost: the dearest is a non-sequential word of the cartridge, 9 cycles for each of two halves
-- (this project's profile)
pub record IsPrice (cycles : ℕ) : Type 0 where
  pub least : 1 ≤ cycles
  pub most : cycles ≤ 18

-- What every bus keeps. Each price is one that an access may cost, and a value that is read, as an instruction or as
-- data, has zeros above its width.
abbrev pub CodePriced : {State : Type 0} → Price State → Type 0
CodePriced {State} price =
    (bus : State) (address : ℕ) (width : Width) (sequential : Bool) → IsPrice (price bus address width sequential)

abbrev pub LoadsPriced : {State : Type 0} → Load State → Type 0
LoadsPriced {State} load =
    (bus : State) (from address : ℕ) (width : Width) (sequential : Bool)
    → IsPrice (load bus from address width sequential).price

abbrev pub StoresPriced : {State : Type 0} → Store State → Type 0
StoresPriced {State} store =
    (bus : State) (address : ℕ) (width : Width) (value : ℕ) (sequential : Bool)
    → IsPrice (store bus address width value sequential).price

abbrev pub CodeFits : {State : Type 0} → Code State → Type 0
CodeFits {State} code = (bus : State) (address : ℕ) (width : Width) → FitsWidth width (code bus address width).value

abbrev pub LoadsFit : {State : Type 0} → Load State → Type 0
LoadsFit {State} load =
    (bus : State) (from address : ℕ) (width : Width) (sequential : Bool)
    → FitsWidth width (load bus from address width sequential).value
