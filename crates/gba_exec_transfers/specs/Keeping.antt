use Rattle.std.specs.Prelude.{◌≡◌, ℕ, Bool, true, List, Option}
use Rattle.gba_arm_table.specs.declared.operation.ArmOp.{ArmOp}
use Rattle.gba_bus.specs.Meanings.{Load, Price, Store}
use Rattle.gba_bus.specs.declared.width.Width.{Width}
use Rattle.gba_exec_registers.specs.declared.site.Site.{Site}
use Rattle.gba_exec_transfers.specs.Effects.{effect_of_word}

-- What instructions keep of a bus: what is true of it, and what no read and no write of data makes false.

abbrev pub LoadsKeep : {State : Type 0} → Load State → (State → Type 0) → Type 0
LoadsKeep {State} load P =
    (bus : State) (from address : ℕ) (width : Width) (sequential : Bool) → P bus
    → P (load bus from address width sequential).after

abbrev pub StoresKeep : {State : Type 0} → Store State → (State → Type 0) → Type 0
StoresKeep {State} store P =
    (bus : State) (address : ℕ) (width : Width) (value : ℕ) (sequential : Bool) → P bus
    → P (store bus address width value sequential).after

abbrev pub OperationsKeep : {State : Type 0} → Price State → Load State → Store State → (State → Type 0) → Type 0
OperationsKeep {State} price load store P =
    (one : Option ArmOp) (site : Site) (file : List ℕ) (bus : State) → P bus
    → P (effect_of_word price load store one site file bus).bus

-- what passes a test
abbrev pub Passing : {State : Type 0} → (State → Bool) → State → Type 0
Passing test bus = test bus ≡ true
