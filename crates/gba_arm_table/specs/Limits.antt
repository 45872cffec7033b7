use Rattle.std.specs.Prelude.{ℕ, Bool, true, ◌&&◌, nat_lt, ◌<◌, ◌^◌, List, [], ◌∷◌, ℤ, pos, negsuc}
use Rattle.gba_arm_table.specs.declared.operation.ArmOp.{ArmOp}
use Rattle.gba_arm_table.specs.declared.operation.ArmOp.TheVariants as op
use Rattle.gba_arm_table.specs.declared.operation.HalfOffset.{HalfOffset}
use Rattle.gba_arm_table.specs.declared.operation.HalfOffset.TheVariants as half_offset
use Rattle.gba_arm_table.specs.declared.operation.Operand.{Operand}
use Rattle.gba_arm_table.specs.declared.operation.Operand.TheVariants as operand
use Rattle.gba_arm_table.specs.declared.operation.Source.{Source}
use Rattle.gba_arm_table.specs.declared.operation.Source.TheVariants as source
use Rattle.gba_arm_table.specs.declared.operation.TransferOffset.{TransferOffset}
use Rattle.gba_arm_table.specs.declared.operation.TransferOffset.TheVariants as transfer_offset

-- The fields of an operation that could be out of their bits, each with the bound that its bits give.

pub record Limit : Type 0 where
  pub number : ℕ
  pub bound : ℕ

abbrev pub limit : ℕ → ℕ → Limit
limit number bound = record { number = number; bound = bound }

-- whether each number is below its bound
abbrev pub within : List Limit → Bool
within [] = true
within (one ∷ rest) = nat_lt one.number one.bound && within rest

-- each number is below its bound
abbrev pub Within : List Limit → Type 0
Within [] = Unit {0}
Within (one ∷ rest) = (one.number < one.bound) × Within rest

-- a register has four bits
abbrev pub register : ℕ → Limit
register number = limit number 16

abbrev pub operand_registers : Operand → List Limit
operand_registers (operand.Immediate value turn) = []
operand_registers (operand.Fixed rm kind amount) = register rm ∷ []
operand_registers (operand.ByRegister rm kind rs) = register rm ∷ register rs ∷ []

abbrev pub source_registers : Source → List Limit
source_registers (source.Immediate value turn) = []
source_registers (source.Plain rm) = register rm ∷ []

abbrev pub transfer_registers : TransferOffset → List Limit
transfer_registers (transfer_offset.Number value) = []
transfer_registers (transfer_offset.Shifted rm kind amount) = register rm ∷ []

abbrev pub half_registers : HalfOffset → List Limit
half_registers (half_offset.Number value) = []
half_registers (half_offset.Plain rm) = register rm ∷ []

-- the registers that an operation names
abbrev pub registers_of : ArmOp → List Limit
registers_of (op.Exchange cond rm) = register rm ∷ []
registers_of (op.Multiply cond accumulate set rd rn rs rm) = register rd ∷ register rn ∷ register rs ∷ register rm ∷ []
registers_of (op.MultiplyLong cond signed accumulate set hi lo rs rm) =
    register hi ∷ register lo ∷ register rs ∷ register rm ∷ []
registers_of (op.Swap cond byte rn rd rm) = register rn ∷ register rd ∷ register rm ∷ []
registers_of (op.Half cond kind pre up write rn rd offset) = register rn ∷ register rd ∷ half_registers offset
registers_of (op.ReadStatus cond saved rd) = register rd ∷ []
registers_of (op.WriteStatus cond saved fields source) = source_registers source
registers_of (op.Compute cond op set rn rd operand) = register rn ∷ register rd ∷ operand_registers operand
registers_of (op.Compare cond op rn operand) = register rn ∷ operand_registers operand
registers_of (op.Transfer cond load byte pre up write rn rd offset) =
    register rn ∷ register rd ∷ transfer_registers offset
registers_of (op.Block cond load pre up user write rn list) = register rn ∷ []
registers_of (op.Branch cond link offset) = []
registers_of (op.Interrupt cond comment) = []

-- an immediate has eight bits and is turned by four, an amount of shift has five
abbrev pub operand_immediates : Operand → List Limit
operand_immediates (operand.Immediate value turn) = limit turn 16 ∷ limit value 256 ∷ []
operand_immediates (operand.Fixed rm kind amount) = limit amount 32 ∷ []
operand_immediates (operand.ByRegister rm kind rs) = []

abbrev pub source_immediates : Source → List Limit
source_immediates (source.Immediate value turn) = limit turn 16 ∷ limit value 256 ∷ []
source_immediates (source.Plain rm) = []

abbrev pub transfer_immediates : TransferOffset → List Limit
transfer_immediates (transfer_offset.Number value) = []
transfer_immediates (transfer_offset.Shifted rm kind amount) = limit amount 32 ∷ []

-- the numbers that are neither registers nor offsets; MSR's fields have four bits, the list of a block sixteen and the
-- comment of SWI 24
abbrev pub immediates_of : ArmOp → List Limit
immediates_of (op.WriteStatus cond saved fields source) = limit fields 16 ∷ source_immediates source
immediates_of (op.Compute cond op set rn rd operand) = operand_immediates operand
immediates_of (op.Compare cond op rn operand) = operand_immediates operand
immediates_of (op.Transfer cond load byte pre up write rn rd offset) = transfer_immediates offset
immediates_of (op.Block cond load pre up user write rn list) = limit list (2 ^ 16) ∷ []
immediates_of (op.Interrupt cond comment) = limit comment (2 ^ 24) ∷ []
immediates_of _ = []

-- how far a number is from 0, or a negative one from -1: below 2 ^ 23 is what 24 bits hold
abbrev pub distance : ℤ → ℕ
distance (pos n) = n
distance (negsuc n) = n

abbrev pub transfer_offsets : TransferOffset → List Limit
transfer_offsets (transfer_offset.Number value) = limit value 4096 ∷ []
transfer_offsets (transfer_offset.Shifted rm kind amount) = []

abbrev pub half_offsets : HalfOffset → List Limit
half_offsets (half_offset.Number value) = limit value 256 ∷ []
half_offsets (half_offset.Plain rm) = []

-- the offset of a transfer or a branch
abbrev pub offsets_of : ArmOp → List Limit
offsets_of (op.Half cond kind pre up write rn rd offset) = half_offsets offset
offsets_of (op.Transfer cond load byte pre up write rn rd offset) = transfer_offsets offset
offsets_of (op.Branch cond link offset) = limit (distance offset) (2 ^ 23) ∷ []
offsets_of _ = []

-- an operation whose fields all fit their bits
pub record Fits (operation : ArmOp) : Type 0 where
  pub registers : Within (registers_of operation)
  pub immediates : Within (immediates_of operation)
  pub offsets : Within (offsets_of operation)
