-- The laws of listings.
use Rattle.std.specs.Prelude.{ℕ, ◌≡◌, IsTrue, ◌<◌, ◌≤◌, ◌+◌, ◌%◌, ◌^◌, Bool, true, false, not, ◌&&◌, ◌||◌, ◌==◌, List, length, slice_index, IfSome, Option, Some, None, Ok, if◌then◌else◌}
use Rattle.gba_terms.specs.Bits.{field}
use Rattle.gba_arm_table.specs.declared.operation.ArmOp.{ArmOp}
use Rattle.gba_arm_table.specs.declared.operation.ArmOp.TheVariants as op
use Rattle.gba_arm_table.specs.declared.operation.ComputeOp.{ComputeOp}
use Rattle.gba_arm_table.specs.declared.operation.ComputeOp.TheVariants.{Mov, Mvn}
use Rattle.gba_arm_table.specs.declared.operation.Operand.{Operand}
use Rattle.gba_arm_table.specs.declared.operation.Operand.TheVariants as operand
use Rattle.gba_arm_table.specs.declared.operation.Source.{Source}
use Rattle.gba_arm_table.specs.declared.operation.Source.TheVariants as source
use Rattle.gba_arm_table.specs.Diagrams.{has_manual_bits}
use Rattle.gba_arm_table.specs.Table as arm_table
use Rattle.gba_asm_arm.specs.Operands.{immediate_operand, immediate_source, least_turn}
use Rattle.gba_dis.specs.Arm.{arm_pieces, turned}
use Rattle.gba_arm_table.specs.declared.operation.Condition.{Condition}
use Rattle.gba_arm_table.specs.declared.operation.Condition.TheVariants.{Never}
use Rattle.gba_thumb_table.specs.declared.operation.ThumbOp.{ThumbOp}
use Rattle.gba_thumb_table.specs.declared.operation.ThumbOp.TheVariants.{Format5, Format19}
use Rattle.gba_thumb_table.specs.Table.{operation}
use Rattle.gba_asm.specs.Language.{Says}
use Rattle.gba_dis.specs.declared.units.Set.{Set}
use Rattle.gba_dis.specs.declared.units.Unit.TheVariants.{Word, Half, Call}
use Rattle.gba_dis.specs.Thumb.{call_pieces, thumb_pieces}
use Rattle.gba_dis.specs.Units.{is_call}
use Rattle.gba_dis.specs.Listing.{line_pieces, listing}

-- the assembler takes the listing of any bytes that make an image, and gives these bytes
abbrev pub ComesBack : Type 0
ComesBack =
    (set : Set) (bytes : List ℕ) → ((i : ℕ) → slice_index bytes i < 2 ^ 8) → length bytes ≤ 33554432
    → Says (listing set bytes) (Ok bytes)

-- whether format 5's statement says its operation: CMP of two low registers is format 4's, and BX names one register
abbrev pub is_high_told : ℕ → Bool → Bool → ℕ → Bool
is_high_told op h1 h2 rd = if op == 3 then not h1 && rd == 0 else if op == 1 then h1 || h2 else true

-- Whether the statement of a Thumb operation says that operation. A half of BL by itself has no statement.
abbrev pub is_told : ThumbOp → Bool
is_told (Format5 op h1 h2 rs rd) = is_high_told op h1 h2 rd
is_told (Format19 second n11) = false
is_told _ = true

-- condition 15, which no statement has
abbrev pub is_never : Condition → Bool
is_never Never = true
is_never _ = false

-- Whether the assembler takes the number of eight bits and a turn to these: it takes the least turn.
abbrev pub is_operand : Option Operand → ℕ → ℕ → Bool
is_operand (Some (operand.Immediate v t)) value turn = v == value && t == turn
is_operand _ value turn = false

abbrev pub is_source : Option Source → ℕ → ℕ → Bool
is_source (Some (source.Immediate v t)) value turn = v == value && t == turn
is_source _ value turn = false

abbrev pub is_operand_told : Operand → Bool
is_operand_told (operand.Immediate value turn) =
    is_operand (immediate_operand (least_turn (turned value turn))) value turn
is_operand_told (operand.Fixed rm kind amount) = true
is_operand_told (operand.ByRegister rm kind rs) = true

abbrev pub is_source_told : Source → Bool
is_source_told (source.Immediate value turn) = is_source (immediate_source (least_turn (turned value turn))) value turn
is_source_told (source.Plain rm) = true

-- MOV and MVN name no first operand
abbrev pub is_first_told : ComputeOp → ℕ → Bool
is_first_told Mov rn = rn == 0
is_first_told Mvn rn = rn == 0
is_first_told _ rn = true

-- Whether the statement of an ARM operation says that operation, where its condition isn't never: a statement names no
-- first operand of MOV and MVN and no addend of MUL, has its immediate by the least turn, and writes the base of a
-- halfword's transfer back only before the access. MSR names a field.
abbrev pub is_arm_told : ArmOp → Bool
is_arm_told (op.Exchange cond rm) = not (is_never cond)
is_arm_told (op.Multiply cond accumulate set rd rn rs rm) = not (is_never cond) && (accumulate || rn == 0)
is_arm_told (op.MultiplyLong cond signed accumulate set hi lo rs rm) = not (is_never cond)
is_arm_told (op.Swap cond byte rn rd rm) = not (is_never cond)
is_arm_told (op.Half cond kind pre up write rn rd offset) = not (is_never cond) && (pre || not write)
is_arm_told (op.ReadStatus cond saved rd) = not (is_never cond)
is_arm_told (op.WriteStatus cond saved fields source) =
    not (is_never cond) && (not (fields == 0) && is_source_told source)
is_arm_told (op.Compute cond o set rn rd operand) =
    not (is_never cond) && (is_first_told o rn && is_operand_told operand)
is_arm_told (op.Compare cond o rn operand) = not (is_never cond) && is_operand_told operand
is_arm_told (op.Transfer cond load byte pre up write rn rd offset) = not (is_never cond)
is_arm_told (op.Block cond load pre up user write rn list) = not (is_never cond)
is_arm_told (op.Branch cond link offset) = not (is_never cond)
is_arm_told (op.Interrupt cond comment) = not (is_never cond)

-- In ARM code each word whose statement says its operation, and whose other bits are the manual's, is listed as that
-- statement.
abbrev pub TellsWords : Type 0
TellsWords =
    (at word : ℕ) → word < 2 ^ 32 → at % 4 ≡ 0 → at + 4 ≤ 33554432
    → IfSome (arm_table.operation word) (λ o. IsTrue (has_manual_bits o (field word)) → IsTrue (is_arm_told o)
    → line_pieces false at (Word word) ≡ arm_pieces at o)

-- In Thumb code each halfword whose statement says its operation is listed as that statement.
abbrev pub TellsHalfwords : Type 0
TellsHalfwords =
    (at half : ℕ) → half < 2 ^ 16 → at % 2 ≡ 0 → at + 2 ≤ 33554432
    → IfSome (operation half) (λ op. IsTrue (is_told op) → line_pieces true at (Half half) ≡ thumb_pieces at op)

-- In Thumb code the two halves of BL are always listed as one statement.
abbrev pub TellsCalls : Type 0
TellsCalls =
    (at first second : ℕ) → first < 2 ^ 16 → second < 2 ^ 16 → IsTrue (is_call first second) → at % 2 ≡ 0
    → at + 4 ≤ 33554432 → line_pieces true at (Call first second) ≡ call_pieces at first second
