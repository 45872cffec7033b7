use Rattle.std.specs.Prelude.{ℕ, Bool, List, Option, Some, None, if◌then◌else◌}
use Rattle.gba_arm_table.specs.declared.operation.ArmOp.{ArmOp}
use Rattle.gba_arm_table.specs.declared.operation.ArmOp.TheVariants as op
use Rattle.gba_arm_table.specs.declared.operation.HalfKind.{HalfKind}
use Rattle.gba_arm_table.specs.declared.operation.HalfKind.TheVariants.{StoreHalf, LoadHalf, LoadSignedByte, LoadSignedHalf}
use Rattle.gba_bus.specs.Meanings.{Load, Price, Store}
use Rattle.gba_bus.specs.declared.width.Width.TheVariants as width
use Rattle.gba_exec_registers.specs.Access.{code_cost, jump_cost}
use Rattle.gba_exec_transfers.specs.Blocks.{after_load_block, after_store_block}
use Rattle.gba_exec_registers.specs.Branching.{after_branch, after_exchange, after_interrupt, after_undefined, undefined_cost}
use Rattle.gba_exec_transfers.specs.Done.{Done}
use Rattle.gba_exec_registers.specs.Multiplying.{long_product, multiply_cost, multiply_long_cost, product, with_long_product, with_product}
use Rattle.gba_exec_registers.specs.Processing.{after_compare, after_compute, compare_cost, compute_cost}
use Rattle.gba_exec_registers.specs.StatusMoves.{after_read_status, after_write_status, read_status_cost, write_status_cost}
use Rattle.gba_exec_transfers.specs.Singles.{after_load, after_store, after_swap, half_distance, transfer_distance}
use Rattle.gba_exec_registers.specs.declared.site.Site.{Site}
use Rattle.gba_exec_transfers.specs.declared.units.BlockTransfer.{BlockTransfer}
use Rattle.gba_exec_transfers.specs.declared.units.LoadUnit.TheVariants as unit
use Rattle.gba_exec_transfers.specs.declared.units.SingleTransfer.{SingleTransfer}

module _ {State : Type 0} (price : Price State) (load : Load State) (store : Store State) where
  -- an operation that leaves the bus
  abbrev pub internal : State → List ℕ → ℕ → Done State
  internal bus file cycles = record { registers = file; bus = bus; cycles = cycles }

  -- a halfword or signed transfer
  abbrev pub after_half : HalfKind → SingleTransfer → Site → List ℕ → State → Done State
  after_half StoreHalf one site file bus = after_store price load store width.Half one site file bus
  after_half LoadHalf one site file bus = after_load price load store unit.Half one site file bus
  after_half LoadSignedByte one site file bus = after_load price load store unit.SignedByte one site file bus
  after_half LoadSignedHalf one site file bus = after_load price load store unit.SignedHalf one site file bus

  -- a word or byte transfer
  abbrev pub after_transfer : Bool → Bool → SingleTransfer → Site → List ℕ → State → Done State
  after_transfer is_load byte one site file bus =
      if is_load then after_load price load store (if byte then unit.Byte else unit.Word) one site file bus
      else after_store price load store (if byte then width.Byte else width.Word) one site file bus

  abbrev pub after_block : Bool → BlockTransfer → Site → List ℕ → State → Done State
  after_block is_load block site file bus =
      if is_load then after_load_block price load store block site file bus
      else after_store_block price load store block site file bus

  -- What an operation whose condition holds leaves: its effect. In the file, r15 is the address of the next
  -- instruction.
  unfoldable pub effect : ArmOp → Site → List ℕ → State → Done State
  effect (op.Exchange cond rm) site file bus =
      internal bus (after_exchange rm site file) (jump_cost (code_cost price bus site))
  effect (op.Multiply cond accumulate set rd rn rs rm) site file bus =
      internal bus (with_product set rd (product accumulate rn rs rm site file) file)
      (multiply_cost accumulate rd rs site file (code_cost price bus site))
  effect (op.MultiplyLong cond signed accumulate set hi lo rs rm) site file bus =
      internal bus (with_long_product set hi lo (long_product signed accumulate hi lo rs rm site file) file)
      (multiply_long_cost signed accumulate hi lo rs site file (code_cost price bus site))
  effect (op.Swap cond byte rn rd rm) site file bus = after_swap price load store byte rn rd rm site file bus
  effect (op.Half cond kind pre up write rn rd offset) site file bus =
      after_half kind
      (record { pre = pre; up = up; write = write; rn = rn; rd = rd; distance = half_distance offset site file })
      site file bus
  effect (op.ReadStatus cond saved rd) site file bus =
      internal bus (after_read_status saved rd file) (read_status_cost rd (code_cost price bus site))
  effect (op.WriteStatus cond saved fields source) site file bus =
      internal bus (after_write_status saved fields source site file) (write_status_cost (code_cost price bus site))
  effect (op.Compute cond kind set rn rd operand) site file bus =
      internal bus (after_compute kind set rn rd operand site file) (compute_cost rd operand (code_cost price bus site))
  effect (op.Compare cond kind rn operand) site file bus =
      internal bus (after_compare kind rn operand site file) (compare_cost operand (code_cost price bus site))
  effect (op.Transfer cond is_load byte pre up write rn rd offset) site file bus =
      after_transfer is_load byte
      (record { pre = pre; up = up; write = write; rn = rn; rd = rd; distance = transfer_distance offset site file })
      site file bus
  effect (op.Block cond is_load pre up user write rn list) site file bus =
      after_block is_load (record { pre = pre; up = up; user = user; write = write; rn = rn; list = list })
      site file bus
  effect (op.Branch cond link offset) site file bus =
      internal bus (after_branch link offset site file) (jump_cost (code_cost price bus site))
  effect (op.Interrupt cond comment) site file bus =
      internal bus (after_interrupt file) (jump_cost (code_cost price bus site))

  -- what a word of this operation leaves where its condition holds; one without an operation takes the Undefined trap
  unfoldable pub effect_of_word : Option ArmOp → Site → List ℕ → State → Done State
  effect_of_word None site file bus = internal bus (after_undefined file) (undefined_cost (code_cost price bus site))
  effect_of_word (Some operation) site file bus = effect operation site file bus
