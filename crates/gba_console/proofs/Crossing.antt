-- A console may cross threads, and be seen by several.
use Rattle.std.specs.Prelude.{List, [], ◌∷◌, take}
use Rattle.std.proofs.Common.{ℕ, zero, suc, drop}
use mir.Syntax.{w8, w16, w32}
use denote.Enum.Declared.{variants, shape}
use denote.Param.Send.{IsSend, IsSync, EachSend, EachSync, sendable, enum_send, enum_sync}
use denote.Param.Send.{arg_send, arg_sync, copied_send, copied_sync, param_send, param_sync}
use denote.Plain.{UInt, Boolean}
use denote.RattleType.{RattleType}
use Rattle.std.proofs.Crossing.{crosses}
use Rattle.gba_arm_exec.specs.contracts.decoded.Decoded as Decoded
use Rattle.gba_arm_table.specs.contracts.operation.ArmOp as ArmOp
use Rattle.gba_arm_table.specs.contracts.operation.ComputeOp as ComputeOp
use Rattle.gba_arm_table.specs.contracts.operation.Condition as Condition
use Rattle.gba_bus.specs.contracts.width.Width as Width
use Rattle.gba_exec_transfers.specs.contracts.units.BlockTransfer as BlockTransfer
use Rattle.gba_exec_transfers.specs.contracts.units.LoadUnit as LoadUnit
use Rattle.gba_exec_transfers.specs.contracts.units.PlainBlock as PlainBlock
use Rattle.gba_exec_transfers.specs.contracts.units.SingleTransfer as SingleTransfer
use Rattle.gba_word.specs.contracts.kinds.Shift as Shift
use Rattle.gba_console.specs.contracts.Console as Console
use Rattle.gba_console.specs.contracts.fixed.KeptHalf as KeptHalf
use Rattle.gba_console.specs.contracts.keys.KeyState as KeyState
use Rattle.gba_exec_quick.specs.contracts.quick.Quick as Quick
use Rattle.gba_io.proofs.Crossing.{board_send, board_sync}
use Rattle.gba_psr.specs.contracts.apart.RegisterFile as RegisterFile
use Rattle.gba_thumb_exec.specs.contracts.forms.DecodedHalf as DecodedHalf
use Rattle.gba_thumb_exec.specs.contracts.forms.Form as Form

-- An enum's variants in two parts, since a search for many at once takes too many steps.
split_send : (n : ℕ) (Tss : List (List RattleType)) → EachSend (take n Tss) → EachSend (drop n Tss) → EachSend Tss
split_send zero Tss first rest = rest
split_send (suc n) [] first rest = tt
split_send (suc n) (Ts ∷ Tss) first rest = (first.0, split_send n Tss first.1 rest)

split_sync : (n : ℕ) (Tss : List (List RattleType)) → EachSync (take n Tss) → EachSync (drop n Tss) → EachSync Tss
split_sync zero Tss first rest = rest
split_sync (suc n) [] first rest = tt
split_sync (suc n) (Ts ∷ Tss) first rest = (first.0, split_sync n Tss first.1 rest)

byte_send : IsSend (UInt w8)
byte_send = search sendable

halfword_send : IsSend (UInt w16)
halfword_send = search sendable

word_send : IsSend (UInt w32)
word_send = search sendable

test_send : IsSend Boolean
test_send = search sendable

compute_send : IsSend (ComputeOp.the_field).row
compute_send = search sendable depth 80 fits 100000

condition_send : IsSend (Condition.the_field).row
condition_send = search sendable depth 80 fits 100000

width_send : IsSend (Width.the_field).row
width_send = search sendable depth 80 fits 100000

shift_send : IsSend (Shift.the_field).row
shift_send = search sendable depth 80 fits 100000

block_send : IsSend (BlockTransfer.the_field).row
block_send = search sendable depth 80 fits 100000

unit_send : IsSend (LoadUnit.the_field).row
unit_send = search sendable depth 80 fits 100000

plain_block_send : IsSend (PlainBlock.the_field).row
plain_block_send = search sendable depth 80 fits 100000

single_send : IsSend (SingleTransfer.the_field).row
single_send = search sendable depth 80 fits 100000

operation_send : IsSend (ArmOp.the_field).row
operation_send = search sendable depth 80 fits 100000

ruleset parts_send = (
  tt,
  arg_send,
  copied_send,
  param_send,
  byte_send,
  halfword_send,
  word_send,
  test_send,
  compute_send,
  condition_send,
  width_send,
  shift_send,
  block_send,
  unit_send,
  plain_block_send,
  single_send,
  operation_send,
)

quick_send : IsSend (Quick.the_field).row
quick_send =
    let all : List (List RattleType) = variants Quick.the_type in
    enum_send (shape Quick.the_type)
    (split_send 16 all (search parts_send depth 40 fits 20000)
    (split_send 16 (drop 16 all) (search parts_send depth 40 fits 20000)
    (split_send 16 (drop 16 (drop 16 all)) (search parts_send depth 40 fits 20000)
    (search parts_send depth 40 fits 20000))))

form_send : IsSend (Form.the_field).row
form_send =
    let all : List (List RattleType) = variants Form.the_type in
    enum_send (shape Form.the_type)
    (split_send 16 all (search (parts_send, quick_send) depth 40 fits 20000)
    (split_send 16 (drop 16 all) (search (parts_send, quick_send) depth 40 fits 20000)
    (search (parts_send, quick_send) depth 40 fits 20000)))

decoded_send : IsSend Decoded.the_row
decoded_send = search (quick_send, sendable) depth 40 fits 20000

half_send : IsSend (DecodedHalf.the_field).row
half_send = search (form_send, sendable) depth 40 fits 20000

kept_send : IsSend KeptHalf.the_row
kept_send = search (half_send, sendable) depth 40 fits 20000

keys_send : IsSend KeyState.the_row
keys_send = search sendable depth 20

registers_send : IsSend (RegisterFile.the_field).row
registers_send = search sendable depth 40 fits 20000

pub console_send : IsSend Console.the_row
console_send =
    search (board_send, registers_send, decoded_send, kept_send, keys_send, crosses, sendable) depth 60 fits 100000

byte_sync : IsSync (UInt w8)
byte_sync = search sendable

halfword_sync : IsSync (UInt w16)
halfword_sync = search sendable

word_sync : IsSync (UInt w32)
word_sync = search sendable

test_sync : IsSync Boolean
test_sync = search sendable

compute_sync : IsSync (ComputeOp.the_field).row
compute_sync = search sendable depth 80 fits 100000

condition_sync : IsSync (Condition.the_field).row
condition_sync = search sendable depth 80 fits 100000

width_sync : IsSync (Width.the_field).row
width_sync = search sendable depth 80 fits 100000

shift_sync : IsSync (Shift.the_field).row
shift_sync = search sendable depth 80 fits 100000

block_sync : IsSync (BlockTransfer.the_field).row
block_sync = search sendable depth 80 fits 100000

unit_sync : IsSync (LoadUnit.the_field).row
unit_sync = search sendable depth 80 fits 100000

plain_block_sync : IsSync (PlainBlock.the_field).row
plain_block_sync = search sendable depth 80 fits 100000

single_sync : IsSync (SingleTransfer.the_field).row
single_sync = search sendable depth 80 fits 100000

operation_sync : IsSync (ArmOp.the_field).row
operation_sync = search sendable depth 80 fits 100000

ruleset parts_sync = (
  tt,
  arg_sync,
  copied_sync,
  param_sync,
  byte_sync,
  halfword_sync,
  word_sync,
  test_sync,
  compute_sync,
  condition_sync,
  width_sync,
  shift_sync,
  block_sync,
  unit_sync,
  plain_block_sync,
  single_sync,
  operation_sync,
)

quick_sync : IsSync (Quick.the_field).row
quick_sync =
    let all : List (List RattleType) = variants Quick.the_type in
    enum_sync (shape Quick.the_type)
    (split_sync 16 all (search parts_sync depth 40 fits 20000)
    (split_sync 16 (drop 16 all) (search parts_sync depth 40 fits 20000)
    (split_sync 16 (drop 16 (drop 16 all)) (search parts_sync depth 40 fits 20000)
    (search parts_sync depth 40 fits 20000))))

form_sync : IsSync (Form.the_field).row
form_sync =
    let all : List (List RattleType) = variants Form.the_type in
    enum_sync (shape Form.the_type)
    (split_sync 16 all (search (parts_sync, quick_sync) depth 40 fits 20000)
    (split_sync 16 (drop 16 all) (search (parts_sync, quick_sync) depth 40 fits 20000)
    (search (parts_sync, quick_sync) depth 40 fits 20000)))

decoded_sync : IsSync Decoded.the_row
decoded_sync = search (quick_sync, sendable) depth 40 fits 20000

half_sync : IsSync (DecodedHalf.the_field).row
half_sync = search (form_sync, sendable) depth 40 fits 20000

kept_sync : IsSync KeptHalf.the_row
kept_sync = search (half_sync, sendable) depth 40 fits 20000

keys_sync : IsSync KeyState.the_row
keys_sync = search sendable depth 20

registers_sync : IsSync (RegisterFile.the_field).row
registers_sync = search sendable depth 40 fits 20000

pub console_sync : IsSync Console.the_row
console_sync =
    search (board_sync, registers_sync, decoded_sync, kept_sync, keys_sync, crosses, sendable) depth 60 fits 100000
