use Rattle.std.specs.Prelude.{◌≡◌, ℕ, ◌<◌, ◌^◌, ◌==◌, Bool, false, not, nat_lt, ◌&&◌}
use Rattle.gba_terms.specs.Bits.{bit}
use Rattle.gba_exec_transfers.specs.Blocks.{lowest, span}
use Rattle.gba_exec_transfers.specs.Singles.{offset_address}
use Rattle.gba_exec_transfers.specs.declared.units.BlockTransfer.{BlockTransfer}
use Rattle.gba_exec_transfers.specs.declared.units.PlainBlock.{PlainBlock}

-- Blocks that ask nothing about the S bit, r15 or an empty list, with what their lists say worked out once.

-- no S bit, r15 neither the base nor in the list, and a list that isn't empty
abbrev pub is_plain : BlockTransfer → Bool
is_plain block = not block.user && nat_lt block.rn 15 && not (block.list == 0) && nat_lt block.list (2 ^ 15)

-- A base that is in the list isn't written by LDM. How far the first access is from the base and how far the base
-- moves, modulo 2 ^ 32: where they are at a base of 0.
abbrev pub plain_of : BlockTransfer → PlainBlock
plain_of block =
    record {
      block = block;
      load_writes = block.write && not (bit block.list block.rn);
      first = lowest block.pre block.up 0 (span block.list);
      moved = offset_address block.up 0 (span block.list);
    }

pub record IsPlain (plain : PlainBlock) : Type 0 where
  pub present : plain.block.user ≡ false
  pub rn : plain.block.rn < 15
  pub some : 0 < plain.block.list
  pub list : plain.block.list < 2 ^ 15
  pub whole : plain ≡ plain_of plain.block
