use Rattle.std.proofs.Common.{◌≡◌, ◌+◌, ◌*◌, ◌^◌, ◌<◌, ◌≤◌, false, length}
use Rattle.gba_exec_transfers.specs.Blocks.{registers_in, stores}
use Rattle.gba_exec_transfers.proofs.blocks.store_list.Given as goal

-- what is left of the list leads to the same end
abbrev pub invariant-listed : goal.invariant-listed
invariant-listed g l = record {
  small : l.left < 2 ^ 16;
  bounded : l.total + 18 * length (registers_in l.left 0 16) ≤ l.fn.cycles + 288;
  rest :
      stores g.B.Bus.code_price_of g.B.Bus.load_of g.B.Bus.store_of l.fn.block.user l.fn.site l.fn.block.write
      l.fn.block.rn l.fn.run.base (registers_in l.left 0 16) l.address l.sequential
      (record { registers = l.registers; bus = g.B.Bus.state l.bus; cycles = l.total })
      ≡ stores g.B.Bus.code_price_of g.B.Bus.load_of g.B.Bus.store_of l.fn.block.user l.fn.site l.fn.block.write
      l.fn.block.rn l.fn.run.base (registers_in l.fn.run.list 0 16) l.fn.run.first false
      (record { registers = l.fn.registers; bus = g.B.Bus.state l.fn.bus; cycles = l.fn.cycles });
}

abbrev pub decreases-listed : goal.decreases-listed
decreases-listed g l = l.left
