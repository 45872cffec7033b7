use Rattle.std.proofs.Common.{◌≡◌, ◌+◌, ◌*◌, ◌^◌, ◌<◌, ◌≤◌, false, true, length}
use Rattle.gba_exec_transfers.specs.Blocks.{registers_in, stores}
use Rattle.gba_exec_transfers.proofs.plain.store_listed.Given as goal

-- what is left of the list leads to the same end
abbrev pub invariant-listed : goal.invariant-listed
invariant-listed g l = record {
  small : l.left < 2 ^ 15;
  bounded : l.total + 18 * length (registers_in l.left 0 16) ≤ l.fn.cycles + 288;
  rest :
      stores g.B.Bus.code_price_of g.B.Bus.load_of g.B.Bus.store_of false l.fn.site false 0 0 (registers_in l.left 0 16)
      l.address true (record { registers = l.fn.registers; bus = g.B.Bus.state l.bus; cycles = l.total })
      ≡ stores g.B.Bus.code_price_of g.B.Bus.load_of g.B.Bus.store_of false l.fn.site false 0 0
      (registers_in l.fn.list 0 16) l.fn.first true
      (record { registers = l.fn.registers; bus = g.B.Bus.state l.fn.bus; cycles = l.fn.cycles });
}

abbrev pub decreases-listed : goal.decreases-listed
decreases-listed g l = l.left
