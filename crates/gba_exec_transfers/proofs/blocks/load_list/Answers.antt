use Rattle.std.proofs.Common.{◌≡◌, ◌<◌, refl, ap, sym, ◌∙◌, arith}
use Rattle.gba_exec_transfers.proofs.Runs.{loads_done, loads_first}
use Rattle.gba_exec_transfers.proofs.Scanning.{most_listed, one_more_listed}
use Rattle.gba_exec_transfers.proofs.blocks.load_list.Goals as goal

pub listed-init : goal.listed-init
listed-init g c = record {
  small = c.requires.list;
  bounded = omega (arith, most_listed c.args.list c.requires.list);
  rest = refl;
}

pub listed-preserved : goal.listed-preserved
listed-preserved g c =
    let some : 0 < c.listed.left = omega arith in
    record {
      small = omega arith;
      bounded =
          rw c.rest_of-left.ensures.value (omega (arith, one_more_listed c.listed.left some c.listed.invariant.small));
      rest =
          loads_first g.B.Bus.code_price_of g.B.Bus.load_of g.B.Bus.store_of c.args.user c.args.site c.listed.left
          c.first_of.result c.rest_of-left.result c.listed.address c.listed.sequential c.listed.registers
          c.load_register-total.new.registers (g.B.Bus.state c.listed.bus) (g.B.Bus.state c.load_register-total.new.bus)
          c.listed.total c.load_register-total.result some c.listed.invariant.small c.first_of.ensures.value
          c.rest_of-left.ensures.value c.load_register-total.ensures.registers c.load_register-total.ensures.bus
          c.load_register-total.ensures.price
          ∙ c.listed.invariant.rest;
    }

pub returns-clause-leaves : goal.returns-clause-leaves
returns-clause-leaves g c =
    let none : c.listed.left ≡ 0 = omega arith in
    let whole =
    sym (loads_done g.B.Bus.code_price_of g.B.Bus.load_of g.B.Bus.store_of c.args.user c.args.site c.listed.left
    c.listed.address c.listed.sequential
    (record { registers = c.listed.registers; bus = g.B.Bus.state c.listed.bus; cycles = c.listed.total }) none)
    ∙ c.listed.invariant.rest
    in
    record {
      registers_left = ap (λ done. done.registers) whole;
      bus_left = ap (λ done. done.bus) whole;
      cycles_taken = ap (λ done. done.cycles) whole;
    }
