use Rattle.std.proofs.Common.{◌≡◌, ◌<◌, false, true, refl, ap, sym, ◌∙◌, arith}
use Rattle.gba_exec_transfers.proofs.PlainBlocks.{stores_next}
use Rattle.gba_exec_transfers.proofs.Runs.{stores_done}
use Rattle.gba_exec_transfers.proofs.Scanning.{most_listed, one_more_listed}
use Rattle.gba_exec_transfers.proofs.plain.store_listed.Goals as goal

pub listed-init : goal.listed-init
listed-init g c = record {
  small = c.requires.list;
  bounded = omega (arith, most_listed c.args.list (omega arith));
  rest = refl;
}

pub listed-preserved : goal.listed-preserved
listed-preserved g c =
    let some : 0 < c.listed.left = omega arith in
    record {
      small = omega arith;
      bounded = rw c.rest_of-left.ensures.value (omega (arith, one_more_listed c.listed.left some (omega arith)));
      rest =
          stores_next g.B.Bus.code_price_of g.B.Bus.load_of g.B.Bus.store_of c.args.site c.listed.left c.first_of.result
          c.rest_of-left.result c.listed.address c.args.registers.now
          (g.B.Bus.state c.listed.bus) (g.B.Bus.state c.store_one-total.new.bus) c.listed.total c.store_one-total.result
          some c.listed.invariant.small c.first_of.ensures.value c.rest_of-left.ensures.value
          c.store_one-total.ensures.bus c.store_one-total.ensures.price
          ∙ c.listed.invariant.rest;
    }

pub returns : goal.returns
returns g c =
    let none : c.listed.left ≡ 0 = omega arith in
    let whole =
    sym (stores_done g.B.Bus.code_price_of g.B.Bus.load_of g.B.Bus.store_of false c.args.site false 0 0 c.listed.left
    c.listed.address true
    (record { registers = c.args.registers.now; bus = g.B.Bus.state c.listed.bus; cycles = c.listed.total }) none)
    ∙ c.listed.invariant.rest
    in
    record {
      leaves =
          record {
            registers_left = ap (λ done. done.registers) whole;
            bus_left = ap (λ done. done.bus) whole;
            cycles_taken = ap (λ done. done.cycles) whole;
          };
    }
