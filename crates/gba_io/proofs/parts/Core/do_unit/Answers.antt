use Rattle.std.proofs.Common.{◌∙◌, sym, ap, arith, rules}
use Rattle.std.specs.Prelude.{not}
use Rattle.std.proofs.Math.Facts.{Fits-of_lt}
use Rattle.gba_devices.specs.State.{Devices}
use Rattle.gba_io.specs.BusLaws.{core_load_prices, core_store_prices}
use Rattle.gba_io.specs.Units.{outside_bios}
use Rattle.gba_io.proofs.Keeping.{unit-keeps-clock, unit-keeps-priced}
use Rattle.gba_io.proofs.parts.Core.do_unit.Goals as goal

pub overflow_add-result : goal.overflow_add-result
overflow_add-result c =
    let unit = c.args.unit in
    let read = core_load_prices c.args.self.now outside_bios unit.source unit.width (not unit.first) in
    let written =
    core_store_prices c.load-value.new.self unit.target unit.width c.load-value.result.0 (not unit.first) in
    Fits-of_lt (omega (arith, c.load-value.ensures.price, read.most, c.store-written.ensures.price, written.most))

pub overflow_add-result-2 : goal.overflow_add-result-2
overflow_add-result-2 c =
    let unit = c.args.unit in
    let read = core_load_prices c.args.self.now outside_bios unit.source unit.width (not unit.first) in
    let written =
    core_store_prices c.load-value.new.self unit.target unit.width c.load-value.result.0 (not unit.first) in
    Fits-of_lt (omega (
      arith,
      c.load-value.ensures.price,
      read.most,
      c.store-written.ensures.price,
      written.most,
      c.start_cycles.ensures.most,
    ))

pub invariant_of-self : goal.invariant_of-self
invariant_of-self c = (
  c.self.invariant.0
      ∙ sym (ap (λ (d : Devices). d.priced) c.end_unit.ensures
      ∙ unit-keeps-priced c.args.unit.channel c.self.inside.devices),
  search rules,
  omega (
    arith,
    ap (λ (d : Devices). d.clock) c.end_unit.ensures,
    unit-keeps-clock c.args.unit.channel c.self.inside.devices,
    c.self.invariant.2,
  ),
)
