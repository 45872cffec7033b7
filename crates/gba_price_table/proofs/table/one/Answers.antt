use Rattle.std.proofs.Common.{arith}
use Rattle.gba_bus.specs.PriceLaws.{price-within}
use Rattle.gba_price_table.proofs.table.one.Goals as goal

pub overflow_cast-result : goal.overflow_cast-result
overflow_cast-result c =
    rw c.price.ensures
    (omega (arith, (price-within c.args.region c.args.width c.args.sequential c.args.waits.now.value).most))
