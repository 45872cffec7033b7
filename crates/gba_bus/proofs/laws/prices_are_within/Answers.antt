use Rattle.gba_bus.specs.PriceLaws.{price-within}
use Rattle.gba_bus.proofs.laws.prices_are_within.Goals as goal

pub returns : goal.returns
returns c = price-within
