use Rattle.gba_ppu_mix.proofs.Foremost.{of_layers, two_layers}
use Rattle.gba_ppu_mix.proofs.laws.the_two_foremost_are_kept.Goals as goal

pub returns-clause-foremost : goal.returns-clause-foremost
returns-clause-foremost c = of_layers

pub returns-clause-two : goal.returns-clause-two
returns-clause-two c = two_layers
