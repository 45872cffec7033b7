use Rattle.gba_generator.proofs.Assembled.{is-code}
use Rattle.gba_generator.proofs.laws.assembled.Goals as goal

pub returns : goal.returns
returns c = record { law = is-code }
