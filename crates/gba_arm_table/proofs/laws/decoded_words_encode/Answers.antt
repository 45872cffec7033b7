use Rattle.gba_arm_table.proofs.RoundTrip.{operation-again}
use Rattle.gba_arm_table.proofs.laws.decoded_words_encode.Goals as goal

pub returns : goal.returns
returns c = operation-again
