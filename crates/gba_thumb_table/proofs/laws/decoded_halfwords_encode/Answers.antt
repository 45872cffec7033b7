use Rattle.gba_thumb_table.proofs.RoundTrip.{operation-again}
use Rattle.gba_thumb_table.proofs.laws.decoded_halfwords_encode.Goals as goal

pub returns : goal.returns
returns c = operation-again
