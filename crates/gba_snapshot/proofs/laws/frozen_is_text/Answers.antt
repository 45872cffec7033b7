use Rattle.gba_snapshot.proofs.Text.{frozen-text}
use Rattle.gba_snapshot.proofs.laws.frozen_is_text.Goals as goal

pub returns : goal.returns
returns c = λ digest until cut. frozen-text digest until cut
