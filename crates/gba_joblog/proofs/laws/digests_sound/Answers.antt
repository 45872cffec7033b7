use Rattle.gba_joblog.proofs.Digests.{IsDigest-sha256}
use Rattle.gba_joblog.proofs.laws.digests_sound.Goals as goal

pub returns : goal.returns
returns c = record { law = IsDigest-sha256 }
