use Rattle.gba_flash.proofs.Kept.{keeps-bytes}
use Rattle.gba_flash.proofs.laws.keeps_bytes.Goals as goal

pub returns : goal.returns
returns c = keeps-bytes
