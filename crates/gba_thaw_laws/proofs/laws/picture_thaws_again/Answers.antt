use Rattle.gba_thaw_laws.proofs.Picture.{picture-again}
use Rattle.gba_thaw_laws.proofs.laws.picture_thaws_again.Goals as goal

pub returns : goal.returns
returns c = picture-again
