use Rattle.gba_mem.proofs.Keeping.{stores-keep-video}
use Rattle.gba_mem.proofs.laws.stores_keep_video.Goals as goal

pub returns : goal.returns
returns c = stores-keep-video
