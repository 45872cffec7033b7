use Rattle.std.proofs.Common.{sym}
use Rattle.gba_sound.proofs.Silence.{still}
use Rattle.gba_sound.proofs.queues.Queues.skip.Goals as goal

pub returns : goal.returns
returns c = sym (still c.args.cycles c.args.timers.now c.args.self.now c.requires)
