use Rattle.std.proofs.Common.{sym}
use Rattle.gba_psg.proofs.Ticking.{still-cycles}
use Rattle.gba_psg.proofs.four.FourTones.advance.Goals as goal

pub returns-then-not-self : goal.returns-then-not-self
returns-then-not-self c = sym (still-cycles c.args.cycles c.args.self.now c.if-not-self.true)
