use Rattle.std.proofs.Common.{subst, sym}
use Rattle.gba_psg.specs.Soundness.{AreSound}
use Rattle.gba_psg.proofs.Sound.{cycles-sound}
use Rattle.gba_psg.proofs.four.FourTones.amount_of_copy.Goals as goal

pub amount-requires : goal.amount-requires
amount-requires c = subst AreSound (sym c.advance.ensures) (cycles-sound c.args.cycles c.args.self.now c.requires.sound)
