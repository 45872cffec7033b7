use Rattle.std.proofs.Common.{subst, sym}
use Rattle.gba_psg.specs.Soundness.{AreSound}
use Rattle.gba_psg.proofs.Sound.{cycles-sound}
use Rattle.gba_psg.proofs.tones.Tones.advance.Goals as goal

pub invariant_of-self : goal.invariant_of-self
invariant_of-self c =
    subst AreSound (sym c.advance.ensures) (cycles-sound c.args.cycles c.self.inside.four c.self.invariant)
