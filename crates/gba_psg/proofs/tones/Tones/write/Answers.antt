use Rattle.std.proofs.Common.{subst, sym}
use Rattle.gba_psg.specs.Soundness.{AreSound}
use Rattle.gba_psg.proofs.Sound.{stored-sound}
use Rattle.gba_psg.proofs.tones.Tones.write.Goals as goal

pub invariant_of-self : goal.invariant_of-self
invariant_of-self c =
    subst AreSound (sym c.set.ensures)
    (stored-sound c.args.offset _ c.bit-starts.result c.self.inside.four c.self.invariant)
