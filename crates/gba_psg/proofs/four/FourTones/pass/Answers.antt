use Rattle.std.proofs.Common.{◌+◌, ap, ◌∙◌, arith}
use Rattle.gba_psg.specs.declared.four.FourTones.{FourTones}
use Rattle.gba_psg.specs.Running.{run}
use Rattle.gba_psg.proofs.Cycling.{passes, sound-waits}
use Rattle.gba_psg.proofs.four.FourTones.pass.Goals as goal

pub overflow_add-self : goal.overflow_add-self
unfolding run
overflow_add-self c =
    let same = ap (λ (ts : FourTones). ts.sequencer) c.run.ensures in
    omega (arith, same, c.requires.sound.sequencer, c.requires.most)

pub returns : goal.returns
returns c =
    (λ i. record (c.run.ensures i) { sequencer = (c.run.ensures i).sequencer + c.args.cycles })
    ∙ passes c.args.cycles c.args.self.now c.requires.on (sound-waits c.args.self.now c.requires.sound)
    c.requires.before c.requires.sound.sequencer
