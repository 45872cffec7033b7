use Rattle.std.proofs.Common.{◌+◌, ap, subst, sym, ◌∙◌, arith}
use Rattle.gba_psg.specs.declared.four.FourTones.{FourTones}
use Rattle.gba_psg.specs.Tones.{counted}
use Rattle.gba_psg.specs.Running.{run}
use Rattle.gba_psg.specs.Soundness.{AreSound}
use Rattle.gba_psg.proofs.Sound.{counted-sound, ticked-sound}
use Rattle.gba_psg.proofs.Ticking.{passes-tick}
use Rattle.gba_psg.proofs.four.FourTones.pass_tick.Goals as goal

pub run-requires-clause-sound : goal.run-requires-clause-sound
run-requires-clause-sound c =
    let ts = c.args.self.now in
    let on = c.requires.on in
    subst AreSound (sym c.tick.ensures) (ticked-sound (counted ts) on (counted-sound ts on c.requires.sound))

pub overflow_add-self-2 : goal.overflow_add-self-2
unfolding run
overflow_add-self-2 c =
    let ts = c.args.self.now in
    let on = c.requires.on in
    let sound =
    subst AreSound (sym c.tick.ensures) (ticked-sound (counted ts) on (counted-sound ts on c.requires.sound)) in
    let same = ap (λ (t : FourTones). t.sequencer) c.run.ensures in
    omega (arith, same, sound.sequencer, c.requires.most)

pub returns : goal.returns
returns c =
    let ts = c.args.self.now in
    let there = c.run.ensures ∙ ap (run (c.args.more + 1)) c.tick.ensures in
    (λ i. record (there i) { sequencer = (there i).sequencer + c.args.more })
    ∙ passes-tick c.args.more ts c.requires.on c.requires.sound c.requires.before c.requires.most
