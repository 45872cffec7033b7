use Rattle.gba_timer.specs.Skipping.{after_skip}
use Rattle.gba_timer.proofs.Silence.{each-within, skip-within}
use Rattle.gba_timer.proofs.timers.Timers.skip.Goals as goal

pub skip-requires-clause-quiet : goal.skip-requires-clause-quiet
skip-requires-clause-quiet c = (each-within c.args.cycles _ c.args.self.now c.self.view_is c.requires.quiet).timer0

pub skip-requires-2-clause-quiet : goal.skip-requires-2-clause-quiet
skip-requires-2-clause-quiet c = (each-within c.args.cycles _ c.args.self.now c.self.view_is c.requires.quiet).timer1

pub skip-requires-3-clause-quiet : goal.skip-requires-3-clause-quiet
skip-requires-3-clause-quiet c = (each-within c.args.cycles _ c.args.self.now c.self.view_is c.requires.quiet).timer2

pub skip-requires-4-clause-quiet : goal.skip-requires-4-clause-quiet
skip-requires-4-clause-quiet c = (each-within c.args.cycles _ c.args.self.now c.self.view_is c.requires.quiet).timer3

pub returns : goal.returns
unfolding after_skip
returns c =
    skip-within c.args.cycles _ c.args.self.now _ c.self.view_is c.requires.quiet
    (λ i. record {
      timer0 = c.skip.ensures i;
      timer1 = c.skip-2.ensures i;
      timer2 = c.skip-3.ensures i;
      timer3 = c.skip-4.ensures i;
    })
