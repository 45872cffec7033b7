use Rattle.std.proofs.Common.{arith}
use Rattle.std.proofs.Math.Facts.{Fits-of_lt}
use Rattle.gba_ppu_reg.proofs.Moving.{within_line}
use Rattle.gba_ppu_reg.proofs.Silence.{skip-within}
use Rattle.gba_ppu_reg.proofs.position.Position.skip.Goals as goal

pub overflow_add-self : goal.overflow_add-self
overflow_add-self c =
    let within = skip-within c.args.cycles c.args.self.now c.requires.sound c.requires.quiet in
    Fits-of_lt (omega (arith, within))

pub returns-clause-position : goal.returns-clause-position
returns-clause-position c =
    within_line c.args.cycles c.args.self.now
    (skip-within c.args.cycles c.args.self.now c.requires.sound c.requires.quiet)

pub returns-clause-sound : goal.returns-clause-sound
returns-clause-sound c = record {
  line = c.requires.sound.line;
  dot = skip-within c.args.cycles c.args.self.now c.requires.sound c.requires.quiet;
}
