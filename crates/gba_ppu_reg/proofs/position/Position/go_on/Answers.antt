use Rattle.std.proofs.Common.{arith}
use Rattle.gba_ppu_reg.proofs.Moving.{past_line, within_line}
use Rattle.gba_ppu_reg.proofs.position.Position.go_on.Goals as goal

pub returns-then-moved-lt1232-clause-position : goal.returns-then-moved-lt1232-clause-position
returns-then-moved-lt1232-clause-position c = within_line c.args.cycles c.args.self.now c.if-moved-lt1232.true

pub returns-else-moved-lt1232-clause-position : goal.returns-else-moved-lt1232-clause-position
returns-else-moved-lt1232-clause-position c =
    past_line c.args.cycles c.following_line-self.result c.args.self.now c.requires.sound.dot
    (omega (arith, c.requires.most)) c.following_line-self.ensures c.if-moved-lt1232.false
