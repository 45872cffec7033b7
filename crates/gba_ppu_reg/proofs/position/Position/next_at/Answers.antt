use Rattle.std.proofs.Common.{arith}
use Rattle.gba_ppu_reg.proofs.Moving.{comes_later, comes_within}
use Rattle.gba_ppu_reg.proofs.position.Position.next_at.Goals as goal

pub returns-then-distance-cycles : goal.returns-then-distance-cycles
returns-then-distance-cycles c =
    comes_within c.distance-distance.result c.args.dot c.args.cycles c.args.self.now c.requires.dot c.requires.sound.dot
    (omega (arith, c.requires.most)) c.distance-distance.ensures.value c.if-distance-cycles.true

pub returns-else-distance-cycles : goal.returns-else-distance-cycles
returns-else-distance-cycles c =
    comes_later c.distance-distance.result c.args.dot c.args.cycles c.args.self.now c.requires.dot c.requires.sound.dot
    (omega (arith, c.requires.most)) c.distance-distance.ensures.value c.if-distance-cycles.false
