use Rattle.std.proofs.Common.{◌≤◌, ap, subst, sym, arith}
use Rattle.std.specs.Prelude.{pos}
use Rattle.gba_psg.proofs.Amounts.{left-off-after, right-off-after}
use Rattle.gba_psg.proofs.four.FourTones.amount_after.Goals as goal

pub returns-then-not-self-clause-left : goal.returns-then-not-self-clause-left
returns-then-not-self-clause-left c =
    ap pos (sym (left-off-after c.args.cycles c.args.self.now c.requires.sound c.if-not-self.true))

pub returns-then-not-self-clause-right : goal.returns-then-not-self-clause-right
returns-then-not-self-clause-right c =
    ap pos (sym (right-off-after c.args.cycles c.args.self.now c.requires.sound c.if-not-self.true))

pub returns-then-not-self-clause-most_left : goal.returns-then-not-self-clause-most_left
returns-then-not-self-clause-most_left c =
    subst (λ n. n ≤ 15360) (sym (left-off-after c.args.cycles c.args.self.now c.requires.sound c.if-not-self.true))
    (omega arith)

pub returns-then-not-self-clause-most_right : goal.returns-then-not-self-clause-most_right
returns-then-not-self-clause-most_right c =
    subst (λ n. n ≤ 15360) (sym (right-off-after c.args.cycles c.args.self.now c.requires.sound c.if-not-self.true))
    (omega arith)
