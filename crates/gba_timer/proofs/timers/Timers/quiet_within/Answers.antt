use Rattle.std.proofs.Common.{◌≡◌, ◌∙◌, arith, rules}
use Rattle.gba_timer.specs.Skipping.{own_quiets}
use Rattle.gba_timer.proofs.Silence.{fewer-quiet, quiet-is}
use Rattle.gba_timer.proofs.timers.Timers.quiet_within.Goals as goal

pub returns-clause-value : goal.returns-clause-value
returns-clause-value c =
    let least : c.min.result ≡ own_quiets c.args.most c.args.self.now = rw (← c.self.view_is) (search rules) in
    least ∙ quiet-is c.args.most c.args.self.now

pub returns-clause-all : goal.returns-clause-all
returns-clause-all c =
    let is = returns-clause-value c in
    λ count within. fewer-quiet c.args.most count c.args.self.now (omega (arith, within, is))
