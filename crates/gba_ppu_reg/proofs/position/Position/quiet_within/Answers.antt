use Rattle.std.proofs.Common.{◌≡◌, ◌-◌, ◌∙◌, arith, rules}
use Rattle.std.specs.Prelude.{min}
use Rattle.gba_ppu_reg.specs.Position.{distance}
use Rattle.gba_ppu_reg.proofs.Silence.{fewer-quiet, quiet-is}
use Rattle.gba_ppu_reg.proofs.position.Position.quiet_within.Goals as goal

pub returns-clause-value : goal.returns-clause-value
returns-clause-value c =
    let p = c.args.self.now in
    let nearest : c.min.result ≡ min (min (distance 1006 p) (distance 0 p) - 1) c.args.most = search rules in
    nearest ∙ quiet-is c.args.most p c.requires

pub returns-clause-all : goal.returns-clause-all
returns-clause-all c =
    let is = returns-clause-value c in
    λ count within. fewer-quiet c.args.most count c.args.self.now (omega (arith, within, is))
