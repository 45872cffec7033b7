use Rattle.std.proofs.Common.{arith, ◌∙◌}
use Rattle.link_core.proofs.Keeping.{limits_stay}
use Rattle.link_run.proofs.run.go_on.Goals as goal

pub go_serial-requires : goal.go_serial-requires
go_serial-requires g c =
    let nearer = c.go_round-cut.ensures c.requires.0 c.requires.1 c.requires.2 in
    limits_stay g.N.Node.bound c.go_round-cut.result.consoles c.requires.0.consoles c.args.until nearer.limits
    c.requires.2

pub returns : goal.returns
returns g c cut begins all =
    let nearer = c.go_round-cut.ensures cut begins all in
    record {
      same_end = c.go_serial.ensures.same_end ∙ nearer.same_end;
      fewer = λ early. omega (arith, nearer.fewer early, c.go_serial.ensures.no_more);
      limits = c.go_serial.ensures.limits ∙ nearer.limits;
    }
