use Rattle.std.proofs.Common.{arith}
use Rattle.link_core.proofs.Reaching.{short_hop}
use Rattle.link_core.proofs.whole.reach.Goals as goal

pub overflow_add-result : goal.overflow_add-result
overflow_add-result g c =
    let short = short_hop c.args.delays.now c.args.sender c.args.receiver c.requires.delays in
    omega (arith, c.clock_of.ensures.small, c.hop.ensures, short)

pub returns-clause-small : goal.returns-clause-small
returns-clause-small g c =
    let short = short_hop c.args.delays.now c.args.sender c.args.receiver c.requires.delays in
    omega (arith, c.clock_of.ensures.small, c.hop.ensures, short)
