use Rattle.std.proofs.Common.{rules, arith, nat_lt, ◌<◌, ◌↔◌, IsTrue}
use Rattle.link_core.specs.Leave.{IsBelowAll}
use Rattle.link_core.proofs.Leaves.{leave}
use Rattle.link_core.proofs.horizon.may_step.Goals as goal

pub returns-clause-leave : goal.returns-clause-leave
returns-clause-leave c i known between within are hops =
    let test : IsTrue (nat_lt c.args.clock c.args.until) ↔ (c.args.clock < c.args.until) = search rules in
    let below : IsBelowAll c.args.clock c.args.seen.now c.args.delays.now
    = λ place d inside. c.loop-place.invariant place d (omega arith) in
    let by_peers =
    leave c.args.clock c.args.until i known between c.args.seen.now c.args.delays.now c.requires.many within
    are hops in
    ((λ t. by_peers.0 (test.0 t, below)), (λ m. test.1 (by_peers.1 m).0))
