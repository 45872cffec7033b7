use Rattle.std.proofs.Common.{◌+◌, arith, ap}
use Rattle.std.specs.Prelude.{length}
use Rattle.link_order.specs.Due.{arrival_of, player_of}
use Rattle.link_node.proofs.DelayLaws.{hop_within}
use Rattle.link_core.proofs.Keeping.{length-place}
use Rattle.link_run.proofs.opening.put_one.Goals as goal

pub overflow_add-arrival : goal.overflow_add-arrival
overflow_add-arrival c =
    let short = hop_within c.args.delays.now c.requires.within c.args.one.now.sender c.args.player in
    omega (arith, c.hop.ensures, short)

pub returns-then-arrival-was-clause-len : goal.returns-then-arrival-was-clause-len
returns-then-arrival-was-clause-len c =
    omega (
      arith,
      ap length c.put.ensures,
      length-place arrival_of player_of (record {
        sender = c.args.one.now.sender;
        arrival = c.args.one.now.signal.clock + c.hop.result;
        signal = c.args.one.now.signal;
      }) c.args.inbox.now.waits,
    )
