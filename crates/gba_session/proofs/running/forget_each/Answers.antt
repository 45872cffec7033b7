use Rattle.std.proofs.Common.{arith}
use Rattle.gba_session.proofs.Forgetting.{all-forgotten, all-limits, clock-near}
use Rattle.gba_session.proofs.running.forget_each.Goals as goal

pub room_end-end-requires-clause-near : goal.room_end-end-requires-clause-near
room_end-end-requires-clause-near c =
    clock-near c.args.until c.loop-player.player c.args.consoles.now.items c.loop-player.consoles.items
    c.index_mut-console.result.now c.loop-player.invariant
    (omega (arith, c.loop-player-test.true, c.len-player-end.ensures, c.loop-player.invariant.many))
    c.index_mut-console.ensures.value c.requires.near

pub returns-clause-plain : goal.returns-clause-plain
returns-clause-plain c =
    all-forgotten c.args.until c.loop-player.player c.args.consoles.now.items c.loop-player.consoles.items
    (omega (arith, c.loop-player-test.false, c.len-player-end.ensures)) c.loop-player.invariant

pub returns-clause-limits : goal.returns-clause-limits
returns-clause-limits c =
    all-limits c.args.until c.loop-player.player c.args.consoles.now.items c.loop-player.consoles.items
    (omega (arith, c.loop-player-test.false, c.len-player-end.ensures)) c.loop-player.invariant
