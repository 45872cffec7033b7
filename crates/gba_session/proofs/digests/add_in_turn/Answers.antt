use Rattle.std.proofs.Common.{◌<◌, length, arith}
use Rattle.gba_session.proofs.Hashing.{all-add}
use Rattle.gba_session.proofs.SoFar.{so-far-more}
use Rattle.gba_session.specs.Digests.{AddsHere}
use Rattle.gba_session.proofs.digests.add_in_turn.Goals as goal

pub loop-player-preserved : goal.loop-player-preserved
loop-player-preserved c =
    let i = c.loop-player.player in
    let held = c.loop-player.invariant in
    let within : i < length c.loop-player.each.items =
    omega (arith, c.loop-player-test.true, c.len-player-end.ensures, held.many) in
    so-far-more (AddsHere c.args.session.now) i c.args.each.now.items c.loop-player.each.items c.index_mut.result.now
    c.add_all.new.hashers held within c.index_mut.ensures.value c.add_all.ensures

pub returns : goal.returns
returns c =
    all-add c.args.session.now c.loop-player.player c.args.each.now.items c.loop-player.each.items
    (omega (arith, c.loop-player-test.false, c.len-player-end.ensures)) c.loop-player.invariant
