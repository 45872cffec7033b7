use Rattle.std.proofs.Common.{◌<◌, length, arith}
use Rattle.gba_session.proofs.SoFar.{so-far-more}
use Rattle.gba_session.proofs.Taking.{Takes, all-take, takes-one}
use Rattle.gba_session.proofs.running.take_in_turn.Goals as goal

pub loop-player-preserved : goal.loop-player-preserved
loop-player-preserved c =
    let old = c.args.players.now.items in
    let ms = c.args.consoles.now in
    let i = c.loop-player.player in
    let held = c.loop-player.invariant in
    let within : i < length c.loop-player.players.items =
    omega (arith, c.loop-player-test.true, c.len-player-end.ensures, held.many) in
    let there : i < length ms = omega (arith, within, held.many, c.requires.many) in
    so-far-more (Takes c.args.over ms) i old c.loop-player.players.items c.index_mut.result.now c.take.new.self held
    within c.index_mut.ensures.value
    (takes-one c.args.over ms i c.index-consoles-player.result c.index_mut.result.now c.take.new.self there
    c.index-consoles-player.is c.take.ensures)

pub returns : goal.returns
returns c =
    all-take c.args.over c.args.consoles.now c.loop-player.player c.args.players.now.items c.loop-player.players.items
    (omega (arith, c.loop-player-test.false, c.len-player-end.ensures)) c.loop-player.invariant
