use Rattle.std.proofs.Common.{◌≤◌, ◌∙◌, length, ap, arith}
use Rattle.gba_session.proofs.Consoles.{asks-are, asks-more, unused-more}
use Rattle.gba_session.proofs.starting.players_of.Goals as goal

pub loop-console-preserved : goal.loop-console-preserved
loop-console-preserved c =
    let made = c.args.job.now.consoles.items in
    let held = c.loop-console.invariant in (
      asks-more c.loop-console.console-index made c.console-item.result c.loop-console.players.items
          c.keep.new.all.items c.in_ok-player.player
          (rw (← c.as_slice-console-items.ensures.value) c.loop-console-test.true)
          (rw (← c.as_slice-console-items.ensures.value) c.console-item.is) c.in_ok-keep.ensures
          (c.in_ok-player.ensures.asks ∙ c.asks.ensures) held.0,
      unused-more c.loop-console.players.items c.keep.new.all.items c.in_ok-player.player
          c.in_ok-keep.ensures c.in_ok-player.ensures.unused held.1,
    )

pub returns-clause-asks : goal.returns-clause-asks
returns-clause-asks c =
    let i = c.loop-console.console-index in
    let made = c.args.job.now.consoles.items in
    let over : length made ≤ i =
    omega (arith, ap length c.as_slice-console-items.ensures.value, c.loop-console-test.false) in
    asks-are i made c.loop-console.players.items over c.loop-console.invariant.0
