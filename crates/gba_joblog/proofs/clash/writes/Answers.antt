use Rattle.std.proofs.Common.{sym, ◌∙◌, arith}
use Rattle.gba_joblog.specs.Views.{console_value}
use Rattle.gba_joblog.proofs.OutputNames.{writes_at, writes_done}
use Rattle.gba_joblog.proofs.clash.writes.Goals as goal

pub returns-then-console_writes : goal.returns-then-console_writes
returns-then-console_writes c =
    let here = writes_at console_value c.args.out.now c.args.name.now c.args.consoles.now c.loop-player.player
    c.index-consoles-player.result c.console_writes.result
    (omega arith) c.index-consoles-player.is c.console_writes.ensures in
    sym (rw c.if-console_writes.true at here) ∙ c.loop-player.invariant

pub loop-player-preserved : goal.loop-player-preserved
loop-player-preserved c =
    let here = writes_at console_value c.args.out.now c.args.name.now c.args.consoles.now c.loop-player.player
    c.index-consoles-player.result c.console_writes.result
    (omega arith) c.index-consoles-player.is c.console_writes.ensures in
    sym (rw c.if-console_writes.false at here) ∙ c.loop-player.invariant

pub returns : goal.returns
returns c =
    sym (writes_done console_value c.args.out.now c.args.name.now c.args.consoles.now c.loop-player.player
    (omega arith)) ∙ c.loop-player.invariant
