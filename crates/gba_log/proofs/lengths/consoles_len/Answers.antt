use Rattle.std.proofs.Common.{◌+◌, drop, length, map, ap, arith}
use Rattle.std.proofs.lemmas.List.{length-append}
use Rattle.gba_joblog.specs.Soundness.{IsConsole}
use Rattle.gba_joblog.specs.Views.{console_value}
use Rattle.gba_joblog.specs.Log.{console_text, consoles_text}
use Rattle.gba_joblog.proofs.OutputNames.{holds_at}
use Rattle.gba_log.proofs.Printed.{consoles_text-at, consoles_text-past}
use Rattle.gba_log.proofs.lengths.consoles_len.Goals as goal

pub console_len-total-requires : goal.console_len-total-requires
console_len-total-requires c =
    let console = c.index-consoles-player.result in
    holds_at IsConsole console_value c.args.consoles.now c.loop-player.player console c.requires.sound
    c.loop-player-test.true c.index-consoles-player.is

pub loop-player-preserved : goal.loop-player-preserved
loop-player-preserved c =
    let consoles = c.args.consoles.now in
    let i = c.loop-player.player in
    let console = c.index-consoles-player.result in
    let here =
    ap length (consoles_text-at console_value consoles i console c.loop-player-test.true c.index-consoles-player.is) in
    let parts = length-append (console_text i (console_value console)) (consoles_text (i + 1)
    (map console_value (drop (i + 1) consoles))) in (
      omega (arith, here, parts, c.console_len-total.ensures.value, c.loop-player.invariant.0),
      omega (arith, c.console_len-total.ensures.most, c.loop-player.invariant.1),
    )

pub returns : goal.returns
returns c =
    let consoles = c.args.consoles.now in
    let past = ap length (consoles_text-past console_value consoles c.loop-player.player (omega arith)) in
    record { value = omega (arith, past, c.loop-player.invariant.0); most = omega (arith, c.loop-player.invariant.1) }
