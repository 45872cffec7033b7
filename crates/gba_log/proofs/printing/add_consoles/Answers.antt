use Rattle.std.proofs.Common.{drop, map, ◌+◌, arith}
use Rattle.gba_joblog.specs.Soundness.{IsConsole}
use Rattle.gba_joblog.specs.Views.{console_value}
use Rattle.gba_joblog.specs.Log.{console_text, consoles_text}
use Rattle.gba_joblog.proofs.OutputNames.{holds_at}
use Rattle.gba_log.proofs.Printed.{consoles_text-at, consoles_text-past, printed-begin, printed-end, printed-more, printed-room}
use Rattle.gba_log.proofs.printing.add_consoles.Goals as goal

pub loop-player-init : goal.loop-player-init
loop-player-init c = printed-begin c.args.into.now (consoles_text 0 (map console_value c.args.consoles.now))

pub add_console-requires : goal.add_console-requires
add_console-requires c =
    let consoles = c.args.consoles.now in
    let i = c.loop-player.player in
    let console = c.index-consoles-player.result in
    record {
      sound = holds_at IsConsole console_value consoles i console c.requires.sound c.loop-player-test.true
          c.index-consoles-player.is;
      room = printed-room c.args.into.now c.loop-player.into (consoles_text 0 (map console_value consoles))
          (console_text i (console_value console)) (consoles_text (i + 1) (map console_value (drop (i + 1) consoles)))
          c.requires.room
          (rw (consoles_text-at console_value consoles i console c.loop-player-test.true c.index-consoles-player.is)
          at c.loop-player.invariant);
    }

pub loop-player-preserved : goal.loop-player-preserved
loop-player-preserved c =
    let consoles = c.args.consoles.now in
    let i = c.loop-player.player in
    let console = c.index-consoles-player.result in
    printed-more c.args.into.now c.loop-player.into c.add_console.new.into
    (consoles_text 0 (map console_value consoles))
    (console_text i (console_value console)) (consoles_text (i + 1) (map console_value (drop (i + 1) consoles)))
    (rw (consoles_text-at console_value consoles i console c.loop-player-test.true c.index-consoles-player.is)
    at c.loop-player.invariant)
    c.add_console.ensures

pub returns : goal.returns
returns c =
    let consoles = c.args.consoles.now in
    printed-end c.args.into.now c.loop-player.into (consoles_text 0 (map console_value consoles))
    (rw (consoles_text-past console_value consoles c.loop-player.player (omega arith)) at c.loop-player.invariant)
