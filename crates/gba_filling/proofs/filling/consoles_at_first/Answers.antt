use Rattle.std.proofs.Common.{ap, length, arith}
use Rattle.std.proofs.lemmas.List.{length-append}
use Rattle.gba_filling.specs.Loose.{LooseConsole}
use Rattle.gba_filling.proofs.Jobs.{filled-more}
use Rattle.gba_filling.proofs.filling.consoles_at_first.Goals as goal

pub loop-player-preserved : goal.loop-player-preserved
loop-player-preserved c = record {
  count = omega (arith, ap length c.in_ok-push.ensures.items, length-append {A = LooseConsole});
  filled =
      rw c.in_ok-push.ensures.items (filled-more c.args.setup.now c.loop-player.consoles.items c.in_ok-new.field-0
      c.loop-player.player
      c.loop-player.invariant.count c.in_ok-new.ensures c.loop-player.invariant.filled);
}
