use Rattle.std.proofs.Common.{arith}
use Rattle.gba_run_files.proofs.FileNames.{names-more, names-whole}
use Rattle.gba_run_files.proofs.naming.all_names.Goals as goal

pub loop-player-preserved : goal.loop-player-preserved
loop-player-preserved c =
    names-more c.args.out.now c.loop-player.player c.args.count c.loop-player.all.items c.keep.new.all.items
    c.in_ok-names.names _ c.loop-player-test.true c.in_ok-keep.ensures c.in_ok-names.ensures c.loop-player.invariant

pub returns : goal.returns
returns c = record {
  names = names-whole c.args.out.now c.loop-player.player c.args.count c.loop-player.all.items _
      (omega (arith, c.loop-player-test.false)) c.loop-player.invariant;
}
