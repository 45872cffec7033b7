use Rattle.std.proofs.Common.{◌+◌, drop, get_or, length, ap, arith}
use Rattle.std.proofs.lemmas.List.{length-append}
use Rattle.std.specs.List.{flat_map}
use Rattle.gba_joblog.specs.Cable.{all_pairs, pair_of}
use Rattle.gba_joblog.specs.Log.{link_text}
use Rattle.gba_log.proofs.Printed.{pairs-at}
use Rattle.gba_log.proofs.lengths.links_len.Goals as goal

pub loop-pair-preserved : goal.loop-pair-preserved
loop-pair-preserved c =
    let text = link_text c.args.players c.args.delays.now in
    let i = c.loop-pair.pair-index in
    let here = ap length (pairs-at text all_pairs i c.loop-pair-test.true) in
    let parts = length-append (text (get_or all_pairs i (pair_of 0 0))) (flat_map text (drop (i + 1) all_pairs)) in (
      omega (arith, here, parts, c.link_len-total.ensures.value, c.loop-pair.invariant.0),
      omega (arith, c.link_len-total.ensures.most, c.loop-pair.invariant.1),
    )
