use Rattle.std.proofs.Common.{◌+◌, drop, get_or}
use Rattle.std.specs.List.{flat_map}
use Rattle.gba_joblog.specs.Cable.{all_pairs, pair_of}
use Rattle.gba_joblog.specs.Log.{link_text, links_text}
use Rattle.gba_log.proofs.Printed.{pairs-at, printed-more, printed-room}
use Rattle.gba_log.proofs.printing.add_links.Goals as goal

pub add_link-requires : goal.add_link-requires
add_link-requires c =
    let text = link_text c.args.players c.args.delays.now in
    let i = c.loop-pair.pair-index in
    printed-room c.args.into.now c.loop-pair.into (links_text c.args.players c.args.delays.now)
    (text (get_or all_pairs i (pair_of 0 0))) (flat_map text (drop (i + 1) all_pairs)) c.requires
    (rw (pairs-at text all_pairs i c.loop-pair-test.true) at c.loop-pair.invariant)

pub loop-pair-preserved : goal.loop-pair-preserved
loop-pair-preserved c =
    let text = link_text c.args.players c.args.delays.now in
    let i = c.loop-pair.pair-index in
    printed-more c.args.into.now c.loop-pair.into c.add_link.new.into (links_text c.args.players c.args.delays.now)
    (text (get_or all_pairs i (pair_of 0 0))) (flat_map text (drop (i + 1) all_pairs))
    (rw (pairs-at text all_pairs i c.loop-pair-test.true) at c.loop-pair.invariant)
    c.add_link.ensures
