use Rattle.std.proofs.Common.{◌+◌, drop, get_or, length, ap, arith}
use Rattle.std.proofs.lemmas.List.{length-append}
use Rattle.gba_joblog.specs.Log.{change_text, changes_text}
use Rattle.gba_log.proofs.Printed.{changes_text-at, changes_text-past, no_change}
use Rattle.gba_log.proofs.lengths.changes_len.Goals as goal

pub loop-change-preserved : goal.loop-change-preserved
loop-change-preserved c =
    let changes = c.args.changes.now in
    let i = c.loop-change.change-index in
    let here = ap length (changes_text-at changes i c.loop-change-test.true) in
    let parts = length-append (change_text (get_or changes i no_change)) (changes_text (drop (i + 1) changes)) in (
      omega (arith, here, parts, c.change_len-total.ensures.value, c.loop-change.invariant.0),
      omega (arith, c.change_len-total.ensures.most, c.loop-change.invariant.1),
    )

pub returns : goal.returns
returns c =
    let changes = c.args.changes.now in
    let past = ap length (changes_text-past changes c.loop-change.change-index (omega arith)) in
    record { value = omega (arith, past, c.loop-change.invariant.0); most = omega (arith, c.loop-change.invariant.1) }
