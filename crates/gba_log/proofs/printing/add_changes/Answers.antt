use Rattle.std.proofs.Common.{drop, ◌+◌, get_or, arith}
use Rattle.gba_joblog.specs.Log.{change_text, changes_text}
use Rattle.gba_log.proofs.Printed.{no_change, changes_text-at, changes_text-past, printed-begin, printed-end, printed-more, printed-room}
use Rattle.gba_log.proofs.printing.add_changes.Goals as goal

pub loop-change-init : goal.loop-change-init
loop-change-init c = printed-begin c.args.into.now (changes_text c.args.changes.now)

pub add_change-requires-clause-room : goal.add_change-requires-clause-room
add_change-requires-clause-room c =
    let changes = c.args.changes.now in
    let i = c.loop-change.change-index in
    printed-room c.args.into.now c.loop-change.into (changes_text changes) (change_text (get_or changes i no_change))
    (changes_text (drop (i + 1) changes)) c.requires.room
    (rw (changes_text-at changes i c.loop-change-test.true) at c.loop-change.invariant)

pub loop-change-preserved : goal.loop-change-preserved
loop-change-preserved c =
    let changes = c.args.changes.now in
    let i = c.loop-change.change-index in
    printed-more c.args.into.now c.loop-change.into c.add_change.new.into (changes_text changes)
    (change_text (get_or changes i no_change)) (changes_text (drop (i + 1) changes))
    (rw (changes_text-at changes i c.loop-change-test.true) at c.loop-change.invariant)
    c.add_change.ensures

pub returns : goal.returns
returns c =
    let changes = c.args.changes.now in
    printed-end c.args.into.now c.loop-change.into (changes_text changes)
    (rw (changes_text-past changes c.loop-change.change-index (omega arith)) at c.loop-change.invariant)
