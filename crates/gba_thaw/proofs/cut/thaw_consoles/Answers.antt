use Rattle.std.proofs.Common.{Some, None, sym, ◌∙◌, ap, arith, if◌then◌else◌}
use Rattle.std.specs.Prelude.{Bool}
use Rattle.gba_thaw.proofs.Loops.{all-done, here-long, none-yet, one-more, one-stops}
use Rattle.gba_thaw.proofs.cut.thaw_consoles.Goals as goal

pub loop-player-init : goal.loop-player-init
loop-player-init c = none-yet c.args.until c.args.consoles.now.items c.args.loose.now c.requires.lengths

pub whole-requires-clause-lengths : goal.whole-requires-clause-lengths
whole-requires-clause-lengths c =
    here-long c.args.until c.loop-player.player c.args.consoles.now.items c.loop-player.consoles.items c.args.loose.now
    c.loop-player.invariant c.loop-player-test.true c.requires.count c.index_mut.result.now c.index-loose-player.result
    (sym c.index_mut.ensures.value) (sym c.index-loose-player.is)

pub returns-then-not-whole-clause-thawed : goal.returns-then-not-whole-clause-thawed
returns-then-not-whole-clause-thawed c =
    one-stops c.args.until c.loop-player.player c.args.consoles.now.items c.loop-player.consoles.items c.args.loose.now
    c.loop-player.invariant c.loop-player-test.true c.requires.count c.index_mut.result.now c.index-loose-player.result
    (sym c.index_mut.ensures.value) (sym c.index-loose-player.is)
    (c.whole.ensures
    ∙ ap (λ (told : Bool). if told then Some c.whole.new.console else None) c.if-not-whole.true)

pub loop-player-preserved : goal.loop-player-preserved
loop-player-preserved c =
    one-more c.args.until c.loop-player.player c.args.consoles.now.items c.loop-player.consoles.items c.args.loose.now
    c.loop-player.invariant c.loop-player-test.true c.requires.count c.index_mut.result.now c.index-loose-player.result
    (sym c.index_mut.ensures.value) (sym c.index-loose-player.is) c.whole.new.console
    (c.whole.ensures
    ∙ ap (λ (told : Bool). if told then Some c.whole.new.console else None) c.if-not-whole.false)

pub returns-clause-thawed : goal.returns-clause-thawed
returns-clause-thawed c =
    all-done c.args.until c.loop-player.player c.args.consoles.now.items c.loop-player.consoles.items c.args.loose.now
    c.loop-player.invariant (omega (arith, c.loop-player-test.false)) c.requires.count

pub returns-clause-many : goal.returns-clause-many
returns-clause-many c = c.loop-player.invariant.many
