use Rattle.std.proofs.Common.{arith, refl}
use Rattle.std.specs.Vec.{vec_capacity}
use Rattle.link_order.specs.NodeKind.{kind_of}
use Rattle.link_core.proofs.Keeping.{kept_few, due_may_go}
use Rattle.link_core.proofs.Bursts.{turned_placed}
use Rattle.link_core.proofs.Turns.{idled, lawful, player_of, told_known}
use Rattle.link_core.proofs.burst.take_turns.Goals as goal

pub returns-then-clock-quiet-clause-goes : goal.returns-then-clock-quiet-clause-goes
returns-then-clock-quiet-clause-goes g c =
    let law = lawful g.N.Node.clock g.N.Node.was g.N.Node.next g.met.N.Node.rises g.met.N.Node.short g.met.N.Node.moves
    g.met.N.Node.bears g.met.N.Node.fits in
    (idled _ law g.N.Node.plain _ _ _ _ _ _ _ _ _ _ _ _ c.requires.kept.1 c.requires.least c.deref.ensures.value
    c.was_of-was.ensures c.deref-2.ensures.value c.clock_of-clock.ensures.value c.if-clock-quiet.true
    c.quiet_end-quiet.ensures.most c.quiet_end-quiet.ensures.quiet c.idle_of.ensures.alone).goes

pub returns-then-clock-quiet-clause-rises : goal.returns-then-clock-quiet-clause-rises
returns-then-clock-quiet-clause-rises g c =
    let law = lawful g.N.Node.clock g.N.Node.was g.N.Node.next g.met.N.Node.rises g.met.N.Node.short g.met.N.Node.moves
    g.met.N.Node.bears g.met.N.Node.fits in
    (idled _ law g.N.Node.plain _ _ _ _ _ _ _ _ _ _ _ _ c.requires.kept.1 c.requires.least c.deref.ensures.value
    c.was_of-was.ensures c.deref-2.ensures.value c.clock_of-clock.ensures.value c.if-clock-quiet.true
    c.quiet_end-quiet.ensures.most c.quiet_end-quiet.ensures.quiet c.idle_of.ensures.alone).rises

pub gather-requires : goal.gather-requires
gather-requires g c =
    let kind = kind_of g.N.Node.clock g.N.Node.was g.N.Node.next in
    let few = kept_few kind g.N.Node.plain _ c.requires.kept.0 (vec_capacity c.args.due.now) c.requires.kept.1 in
    omega (arith, few, c.requires.kept.1.room_of_due)

pub turn_of-requires-clause-ordered : goal.turn_of-requires-clause-ordered
turn_of-requires-clause-ordered g c =
    let kind = kind_of g.N.Node.clock g.N.Node.was g.N.Node.next in
    let told = told_known kind g.N.Node.plain _ _ _ _ _ _ _ _ _ _ _ c.requires.kept.1 refl c.deref.ensures.value
    c.was_of-was.ensures c.deref-2.ensures.value c.clock_of-clock.ensures.value c.gather.ensures.due
    c.deref-3.ensures.value in
    (due_may_go kind g.N.Node.plain _ _ _ _ _ c.requires.kept.1 c.requires.least told).0

pub turn_of-requires-clause-taken : goal.turn_of-requires-clause-taken
turn_of-requires-clause-taken g c =
    let kind = kind_of g.N.Node.clock g.N.Node.was g.N.Node.next in
    let told = told_known kind g.N.Node.plain _ _ _ _ _ _ _ _ _ _ _ c.requires.kept.1 refl c.deref.ensures.value
    c.was_of-was.ensures c.deref-2.ensures.value c.clock_of-clock.ensures.value c.gather.ensures.due
    c.deref-3.ensures.value in
    (due_may_go kind g.N.Node.plain _ _ _ _ _ c.requires.kept.1 c.requires.least told).1

pub returns-clause-goes : goal.returns-clause-goes
returns-clause-goes g c =
    let kind = kind_of g.N.Node.clock g.N.Node.was g.N.Node.next in
    let law = lawful g.N.Node.clock g.N.Node.was g.N.Node.next g.met.N.Node.rises g.met.N.Node.short g.met.N.Node.moves
    g.met.N.Node.bears g.met.N.Node.fits in
    let told = told_known kind g.N.Node.plain _ _ _ _ _ _ _ _ _ _ _ c.requires.kept.1 refl c.deref.ensures.value
    c.was_of-was.ensures c.deref-2.ensures.value c.clock_of-clock.ensures.value c.gather.ensures.due
    c.deref-3.ensures.value in
    (turned_placed kind law _ _ _ _ _ _ (player_of kind g.N.Node.plain _ _ _ _ c.requires.kept.1 c.requires.least)
    c.requires.early told c.turn_of.ensures.node c.turn_of.ensures.signal).goes

pub returns-clause-rises : goal.returns-clause-rises
returns-clause-rises g c =
    let kind = kind_of g.N.Node.clock g.N.Node.was g.N.Node.next in
    let law = lawful g.N.Node.clock g.N.Node.was g.N.Node.next g.met.N.Node.rises g.met.N.Node.short g.met.N.Node.moves
    g.met.N.Node.bears g.met.N.Node.fits in
    let told = told_known kind g.N.Node.plain _ _ _ _ _ _ _ _ _ _ _ c.requires.kept.1 refl c.deref.ensures.value
    c.was_of-was.ensures c.deref-2.ensures.value c.clock_of-clock.ensures.value c.gather.ensures.due
    c.deref-3.ensures.value in
    (turned_placed kind law _ _ _ _ _ _ (player_of kind g.N.Node.plain _ _ _ _ c.requires.kept.1 c.requires.least)
    c.requires.early told c.turn_of.ensures.node c.turn_of.ensures.signal).rises
