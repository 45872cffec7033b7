use Rattle.std.proofs.Common.{◌≡◌, length, subst, sym, arith}
use Rattle.gba_session.proofs.Hashing.{are-new, fresh-hashed, long-more, new-more}
use Rattle.gba_session.specs.Digests.{AreHashed}
use Rattle.gba_session.specs.Session.{Consoles}
use Rattle.gba_session.proofs.digests.Digests.new.Goals as goal

pub loop-player-preserved : goal.loop-player-preserved
loop-player-preserved c =
    let held = c.loop-player.invariant in
    let old = c.loop-player.each.items in
    let new = c.keep.new.all.items in
    let made = c.hashers.ensures in (
      long-more old new c.hashers.result c.loop-player._player c.in_ok-keep.ensures held.0,
      omega (arith, c.loop-player-test.true),
      new-more old new c.hashers.result c.in_ok-keep.ensures
          (are-new c.hashers.result made.frames made.samples made.words made.state made.save) held.2,
    )

pub invariant_of-result : goal.invariant_of-result
invariant_of-result c =
    let s = c.args.session.now in
    let each = c.loop-player.each.items in
    let held = c.loop-player.invariant in
    let many : length each ≡ length s.asks =
    omega (arith, held.0, held.1, c.loop-player-test.false, c.players-player-end.ensures.asks) in
    subst (λ (v : Consoles). AreHashed v each) (sym c.of.ensures)
    (fresh-hashed s each c.requires held.2 many c.joins.ensures.whole c.joins.ensures.so_far c.joins.ensures.within)
