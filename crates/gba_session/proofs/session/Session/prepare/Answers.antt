use Rattle.std.proofs.Common.{subst, sym}
use Rattle.gba_joblog.specs.Views.{job_value}
use Rattle.gba_session.proofs.Consoles.{fit-long}
use Rattle.gba_session.proofs.Preparing.{begins, begins-prepared, opened, plain-consoles, prepared-fresh}
use Rattle.gba_session.specs.Digests.{IsFresh}
use Rattle.gba_session.proofs.session.Session.prepare.Goals as goal

pub invariant_of-result : goal.invariant_of-result
invariant_of-result c =
    let job = job_value c.args.job.now in
    let cut = c.in_ok-cut.cut in
    let start = c.in_ok-cut.ensures.start in
    begins job c.args.images.items cut.consoles c.in_ok-players.players.items cut c.of.result.value c.requires.sound
    (fit-long _ _ c.requires.images) (plain-consoles job c.args.images.items cut start)
    (opened job c.args.images.items cut start) c.of.ensures c.in_ok-players.ensures.unused
    c.in_ok-players.ensures.asks

pub returns-clause-session : goal.returns-clause-session
returns-clause-session c =
    let job = job_value c.args.job.now in
    let cut = c.in_ok-cut.cut in
    let start = c.in_ok-cut.ensures.start in
    begins-prepared job c.args.images.items cut.consoles c.in_ok-players.players.items cut c.of.result.value
    c.requires.sound (fit-long _ _ c.requires.images) (plain-consoles job c.args.images.items cut start)
    (opened job c.args.images.items cut start) c.of.ensures c.in_ok-players.ensures.unused
    c.in_ok-players.ensures.asks

pub returns-clause-fresh : goal.returns-clause-fresh
returns-clause-fresh c =
    let job = job_value c.args.job.now in
    let cut = c.in_ok-cut.cut in
    let start = c.in_ok-cut.ensures.start in
    subst IsFresh
    (sym (begins-prepared job c.args.images.items cut.consoles c.in_ok-players.players.items cut c.of.result.value
    c.requires.sound (fit-long _ _ c.requires.images) (plain-consoles job c.args.images.items cut start)
    (opened job c.args.images.items cut start) c.of.ensures c.in_ok-players.ensures.unused
    c.in_ok-players.ensures.asks)) (prepared-fresh job c.args.images.items c.requires.sound)
