use Rattle.gba_joblog.specs.Views.{job_value}
use Rattle.gba_session.proofs.Resuming.{begins, begins-resumed}
use Rattle.gba_session.proofs.session.Session.resume.Goals as goal

pub invariant_of-result : goal.invariant_of-result
invariant_of-result c =
    rw (c.segment_begin-begin.ensures, c.least_clock.ensures.value)
    (begins (job_value c.args.job.now) c.args.cut c.of.result.value c.in_ok-players.players.items c.requires.sound
    c.requires.count c.requires.empty c.of.ensures c.least_clock.ensures.cable c.least_clock.ensures.sound
    c.least_clock.ensures.live c.in_ok-players.ensures.unused c.in_ok-players.ensures.asks)

pub returns : goal.returns
returns c =
    rw (c.segment_begin-begin.ensures, c.least_clock.ensures.value)
    (begins-resumed (job_value c.args.job.now) c.args.cut c.of.result.value c.in_ok-players.players.items
    c.requires.sound c.requires.count c.requires.empty c.of.ensures c.least_clock.ensures.cable
    c.least_clock.ensures.sound c.least_clock.ensures.live c.in_ok-players.ensures.unused c.in_ok-players.ensures.asks)
