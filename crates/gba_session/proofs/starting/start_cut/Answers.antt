use Rattle.std.proofs.Common.{◌≤◌, List, ap, length, map, subst, sym, ◌∙◌}
use Rattle.std.specs.List.{All}
use Rattle.gba_console.specs.Machine.{Machine, limit_of, without_limit}
use Rattle.gba_joblog.specs.Views.{job_value}
use Rattle.link_order.specs.Cut.{Cut, opening, plain_cut}
use Rattle.gba_session.specs.Session.{later_end}
use Rattle.gba_session.proofs.Consoles.{fit-long, made-length, start-cable, start-sound}
use Rattle.gba_session.proofs.starting.start_cut.Goals as goal

pub new-requires-clause-cable : goal.new-requires-clause-cable
new-requires-clause-cable c =
    start-cable (job_value c.args.job.now) c.args.images.items c.in_ok-consoles.consoles.items c.requires.sound
    (fit-long _ _ c.requires.images) c.in_ok-consoles.ensures.consoles

pub new-requires-clause-sound : goal.new-requires-clause-sound
new-requires-clause-sound c =
    start-sound (job_value c.args.job.now) c.args.images.items c.in_ok-consoles.consoles.items c.requires.sound
    (fit-long _ _ c.requires.images) c.in_ok-consoles.ensures.consoles

pub returns-clause-start : goal.returns-clause-start
returns-clause-start c =
    ap (plain_cut without_limit) c.in-Ok.ensures.made
    ∙ ap (λ (ms : List Machine). opening ms (job_value c.args.job.now).delays) c.in_ok-consoles.ensures.consoles

pub returns-clause-limits : goal.returns-clause-limits
returns-clause-limits c =
    subst (λ (cut : Cut Machine). All (λ limit. later_end c.args.job.now.cycles 0 ≤ limit) (map limit_of cut.consoles))
    (sym c.in-Ok.ensures.made) c.in_ok-consoles.ensures.limits

pub returns-clause-many : goal.returns-clause-many
returns-clause-many c =
    ap (λ (cut : Cut Machine). length cut.consoles) c.in-Ok.ensures.made
    ∙ made-length (job_value c.args.job.now) c.args.images.items c.in_ok-consoles.consoles.items c.requires.sound
    (fit-long _ _ c.requires.images) c.in_ok-consoles.ensures.consoles
