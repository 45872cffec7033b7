use Rattle.std.proofs.Common.{ap, subst}
use Rattle.gba_session.proofs.Asking.{ends-forgotten, ends-sent}
use Rattle.gba_session.proofs.session.Session.ends_whole.Goals as goal
use Rattle.gba_session.specs.Held.{IsSegmented}
use Rattle.gba_session.specs.Session.{Consoles}

pub returns-clause-consoles : goal.returns-clause-consoles
returns-clause-consoles c =
    let players = c.self.inside.players.items in
    let cut = c.self.inside.cut in
    let held = subst (λ (v : Consoles). IsSegmented v cut players) c.self.view_is c.self.invariant in
    ends-forgotten c.args.self.now cut players held (ap (λ (v : Consoles). v.asks) c.self.view_is)
    c.segments.ensures.live c.requires.over

pub returns-clause-sent : goal.returns-clause-sent
returns-clause-sent c =
    let players = c.self.inside.players.items in
    let cut = c.self.inside.cut in
    let held = subst (λ (v : Consoles). IsSegmented v cut players) c.self.view_is c.self.invariant in
    ends-sent c.args.self.now cut players held (ap (λ (v : Consoles). v.asks) c.self.view_is) c.segments.ensures.live
    c.requires.over
