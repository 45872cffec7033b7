use Rattle.std.proofs.Common.{ap, subst}
use Rattle.gba_session.proofs.Asking.{whole-many}
use Rattle.gba_session.specs.Held.{IsSegmented}
use Rattle.gba_session.specs.Session.{Consoles}
use Rattle.gba_session.proofs.session.Session.players.Goals as goal

pub returns-clause-whole : goal.returns-clause-whole
returns-clause-whole c =
    let players = c.self.inside.players.items in
    let cut = c.self.inside.cut in
    whole-many c.args.self.now cut players
    (subst (λ (v : Consoles). IsSegmented v cut players) c.self.view_is c.self.invariant)
    (ap (λ (v : Consoles). v.asks) c.self.view_is)
