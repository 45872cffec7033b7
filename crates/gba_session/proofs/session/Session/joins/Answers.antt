use Rattle.std.proofs.Common.{◌∙◌, ap, subst}
use Rattle.gba_session.proofs.Advancing.{until-many, whole-joined}
use Rattle.gba_session.proofs.Asking.{start-many, whole-many}
use Rattle.gba_session.proofs.session.Session.joins.Goals as goal
use Rattle.gba_session.specs.Held.{IsSegmented}
use Rattle.gba_session.specs.Session.{Consoles}

pub returns-clause-within : goal.returns-clause-within
returns-clause-within c =
    let players = c.self.inside.players.items in
    let cut = c.self.inside.cut in
    (subst (λ (v : Consoles). IsSegmented v cut players) c.self.view_is c.self.invariant).within

pub returns-clause-joined : goal.returns-clause-joined
returns-clause-joined c =
    let players = c.self.inside.players.items in
    let cut = c.self.inside.cut in
    let held = subst (λ (v : Consoles). IsSegmented v cut players) c.self.view_is c.self.invariant in
    whole-joined c.segments.ensures.live c.args.self.now held.start held.begun

pub returns-clause-whole : goal.returns-clause-whole
returns-clause-whole c =
    let players = c.self.inside.players.items in
    let cut = c.self.inside.cut in
    whole-many c.args.self.now cut players
    (subst (λ (v : Consoles). IsSegmented v cut players) c.self.view_is c.self.invariant)
    (ap (λ (v : Consoles). v.asks) c.self.view_is)

pub returns-clause-so_far : goal.returns-clause-so_far
returns-clause-so_far c =
    let v = c.args.self.now in
    let players = c.self.inside.players.items in
    let cut = c.self.inside.cut in
    until-many v.to v.start
    ∙ start-many v cut players (subst (λ (s : Consoles). IsSegmented s cut players) c.self.view_is c.self.invariant)
    (ap (λ (s : Consoles). s.asks) c.self.view_is)
