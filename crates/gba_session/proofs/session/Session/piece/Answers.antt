use Rattle.std.proofs.Common.{ap, subst}
use Rattle.gba_session.proofs.Asking.{gives-save, gives-state, gives-words}
use Rattle.gba_session.proofs.session.Session.piece.Goals as goal
use Rattle.gba_session.specs.Held.{IsSegmented}
use Rattle.gba_session.specs.Session.{Consoles}

pub returns-in-Words : goal.returns-in-Words
returns-in-Words c m is =
    let v = c.args.self.now in
    let players = c.self.inside.players.items in
    let cut = c.self.inside.cut in
    let held = subst (λ (x : Consoles). IsSegmented x cut players) c.self.view_is c.self.invariant in
    let asks = ap (λ (x : Consoles). x.asks) c.self.view_is in
    gives-words v cut players held asks c.args.player c.index.result.now c.requires.player
    c.index.ensures c.args.kind c.requires.asked m c.as_slice.result.now is c.in-Words.is c.as_slice.ensures.value

pub returns-in-State : goal.returns-in-State
returns-in-State c m is =
    let v = c.args.self.now in
    let players = c.self.inside.players.items in
    let cut = c.self.inside.cut in
    let held = subst (λ (x : Consoles). IsSegmented x cut players) c.self.view_is c.self.invariant in
    let asks = ap (λ (x : Consoles). x.asks) c.self.view_is in
    gives-state v cut players held asks c.args.player c.index-in-State.result.now c.requires.player
    c.index-in-State.ensures c.args.kind c.requires.asked m c.as_slice-in-State.result.now is c.requires.over
    c.in-State.is c.as_slice-in-State.ensures.value

pub returns-in-Save : goal.returns-in-Save
returns-in-Save c m is =
    let v = c.args.self.now in
    let players = c.self.inside.players.items in
    let cut = c.self.inside.cut in
    let held = subst (λ (x : Consoles). IsSegmented x cut players) c.self.view_is c.self.invariant in
    let asks = ap (λ (x : Consoles). x.asks) c.self.view_is in
    gives-save v cut players held asks c.args.player c.index-in-Save.result.now c.requires.player
    c.index-in-Save.ensures c.args.kind c.requires.asked m c.as_slice-in-Save.result.now is c.requires.over c.in-Save.is
    c.as_slice-in-Save.ensures.value
