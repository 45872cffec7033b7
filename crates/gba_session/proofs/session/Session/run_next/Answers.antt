use Rattle.std.proofs.Common.{◌≡◌, ◌<◌, ◌∙◌, false, List, length, nat_le, sym, ap, subst, arith}
use Rattle.gba_console.specs.Machine.{Machine}
use Rattle.gba_session.proofs.Advancing.{advances, advances-to, last-told, players-many}
use Rattle.gba_session.proofs.session.Session.run_next.Goals as goal
use Rattle.gba_session.specs.Held.{HaveTaken}
use Rattle.gba_session.specs.Session.{Consoles, later_end}

-- the run isn't over
early-in : (v s : Consoles) → s ≡ v → v.to < v.until → s.to < s.until
early-in v s is early =
    omega (arith, early, ap (λ (x : Consoles). x.to) is, ap (λ (x : Consoles). x.until) is)

pub take_pieces-requires-clause-many : goal.take_pieces-requires-clause-many
take_pieces-requires-clause-many g c =
    λ _ _.
    let s = c.self.inside in
    let ran = c.run_segment-cut in
    let end = c.later_end-end in
    players-many c.segments.ensures.live _ s.from s.to s.until s.players.items s.players.items s.cut ran.result
    end.result false c.self.invariant (early-in _ _ c.self.view_is c.requires) end.ensures ran.ensures.run
    ran.ensures.done ∙ ap length (sym c.nodes.ensures.value)

pub invariant_of-result : goal.invariant_of-result
invariant_of-result g c =
    let s = c.self.inside in
    let ran = c.run_segment-cut in
    let end = c.later_end-end in
    let new = c.take_pieces.new.players.items in
    let over = nat_le s.until end.result in
    advances c.segments.ensures.live _ s.from s.to s.until s.players.items new s.cut ran.result end.result over
    c.self.invariant (early-in _ _ c.self.view_is c.requires) end.ensures ran.ensures.run ran.ensures.done
    (last-told end.result s.until)
    (subst (λ (ms : List Machine). HaveTaken over s.players.items ms new) c.nodes.ensures.value c.take_pieces.ensures)

pub returns : goal.returns
returns g c =
    let s = c.self.inside in
    let ran = c.run_segment-cut in
    let end = c.later_end-end in
    let new = c.take_pieces.new.players.items in
    let over = nat_le s.until end.result in
    advances-to c.segments.ensures.live _ s.from s.to s.until s.players.items new s.cut ran.result end.result over
    c.self.invariant (early-in _ _ c.self.view_is c.requires) end.ensures ran.ensures.run ran.ensures.done
    (last-told end.result s.until)
    (subst (λ (ms : List Machine). HaveTaken over s.players.items ms new) c.nodes.ensures.value c.take_pieces.ensures)
    ∙ ap (λ (v : Consoles). record v { from = v.to; to = later_end v.until v.to }) c.self.view_is
