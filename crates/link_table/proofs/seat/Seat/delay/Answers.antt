use Rattle.std.proofs.Common.{arith, ap}
use Rattle.link_table.specs.declared.key.Key.{Key}
use Rattle.link_table.specs.Seated.{SeatState}
use Rattle.link_table.proofs.seat.Seat.delay.Goals as goal

pub returns-clause-some : goal.returns-clause-some
returns-clause-some g c =
    let players = ap (λ (s : SeatState (Key g.row.N.Denot)). s.players) c.self.view_is in
    let few = c.self.invariant.sound.at_most_four in
    let own = c.self.invariant.below in
    let all = c.self.invariant.players_is in
    let within = c.self.invariant.within c.args.peer c.self.inside.player
    (omega (arith, few, all, players, c.requires.below)) (omega (arith, few, all, own)) in
    omega (arith, within.0, c.hop.ensures)

pub returns-clause-short : goal.returns-clause-short
returns-clause-short g c =
    let players = ap (λ (s : SeatState (Key g.row.N.Denot)). s.players) c.self.view_is in
    let few = c.self.invariant.sound.at_most_four in
    let own = c.self.invariant.below in
    let all = c.self.invariant.players_is in
    let within = c.self.invariant.within c.args.peer c.self.inside.player
    (omega (arith, few, all, players, c.requires.below)) (omega (arith, few, all, own)) in
    omega (arith, within.1, c.hop.ensures)
