use Rattle.std.proofs.Common.{ℕ, ◌≡◌, ◌≤◌, ◌<◌, ◌∷◌, [], arith, refl, sym, ap, subst, ◌∙◌}
use Rattle.link_order.specs.Cut.{hop}
use Rattle.link_order.specs.NodeKind.{kind_of}
use Rattle.link_table.specs.declared.key.Key.{Key}
use Rattle.link_table.specs.Text.{script_of}
use Rattle.link_table.specs.Seated.{SeatState}
use Rattle.link_lane.specs.Following.{LaneState}
use Rattle.link_lane.specs.Pausing.{BeginsBelow, IsBlocked}
use Rattle.link_lane.proofs.Listening.{reseated, blocked_by, has_moved, begins_more}
use Rattle.link_lane.proofs.lane.Lane.advance.Goals as goal

pub returns-in-Some-clause-follows : goal.returns-in-Some-clause-follows
returns-in-Some-clause-follows g c key keys =
    c.held_up.ensures.follows key
    (ap (λ (z : SeatState (Key g.row.N.Denot)). z.key) c.loop-self.invariant.seat ∙ keys)

pub returns-in-Some-clause-blocked : goal.returns-in-Some-clause-blocked
returns-in-Some-clause-blocked g c key keys peer seen is =
    blocked_by (hop key.cut.value) c.args.polls (g.N.Node.clock (g.N.Node.plain c.held_up.new.self.node))
    c.args.self.now c.loop-self.self c.held_up.new.self c.in-Some.horizon c.loop-self.invariant.still
    c.held_up.ensures.still
    (c.in-Some.ensures.held key
    (ap (λ (z : SeatState (Key g.row.N.Denot)). z.key) c.loop-self.invariant.seat ∙ keys) c.in-Some.horizon refl)
    peer seen (cc) (cc)

pub returns-in-Some-clause-moves : goal.returns-in-Some-clause-moves
returns-in-Some-clause-moves g c key keys early ahead =
    let between : ℕ → ℕ → ℕ = hop key.cut.value in
    let clock : ℕ = g.N.Node.clock (g.N.Node.plain c.held_up.new.self.node) in
    let still = c.held_up.ensures.still in
    let steps : c.held_up.new.self.seat.made.steps ≡ c.loop-self.self.seat.made.steps = still.steps_are in
    let grows : c.args.self.now.seat.made.steps ≤ c.loop-self.self.seat.made.steps = c.loop-self.invariant.grows in
    let blocked : IsBlocked between c.args.polls clock c.args.self.now c.held_up.new.self c.in-Some.horizon.peer
    c.in-Some.horizon.seen
    = blocked_by between c.args.polls clock c.args.self.now c.loop-self.self c.held_up.new.self c.in-Some.horizon
    c.loop-self.invariant.still still
    (c.in-Some.ensures.held key
    (ap (λ (z : SeatState (Key g.row.N.Denot)). z.key) c.loop-self.invariant.seat ∙ keys) c.in-Some.horizon refl)
    c.in-Some.horizon.peer c.in-Some.horizon.seen refl refl in
    has_moved between c.args.polls clock (g.N.Node.clock (g.N.Node.plain c.args.self.now.node)) c.args.self.now
    c.held_up.new.self c.in-Some.horizon.peer c.in-Some.horizon.seen blocked
    (reseated c.args.self.now c.loop-self.self c.held_up.new.self c.loop-self.invariant.seat still.seat_is)
    (omega arith)
    (λ e. ap (λ (n : g.row.N.Denot). g.N.Node.clock (g.N.Node.plain n)) still.node_is
    ∙ ap (λ (z : LaneState g.row.N.Denot). g.N.Node.clock (g.N.Node.plain z.node))
    (c.loop-self.invariant.still (sym steps ∙ e)))
    ahead

pub loop-self-preserved : goal.loop-self-preserved
loop-self-preserved g c =
    let still = c.held_up.ensures.still in
    let steps : c.held_up.new.self.seat.made.steps ≡ c.loop-self.self.seat.made.steps = still.steps_are in
    let stepped : c.held_up.new.self.seat.made.steps < c.go.new.self.seat.made.steps = c.go.ensures.stepped in
    let grows : c.args.self.now.seat.made.steps ≤ c.loop-self.self.seat.made.steps = c.loop-self.invariant.grows in
    let seat = reseated c.args.self.now c.loop-self.self c.held_up.new.self c.loop-self.invariant.seat still.seat_is in
    record {
      seat = reseated c.args.self.now c.held_up.new.self c.go.new.self seat c.go.ensures.seat;
      limit = c.go.ensures.limit ∙ ap g.N.Node.bound still.node_is ∙ c.loop-self.invariant.limit;
      grows = omega arith;
      began = λ key keys.
          let s = script_of (kind_of g.N.Node.clock g.N.Node.was g.N.Node.next) g.N.Node.plain key in
          let own : c.held_up.new.self.seat.key ≡ key ∷ []
          = ap (λ (z : SeatState (Key g.row.N.Denot)). z.key) seat ∙ keys in
          let player : c.held_up.new.self.seat.player ≡ c.args.self.now.seat.player
          = ap (λ (z : SeatState (Key g.row.N.Denot)). z.player) seat in
          begins_more s c.args.until c.args.self.now.seat.player c.args.self.now.seat.made.steps
          c.loop-self.self.seat.made.steps c.go.new.self.seat.made.steps (c.loop-self.invariant.began key keys)
          (subst (λ (n : ℕ). BeginsBelow s c.args.until c.args.self.now.seat.player n c.go.new.self.seat.made.steps)
          steps (subst (λ (i : ℕ). BeginsBelow s c.args.until i c.held_up.new.self.seat.made.steps
          c.go.new.self.seat.made.steps) player (c.go.ensures.began key own)));
      still = λ e. absurd (omega arith);
    }

pub returns-clause-follows : goal.returns-clause-follows
returns-clause-follows g c key keys =
    c.clock.ensures.follows key
    (ap (λ (z : SeatState (Key g.row.N.Denot)). z.key) c.loop-self.invariant.seat ∙ keys)
