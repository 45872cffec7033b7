use Rattle.std.specs.Prelude.{List, Option, All}
use Rattle.std.proofs.Common.{ℕ, suc, ◌≡◌, ◌+◌, arith, sym, ap, subst, ◌∙◌}
use Rattle.link_node.specs.declared.signal.Incoming.{Incoming}
use Rattle.link_node.specs.declared.signal.Signal.{Signal}
use Rattle.link_node.specs.Due.{IsDue, InOrder}
use Rattle.link_order.specs.NodeKind.{NodeKind, IsLawful, kind_of}
use Rattle.link_script.specs.Script.{now}
use Rattle.link_table.specs.declared.key.Key.{Key}
use Rattle.link_table.specs.Text.{script_of}
use Rattle.link_table.specs.Seated.{SeatState}
use Rattle.link_inbox.specs.Waiting.{arrived, later}
use Rattle.link_lane.specs.Following.{LaneState}
use Rattle.link_lane.proofs.Lanes.{own_clock}
use Rattle.link_lane.proofs.Stepping.{GoesOn, goes_on, delivers, due_of, next_of, own_key, told_next, publish_next}
use Rattle.link_lane.proofs.Stepping.{published, stepped_lane}
use Rattle.link_lane.proofs.lane.Lane.step.Goals as goal

pub turn-signal-requires-clause-ordered : goal.turn-signal-requires-clause-ordered
turn-signal-requires-clause-ordered g c =
    let kind : NodeKind g.N.Node.Record = kind_of g.N.Node.clock g.N.Node.was g.N.Node.next in
    let law : IsLawful kind = record {
      rises = g.met.N.Node.rises;
      short = g.met.N.Node.short;
      moves = g.met.N.Node.moves;
      bears = g.met.N.Node.bears;
      fits = g.met.N.Node.fits;
    } in
    let d = delivers kind law g.N.Node.plain g.N.Node.bound c.self.inside c.self.invariant in
    let due_is : c.due.result.now ≡ due_of kind g.N.Node.plain c.self.inside c.self.invariant.key
    = c.due.ensures ∙ c.deliver.ensures.due
    ∙ ap (λ (n : ℕ). arrived n c.self.inside.inbox.waits) c.clock.ensures.value ∙ d.now in
    subst (λ (z : List Incoming). InOrder z) (sym due_is) d.ordered

pub turn-signal-requires-clause-taken : goal.turn-signal-requires-clause-taken
turn-signal-requires-clause-taken g c =
    let kind : NodeKind g.N.Node.Record = kind_of g.N.Node.clock g.N.Node.was g.N.Node.next in
    let law : IsLawful kind = record {
      rises = g.met.N.Node.rises;
      short = g.met.N.Node.short;
      moves = g.met.N.Node.moves;
      bears = g.met.N.Node.bears;
      fits = g.met.N.Node.fits;
    } in
    let d = delivers kind law g.N.Node.plain g.N.Node.bound c.self.inside c.self.invariant in
    let due_is : c.due.result.now ≡ due_of kind g.N.Node.plain c.self.inside c.self.invariant.key
    = c.due.ensures ∙ c.deliver.ensures.due
    ∙ ap (λ (n : ℕ). arrived n c.self.inside.inbox.waits) c.clock.ensures.value ∙ d.now in
    subst (λ (z : List Incoming). All (IsDue (g.N.Node.was (g.N.Node.plain c.self.inside.node))
    (g.N.Node.clock (g.N.Node.plain c.self.inside.node))) z) (sym due_is) d.taken

pub tell-requires-clause-next : goal.tell-requires-clause-next
tell-requires-clause-next g c =
    let kind : NodeKind g.N.Node.Record = kind_of g.N.Node.clock g.N.Node.was g.N.Node.next in
    let law : IsLawful kind = record {
      rises = g.met.N.Node.rises;
      short = g.met.N.Node.short;
      moves = g.met.N.Node.moves;
      bears = g.met.N.Node.bears;
      fits = g.met.N.Node.fits;
    } in
    let d = delivers kind law g.N.Node.plain g.N.Node.bound c.self.inside c.self.invariant in
    let due_is : c.due.result.now ≡ due_of kind g.N.Node.plain c.self.inside c.self.invariant.key
    = c.due.ensures ∙ c.deliver.ensures.due
    ∙ ap (λ (n : ℕ). arrived n c.self.inside.inbox.waits) c.clock.ensures.value ∙ d.now in
    let go =
    goes_on kind law g.N.Node.plain g.N.Node.bound c.self.inside c.self.invariant c.args.self.now c.self.view_is
    c.requires.early c.requires.ahead in
    let next : kind.next (g.N.Node.plain c.self.inside.node) c.due.result.now
    ≡ next_of kind g.N.Node.plain c.self.inside c.self.invariant.key
    = ap (kind.next (g.N.Node.plain c.self.inside.node)) due_is in
    let signal : c.turn-signal.result ≡ (next_of kind g.N.Node.plain c.self.inside c.self.invariant.key).1
    = c.turn-signal.ensures.signal ∙ ap (λ (z : g.N.Node.Record × Option Signal). z.1) next in
    told_next kind g.N.Node.plain g.N.Node.bound c.self.inside c.self.invariant c.self.invariant.key.limit 0
    (next_of kind g.N.Node.plain c.self.inside c.self.invariant.key)
    (later (g.N.Node.clock (g.N.Node.plain c.self.inside.node)) c.self.inside.inbox.waits) go
    c.turn-signal.result signal

pub publish-requires-clause-next : goal.publish-requires-clause-next
publish-requires-clause-next g c =
    let kind : NodeKind g.N.Node.Record = kind_of g.N.Node.clock g.N.Node.was g.N.Node.next in
    let law : IsLawful kind = record {
      rises = g.met.N.Node.rises;
      short = g.met.N.Node.short;
      moves = g.met.N.Node.moves;
      bears = g.met.N.Node.bears;
      fits = g.met.N.Node.fits;
    } in
    let d = delivers kind law g.N.Node.plain g.N.Node.bound c.self.inside c.self.invariant in
    let due_is : c.due.result.now ≡ due_of kind g.N.Node.plain c.self.inside c.self.invariant.key
    = c.due.ensures ∙ c.deliver.ensures.due
    ∙ ap (λ (n : ℕ). arrived n c.self.inside.inbox.waits) c.clock.ensures.value ∙ d.now in
    let go =
    goes_on kind law g.N.Node.plain g.N.Node.bound c.self.inside c.self.invariant c.args.self.now c.self.view_is
    c.requires.early c.requires.ahead in
    let next : kind.next (g.N.Node.plain c.self.inside.node) c.due.result.now
    ≡ next_of kind g.N.Node.plain c.self.inside c.self.invariant.key
    = ap (kind.next (g.N.Node.plain c.self.inside.node)) due_is in
    let signal : c.turn-signal.result ≡ (next_of kind g.N.Node.plain c.self.inside c.self.invariant.key).1
    = c.turn-signal.ensures.signal ∙ ap (λ (z : g.N.Node.Record × Option Signal). z.1) next in
    let node : g.N.Node.plain c.turn-signal.new.self
    ≡ (next_of kind g.N.Node.plain c.self.inside c.self.invariant.key).0
    = c.turn-signal.ensures.node ∙ ap (λ (z : g.N.Node.Record × Option Signal). z.0) next in
    publish_next kind g.N.Node.plain g.N.Node.bound c.self.inside c.self.invariant c.self.invariant.key.limit 0
    (next_of kind g.N.Node.plain c.self.inside c.self.invariant.key)
    (later (g.N.Node.clock (g.N.Node.plain c.self.inside.node)) c.self.inside.inbox.waits) go
    c.turn-signal.result signal c.tell.new.seat c.tell.ensures c.clock-2.result
    (c.clock-2.ensures.value ∙ ap g.N.Node.clock node)

pub invariant_of-self : goal.invariant_of-self
invariant_of-self g c =
    let kind : NodeKind g.N.Node.Record = kind_of g.N.Node.clock g.N.Node.was g.N.Node.next in
    let law : IsLawful kind = record {
      rises = g.met.N.Node.rises;
      short = g.met.N.Node.short;
      moves = g.met.N.Node.moves;
      bears = g.met.N.Node.bears;
      fits = g.met.N.Node.fits;
    } in
    let d = delivers kind law g.N.Node.plain g.N.Node.bound c.self.inside c.self.invariant in
    let due_is : c.due.result.now ≡ due_of kind g.N.Node.plain c.self.inside c.self.invariant.key
    = c.due.ensures ∙ c.deliver.ensures.due
    ∙ ap (λ (n : ℕ). arrived n c.self.inside.inbox.waits) c.clock.ensures.value ∙ d.now in
    let go =
    goes_on kind law g.N.Node.plain g.N.Node.bound c.self.inside c.self.invariant c.args.self.now c.self.view_is
    c.requires.early c.requires.ahead in
    let next : kind.next (g.N.Node.plain c.self.inside.node) c.due.result.now
    ≡ next_of kind g.N.Node.plain c.self.inside c.self.invariant.key
    = ap (kind.next (g.N.Node.plain c.self.inside.node)) due_is in
    let signal : c.turn-signal.result ≡ (next_of kind g.N.Node.plain c.self.inside c.self.invariant.key).1
    = c.turn-signal.ensures.signal ∙ ap (λ (z : g.N.Node.Record × Option Signal). z.1) next in
    let node : g.N.Node.plain c.turn-signal.new.self
    ≡ (next_of kind g.N.Node.plain c.self.inside c.self.invariant.key).0
    = c.turn-signal.ensures.node ∙ ap (λ (z : g.N.Node.Record × Option Signal). z.0) next in
    let waits_are : c.deliver.new.self.waits
    ≡ later (g.N.Node.clock (g.N.Node.plain c.self.inside.node)) c.self.inside.inbox.waits
    = c.deliver.ensures.waits ∙ ap (λ (n : ℕ). later n c.self.inside.inbox.waits) c.clock.ensures.value in
    let limit : ℕ = c.self.invariant.key.limit in
    let made : g.N.Node.Record × Option Signal = next_of kind g.N.Node.plain c.self.inside c.self.invariant.key in
    let own =
    subst (λ (w : List Incoming). GoesOn kind g.N.Node.plain c.self.inside c.self.invariant.key limit 0 made w)
    (sym waits_are) go in
    stepped_lane kind law g.N.Node.plain g.N.Node.bound c.self.inside c.self.invariant limit 0 made
    c.deliver.new.self own c.turn-signal.new.self node c.turn-signal.ensures.limit c.publish.new.seat
    (published kind g.N.Node.plain g.N.Node.bound c.self.inside c.self.invariant limit 0 made
    c.deliver.new.self.waits own c.turn-signal.result signal c.clock-2.result
    (c.clock-2.ensures.value ∙ ap g.N.Node.clock node) c.tell.new.seat
    c.publish.new.seat c.tell.ensures c.publish.ensures.seat
    (c.publish.ensures.step c.self.invariant.key
    (ap (λ (z : SeatState (Key g.row.N.Denot)). z.key) c.tell.ensures ∙ c.self.invariant.follows.key_is)))

pub returns-clause-stepped : goal.returns-clause-stepped
returns-clause-stepped g c =
    let kind : NodeKind g.N.Node.Record = kind_of g.N.Node.clock g.N.Node.was g.N.Node.next in
    let law : IsLawful kind = record {
      rises = g.met.N.Node.rises;
      short = g.met.N.Node.short;
      moves = g.met.N.Node.moves;
      bears = g.met.N.Node.bears;
      fits = g.met.N.Node.fits;
    } in
    let d = delivers kind law g.N.Node.plain g.N.Node.bound c.self.inside c.self.invariant in
    let due_is : c.due.result.now ≡ due_of kind g.N.Node.plain c.self.inside c.self.invariant.key
    = c.due.ensures ∙ c.deliver.ensures.due
    ∙ ap (λ (n : ℕ). arrived n c.self.inside.inbox.waits) c.clock.ensures.value ∙ d.now in
    let go =
    goes_on kind law g.N.Node.plain g.N.Node.bound c.self.inside c.self.invariant c.args.self.now c.self.view_is
    c.requires.early c.requires.ahead in
    let next : kind.next (g.N.Node.plain c.self.inside.node) c.due.result.now
    ≡ next_of kind g.N.Node.plain c.self.inside c.self.invariant.key
    = ap (kind.next (g.N.Node.plain c.self.inside.node)) due_is in
    let signal : c.turn-signal.result ≡ (next_of kind g.N.Node.plain c.self.inside c.self.invariant.key).1
    = c.turn-signal.ensures.signal ∙ ap (λ (z : g.N.Node.Record × Option Signal). z.1) next in
    let node : g.N.Node.plain c.turn-signal.new.self
    ≡ (next_of kind g.N.Node.plain c.self.inside c.self.invariant.key).0
    = c.turn-signal.ensures.node ∙ ap (λ (z : g.N.Node.Record × Option Signal). z.0) next in
    let waits_are : c.deliver.new.self.waits
    ≡ later (g.N.Node.clock (g.N.Node.plain c.self.inside.node)) c.self.inside.inbox.waits
    = c.deliver.ensures.waits ∙ ap (λ (n : ℕ). later n c.self.inside.inbox.waits) c.clock.ensures.value in
    let limit : ℕ = c.self.invariant.key.limit in
    let made : g.N.Node.Record × Option Signal = next_of kind g.N.Node.plain c.self.inside c.self.invariant.key in
    let own =
    subst (λ (w : List Incoming). GoesOn kind g.N.Node.plain c.self.inside c.self.invariant.key limit 0 made w)
    (sym waits_are) go in
    let seat_is =
    published kind g.N.Node.plain g.N.Node.bound c.self.inside c.self.invariant limit 0 made
    c.deliver.new.self.waits own c.turn-signal.result signal
    c.clock-2.result (c.clock-2.ensures.value ∙ ap g.N.Node.clock node) c.tell.new.seat
    c.publish.new.seat c.tell.ensures c.publish.ensures.seat
    (c.publish.ensures.step c.self.invariant.key
    (ap (λ (z : SeatState (Key g.row.N.Denot)). z.key) c.tell.ensures ∙ c.self.invariant.follows.key_is)) in
    let steps : c.publish.new.seat.made.steps ≡ suc (c.self.inside.seat.made.steps + 0)
    = ap (λ (z : SeatState (Key g.row.N.Denot)). z.made.steps) seat_is in
    let same : c.self.inside.seat.made.steps ≡ c.args.self.now.seat.made.steps
    = ap (λ (z : LaneState g.row.N.Denot). z.seat.made.steps) c.self.view_is in
    omega arith

pub returns-clause-began : goal.returns-clause-began
returns-clause-began g c key keys =
    let kind : NodeKind g.N.Node.Record = kind_of g.N.Node.clock g.N.Node.was g.N.Node.next in
    let law : IsLawful kind = record {
      rises = g.met.N.Node.rises;
      short = g.met.N.Node.short;
      moves = g.met.N.Node.moves;
      bears = g.met.N.Node.bears;
      fits = g.met.N.Node.fits;
    } in
    subst (λ (z : LaneState g.row.N.Denot). now (script_of kind g.N.Node.plain key) z.seat.player z.seat.made.steps
    ≡ g.N.Node.clock (g.N.Node.plain z.node)) c.self.view_is
    (subst (λ (k : Key g.row.N.Denot). now (script_of kind g.N.Node.plain k) c.self.inside.seat.player
    c.self.inside.seat.made.steps ≡ g.N.Node.clock (g.N.Node.plain c.self.inside.node))
    (own_key kind g.N.Node.plain g.N.Node.bound c.self.inside c.self.invariant key
    (ap (λ (z : LaneState g.row.N.Denot). z.seat.key) c.self.view_is ∙ keys))
    (own_clock kind law g.N.Node.plain g.N.Node.bound c.self.inside c.self.invariant))
