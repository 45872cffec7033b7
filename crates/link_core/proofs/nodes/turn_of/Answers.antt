use Rattle.std.proofs.Common.{ℕ, ◌<◌, arith, sym, ap, ◌∙◌, subst, set}
use Rattle.std.specs.Prelude.{map, slice_index, length, All}
use Rattle.std.proofs.lemmas.List.{map-set}
use Rattle.std.proofs.Math.Seq.{map-set_same}
use Rattle.link_node.specs.Due.{IsDue}
use Rattle.link_core.proofs.Readings.{read-node, read-record, read-bound}
use Rattle.link_core.proofs.nodes.turn_of.Goals as goal

pub turn-requires-clause-below : goal.turn-requires-clause-below
turn-requires-clause-below g c =
    let n = c.index_mut.result.now in
    let xs = c.args.nodes.now.items in
    let below : c.args.i < length xs = omega (arith, c.args.nodes.now.ok, c.requires.player) in
    let own = read-node g.N.Node.plain g.N.Node.clock xs c.args.i n below
    ∙ ap (λ y. g.N.Node.clock (g.N.Node.plain y)) (sym c.index_mut.ensures.value) in
    let most = read-bound g.N.Node.bound xs c.args.i n below ∙ ap g.N.Node.bound (sym c.index_mut.ensures.value) in
    omega (arith, own, most, c.requires.below)

pub turn-requires-clause-taken : goal.turn-requires-clause-taken
turn-requires-clause-taken g c =
    let n = c.index_mut.result.now in
    let xs = c.args.nodes.now.items in
    let below : c.args.i < length xs = omega (arith, c.args.nodes.now.ok, c.requires.player) in
    let own = read-node g.N.Node.plain g.N.Node.clock xs c.args.i n below
    ∙ ap (λ y. g.N.Node.clock (g.N.Node.plain y)) (sym c.index_mut.ensures.value) in
    let last = read-node g.N.Node.plain g.N.Node.was xs c.args.i n below
    ∙ ap (λ y. g.N.Node.was (g.N.Node.plain y)) (sym c.index_mut.ensures.value) in
    subst (λ (k : ℕ). All (IsDue (g.N.Node.was (g.N.Node.plain n)) k) c.args.due.now) own
    (subst (λ (w : ℕ). All (IsDue w (slice_index (map g.N.Node.clock (map g.N.Node.plain xs)) c.args.i)) c.args.due.now)
    last c.requires.taken)

pub returns-clause-node : goal.returns-clause-node
returns-clause-node g c x stands =
    let is_x = read-record g.N.Node.plain c.args.nodes.now.items c.args.i c.index_mut.result.now x stands in
    map-set g.N.Node.plain c.args.nodes.now.items c.args.i c.turn.new.self
    ∙ ap (set (map g.N.Node.plain c.args.nodes.now.items) c.args.i)
    (c.turn.ensures.node ∙ ap (λ y. (g.N.Node.next y c.args.due.now).0) (ap g.N.Node.plain c.index_mut.ensures.value
    ∙ is_x))

pub returns-clause-signal : goal.returns-clause-signal
returns-clause-signal g c x stands =
    let is_x = read-record g.N.Node.plain c.args.nodes.now.items c.args.i c.index_mut.result.now x stands in
    c.turn.ensures.signal ∙ ap (λ y. (g.N.Node.next y c.args.due.now).1) (ap g.N.Node.plain c.index_mut.ensures.value
    ∙ is_x)

pub returns-clause-limits : goal.returns-clause-limits
returns-clause-limits g c =
    map-set_same g.N.Node.bound c.args.nodes.now.items c.args.i c.turn.new.self c.index_mut.result.now
    (c.turn.ensures.limit ∙ ap g.N.Node.bound c.index_mut.ensures.value)
