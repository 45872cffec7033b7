use Rattle.std.specs.Prelude.{Option, Some, true, length, option_to_list}
use Rattle.std.proofs.Common.{rules, ◌≡◌, ◌*◌, ◌<◌, arith, sym, ap, ◌∙◌}
use Rattle.link_table.specs.declared.key.Key.{Key}
use Rattle.link_node.specs.declared.signal.Signal.{Signal}
use Rattle.link_rule.specs.Steps.{with_written}
use Rattle.link_table.specs.Seated.{SeatState, with_made}
use Rattle.link_table_tests.specs.declared.ticker.Ticker.{Ticker}
use Rattle.link_table_tests.specs.Ticking.{Ticked, ticked_told}
use Rattle.link_table_tests.specs.Following.{ticked_plain}
use Rattle.link_table_tests.proofs.Stepping.{MayGo, may_go, told_next, publish_next, stepped}
use Rattle.link_table_tests.proofs.console.Console.step.Goals as goal

pub tell-requires-clause-next : goal.tell-requires-clause-next
tell-requires-clause-next c =
    let early : c.self.inside.node.clock < c.self.inside.node.limit = omega arith in
    let may : c.may_begin.result ≡ true = search rules in
    let go : MayGo c.self.inside.node c.self.inside.seat c.self.invariant.key
    = may_go c.self.inside.node c.self.inside.seat c.self.inside.heard c.self.invariant early
    (c.may_begin.ensures.allowed may) in
    told_next c.self.inside.node c.self.inside.seat c.self.inside.heard c.self.invariant go c.turn-signal.result
    c.turn-signal.ensures.signal

pub publish-requires-clause-next : goal.publish-requires-clause-next
publish-requires-clause-next c =
    let early : c.self.inside.node.clock < c.self.inside.node.limit = omega arith in
    let may : c.may_begin.result ≡ true = search rules in
    let go : MayGo c.self.inside.node c.self.inside.seat c.self.invariant.key
    = may_go c.self.inside.node c.self.inside.seat c.self.inside.heard c.self.invariant early
    (c.may_begin.ensures.allowed may) in
    publish_next c.self.inside.node c.self.inside.seat c.tell.new.seat c.self.inside.heard c.self.invariant go
    c.turn-signal.result c.turn-signal.ensures.signal c.tell.ensures c.turn-signal.new.self.clock
    (ap (λ (r : Ticked). r.clock) c.turn-signal.ensures.node)

pub invariant_of-self : goal.invariant_of-self
invariant_of-self c =
    let early : c.self.inside.node.clock < c.self.inside.node.limit = omega arith in
    let may : c.may_begin.result ≡ true = search rules in
    let go : MayGo c.self.inside.node c.self.inside.seat c.self.invariant.key
    = may_go c.self.inside.node c.self.inside.seat c.self.inside.heard c.self.invariant early
    (c.may_begin.ensures.allowed may) in
    stepped c.self.inside.node c.turn-signal.new.self c.self.inside.seat c.tell.new.seat c.publish.new.seat
    c.self.inside.heard c.self.invariant (go.goes_on ∙ ap Some (sym c.turn-signal.ensures.node))
    c.turn-signal.ensures.limit
    (2 * length (option_to_list (ticked_told (ticked_plain c.self.inside.node)))) c.turn-signal.new.self.clock
    (c.tell.ensures ∙ ap (λ (o : Option Signal). with_made c.self.inside.seat
    (with_written c.self.inside.seat.made (2 * length (option_to_list o)))) c.turn-signal.ensures.signal)
    c.publish.ensures.seat
    (go.publish c.turn-signal.new.self.clock (ap (λ (r : Ticked). r.clock) c.turn-signal.ensures.node))
    (go.alone c.turn-signal.new.self.clock (ap (λ (r : Ticked). r.clock) c.turn-signal.ensures.node))
    (c.publish.ensures.step c.self.invariant.key
    (ap (λ (z : SeatState (Key Ticker)). z.key) c.tell.ensures ∙ c.self.invariant.key_is))
