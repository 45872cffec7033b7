use Rattle.std.proofs.Common.{ℕ, ◌≡◌, ◌<◌, arith, refl, sym, ap, ◌∙◌, subst}
use Rattle.std.specs.Prelude.{[], None, Some, Option}
use Rattle.link_node.specs.declared.signal.Signal.{Signal}
use Rattle.link_node.specs.Alone.{StepsAlone, Stays, Steps}
use Rattle.link_node.proofs.node.Node.go_alone.Goals as goal

pub loop-self-init : goal.loop-self-init
loop-self-init g c = record { alone = Stays; later = omega arith; limit = refl }

pub returns-in-Some-clause-alone : goal.returns-in-Some-clause-alone
returns-in-Some-clause-alone g c =
    let node = g.Self.Node in
    let x : node.Record = node.plain c.args.self.now in
    let y : node.Record = node.plain c.loop-self.self in
    let early : node.clock y < c.args.end
    = subst (λ (n : ℕ). n < c.args.end) c.clock.ensures.value c.loop-self-test.true in
    let on : StepsAlone node.clock node.next c.args.end x (node.next y []).0 (node.next y []).1
    = Steps y c.loop-self.invariant.alone early in
    let told : (node.next y []).1 ≡ Some c.in-Some.signal = sym c.turn.ensures.signal ∙ c.in-Some.is in
    subst (λ (o : Option Signal). StepsAlone node.clock node.next c.args.end x (node.plain c.turn.new.self) o) told
    (subst (λ (z : node.Record). StepsAlone node.clock node.next c.args.end x z (node.next y []).1)
    (sym c.turn.ensures.node) on)

pub loop-self-preserved : goal.loop-self-preserved
loop-self-preserved g c =
    let node = g.Self.Node in
    let x : node.Record = node.plain c.args.self.now in
    let y : node.Record = node.plain c.loop-self.self in
    let early : node.clock y < c.args.end
    = subst (λ (n : ℕ). n < c.args.end) c.clock.ensures.value c.loop-self-test.true in
    let on : StepsAlone node.clock node.next c.args.end x (node.next y []).0 (node.next y []).1
    = Steps y c.loop-self.invariant.alone early in
    let none : Option Signal = None in
    let told : (node.next y []).1 ≡ none = sym c.turn.ensures.signal ∙ c.in_default.is in
    let clock_is : node.clock (node.plain c.turn.new.self) ≡ node.clock (node.next y []).0
    = ap node.clock c.turn.ensures.node in
    record {
      alone =
          subst (λ (o : Option Signal). StepsAlone node.clock node.next c.args.end x (node.plain c.turn.new.self) o)
          told (subst (λ (z : node.Record). StepsAlone node.clock node.next c.args.end x z (node.next y []).1)
          (sym c.turn.ensures.node) on);
      later = omega (arith, clock_is, g.met.Self.Node.rises y [], c.loop-self.invariant.later);
      limit = c.turn.ensures.limit ∙ c.loop-self.invariant.limit;
    }
