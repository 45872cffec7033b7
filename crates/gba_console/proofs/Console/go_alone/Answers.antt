use Rattle.std.proofs.Common.{◌≡◌, ◌∙◌, Option, None, refl, subst, arith}
use Rattle.link_node.specs.Alone.{Stays}
use Rattle.link_node.specs.declared.signal.Signal.{Signal}
use Rattle.gba_console.specs.Run.{GoesAlone}
use Rattle.gba_console.proofs.Rows.{and-then}
use Rattle.gba_console.proofs.Console.go_alone.Goals as goal

pub loop-self-init : goal.loop-self-init
loop-self-init c = record { alone = Stays; later = omega arith; until = refl }

pub returns-in-Some-clause-alone : goal.returns-in-Some-clause-alone
returns-in-Some-clause-alone c =
    subst (λ (o : Option Signal). GoesAlone c.args.end c.args.self.now c.go_somehow.new.self o) c.in-Some.is
    (and-then (omega arith) c.loop-self.invariant.alone c.go_somehow.ensures.alone)

pub loop-self-preserved : goal.loop-self-preserved
loop-self-preserved c =
    let none : Option Signal = None in
    let told : c.go_somehow.result ≡ none = c.in_default.is in
    record {
      alone =
          subst (λ (o : Option Signal). GoesAlone c.args.end c.args.self.now c.go_somehow.new.self o) told
          (and-then (omega arith) c.loop-self.invariant.alone c.go_somehow.ensures.alone);
      later = omega (arith, c.go_somehow.ensures.rises, c.loop-self.invariant.later);
      until = c.go_somehow.ensures.until ∙ c.loop-self.invariant.until;
    }
