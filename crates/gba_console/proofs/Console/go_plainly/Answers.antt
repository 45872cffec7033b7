use Rattle.std.proofs.Common.{◌+◌, ◌≤◌, ◌∙◌, Option, refl, subst, sym, arith}
use Rattle.link_node.specs.Alone.{Stays}
use Rattle.link_node.specs.declared.signal.Signal.{Signal}
use Rattle.gba_console.specs.Machine.{clock_of}
use Rattle.gba_console.specs.Run.{GoesAlone}
use Rattle.gba_console.proofs.Rows.{and-then, calm-silent}
use Rattle.gba_console.proofs.Console.go_plainly.Goals as goal

pub loop-self-init : goal.loop-self-init
loop-self-init c = record { alone = Stays; later = omega arith; until = refl }

pub returns-then-not-is_calm-clause-alone : goal.returns-then-not-is_calm-clause-alone
returns-then-not-is_calm-clause-alone c =
    let after = c.go_plainly_for.new.self in
    let within : clock_of c.loop-self.self + c.min-most.result ≤ c.args.end
    = omega (
      arith,
      c.min.ensures,
      c.min-stop.ensures,
      c.clock.ensures.value,
      c.saturating_sub.ensures,
      c.min-most.ensures,
      c.if-most-eq0.false,
    ) in
    subst (λ (o : Option Signal). GoesAlone c.args.end c.args.self.now after o) (sym c.news.ensures)
    (and-then within c.loop-self.invariant.alone c.go_plainly_for.ensures.alone)

pub loop-self-preserved : goal.loop-self-preserved
loop-self-preserved c =
    let after = c.go_plainly_for.new.self in
    let within : clock_of c.loop-self.self + c.min-most.result ≤ c.args.end
    = omega (
      arith,
      c.min.ensures,
      c.min-stop.ensures,
      c.clock.ensures.value,
      c.saturating_sub.ensures,
      c.min-most.ensures,
      c.if-most-eq0.false,
    ) in
    record {
      alone =
          subst (λ (o : Option Signal). GoesAlone c.args.end c.args.self.now after o)
          (calm-silent c.stays_quiet.ensures after (sym c.is_calm-in-loop-self.ensures ∙ c.if-not-is_calm.false))
          (and-then within c.loop-self.invariant.alone c.go_plainly_for.ensures.alone);
      later = omega (arith, c.go_plainly_for.ensures.later, c.loop-self.invariant.later);
      until = c.go_plainly_for.ensures.until ∙ c.loop-self.invariant.until;
    }
