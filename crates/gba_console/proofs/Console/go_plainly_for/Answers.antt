use Rattle.std.proofs.Common.{◌+◌, ◌≤◌, ◌∙◌, ℕ, [], Option, ap, refl, subst, sym, arith}
use Rattle.link_node.specs.Alone.{Stays}
use Rattle.link_node.specs.declared.signal.Signal.{Signal}
use Rattle.gba_console.specs.Keys.{due_of}
use Rattle.gba_console.specs.Machine.{clock_of}
use Rattle.gba_console.specs.Run.{GoesAlone}
use Rattle.gba_console.proofs.Rows.{calm-silent, one-more}
use Rattle.gba_console.proofs.Console.go_plainly_for.Goals as goal

pub loop-left-init : goal.loop-left-init
loop-left-init c = record {
  alone = Stays;
  later = omega arith;
  within = omega arith;
  keys = c.requires.keys;
  ends = c.requires.ends;
  some = c.requires.some;
  calm = c.requires.calm;
  on = c.requires.on;
  until = refl;
}

pub returns-then-cycles-left-clause-alone : goal.returns-then-cycles-left-clause-alone
returns-then-cycles-left-clause-alone c =
    let held = c.loop-left.invariant in
    one-more (c.steps_pass.ensures []) (clock_of c.args.self.now + c.args.most) c.args.self.now c.loop-left.self
    c.step_plainly-cycles.new.self held.alone (omega (arith, held.within, held.some)) c.step_plainly-cycles.ensures.step

pub loop-left-preserved : goal.loop-left-preserved
loop-left-preserved c =
    let before = c.loop-left.self in
    let step = c.step_plainly-cycles.ensures in
    let after = c.step_plainly-cycles.new.self in
    let held = c.loop-left.invariant in
    let last = clock_of c.args.self.now + c.args.most in
    let calm = sym c.is_calm.ensures ∙ c.if-not-is_calm.false in record {
      alone =
          subst (λ (o : Option Signal). GoesAlone last c.args.self.now after o)
          (calm-silent c.stays_quiet.ensures after calm)
          (one-more (c.steps_pass.ensures []) last c.args.self.now before after held.alone
          (omega (arith, held.within, held.some)) step.step);
      later = omega (arith, step.clock, held.later);
      within = omega (arith, step.clock, held.within, c.if-cycles-left.false);
      keys = subst (λ (n : ℕ). last ≤ n) (ap due_of (sym step.keys)) held.keys;
      ends = step.ends last (omega (arith, c.requires.few, held.later)) held.ends;
      some = omega (arith, c.if-cycles-left.false);
      calm = calm;
      on = omega (arith, step.off, step.clock, held.on);
      until = step.until ∙ held.until;
    }
