use Rattle.std.proofs.Common.{◌∙◌, refl, sym, arith}
use Rattle.link_node.specs.Alone.{Stays}
use Rattle.gba_console.proofs.Idling.{can-still}
use Rattle.gba_console.proofs.Rows.{and-then}
use Rattle.gba_console.proofs.Console.go_idly.Goals as goal

pub returns-then-not-is_idle-clause-alone : goal.returns-then-not-is_idle-clause-alone
returns-then-not-is_idle-clause-alone c = Stays

pub loop-self-init : goal.loop-self-init
loop-self-init c = record {
  alone = Stays;
  later = omega arith;
  within = omega (arith, c.min.ensures, c.min-stop.ensures);
  idles = λ early. record {
    until = omega (arith, c.min.ensures, c.min-stop.ensures, c.requires);
    idle = sym c.is_idle.ensures ∙ c.if-not-is_idle.false;
    on = c.due.ensures.on (omega (arith, early, c.min.ensures, c.min-stop.ensures));
    keys = omega (arith, c.min.ensures, c.min-stop.ensures, c.due.ensures.early);
    ends = omega (arith, c.min-stop.ensures, c.next_end.ensures);
  };
  until = refl;
}

pub returns-then-not-go_past_event-clause-alone : goal.returns-then-not-go_past_event-clause-alone
returns-then-not-go_past_event-clause-alone c =
    and-then c.loop-self.invariant.within c.loop-self.invariant.alone c.go_past_event.ensures.alone

pub loop-self-preserved : goal.loop-self-preserved
loop-self-preserved c =
    let step = c.go_past_event.ensures in
    let held = c.loop-self.invariant in record {
      alone = and-then held.within held.alone step.alone;
      later = omega (arith, step.rises, held.later);
      within = held.within;
      idles = λ _.
          (let before = held.idles (omega (arith, c.loop-self-test.true, c.clock.ensures.value)) in
          can-still c.min-stop.result c.loop-self.self c.go_past_event.new.self before step.keeps
          (omega (arith, step.rises))
          (sym step.idle ∙ c.if-not-go_past_event.false));
      until = step.keeps.until ∙ held.until;
    }

pub go_past_event-requires-clause-idles : goal.go_past_event-requires-clause-idles
go_past_event-requires-clause-idles c =
    c.loop-self.invariant.idles (omega (arith, c.loop-self-test.true, c.clock.ensures.value))
