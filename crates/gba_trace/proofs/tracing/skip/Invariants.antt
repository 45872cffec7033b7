use Rattle.gba_trace.specs.Trace.{after_steps}
use Rattle.gba_trace.specs.Way.{HaveRoom, Machines, Shows}
use Rattle.gba_trace.proofs.tracing.skip.Given as goal

-- so many steps are made
abbrev pub invariant-row : goal.invariant-row
invariant-row l = record {
  room : HaveRoom l.way.end l.way.cut;
  shows : (plain : Machines) → Shows plain l.fn.way.cut → Shows (after_steps l.counter l.until plain) l.way.cut;
}
