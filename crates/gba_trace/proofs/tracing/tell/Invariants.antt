use Rattle.std.proofs.Common.{◌≡◌, ◌≤◌}
use Rattle.gba_trace.specs.Trace.{after_steps, count_from, lines_from}
use Rattle.gba_trace.specs.Way.{HaveRoom, Machines, Shows}
use Rattle.gba_trace.proofs.tracing.tell.Given as goal

-- so many steps are made and told
abbrev pub invariant-row : goal.invariant-row
invariant-row l = record {
  room : HaveRoom l.way.end l.way.cut;
  shows : (plain : Machines) → Shows plain l.fn.way.cut → Shows (after_steps l.counter l.until plain) l.way.cut;
  text : (plain : Machines) → Shows plain l.fn.way.cut → l.text.items ≡ lines_from l.counter l.until plain;
  lines : (plain : Machines) → Shows plain l.fn.way.cut → l.lines ≡ count_from l.counter l.until plain;
  few : l.lines ≤ l.counter;
}
