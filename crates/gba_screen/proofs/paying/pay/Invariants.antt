use Rattle.std.proofs.Common.{◌≡◌, ℕ, ◌<◌, ◌≤◌, [], slice_index_or}
use Rattle.gba_screen.specs.Paying.{AreFresh, shown_line}
use Rattle.gba_screen.proofs.paying.pay.Given as goal

abbrev pub invariant-loop-line : goal.invariant-loop-line
invariant-loop-line l = record {
  shown : (y : ℕ) → y < l.line → slice_index_or l.lines y [] ≡ shown_line l.fn.lines l.keys l.memory l.fn.paid.lines y;
  fresh : AreFresh l.lines l.keys l.memory l.line l.fresh;
  most : l.fresh ≤ 160;
}
