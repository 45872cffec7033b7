use Rattle.std.proofs.Common.{◌≡◌, ◌+◌, ◌*◌, ◌≤◌, ◌++◌, drop, vec_len}
use Rattle.std.specs.Prelude.{vec_capacity}
use Rattle.gba_snapshot.specs.File.{signals_text}
use Rattle.gba_snapshot.proofs.file.add_signals.Given as goal

abbrev pub invariant-loop-place : goal.invariant-loop-place
invariant-loop-place l = record {
  items : l.into.items ++ signals_text (drop l.place l.sent) ≡ l.fn.into.items ++ signals_text l.sent;
  len : vec_len l.into ≤ vec_len l.fn.into + 52 * l.place;
  room : vec_capacity l.fn.into ≤ vec_capacity l.into;
}
