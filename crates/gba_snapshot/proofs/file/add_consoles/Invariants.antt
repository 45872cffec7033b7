use Rattle.std.proofs.Common.{◌≡◌, ◌+◌, ◌*◌, ◌≤◌, ◌++◌, drop, vec_len}
use Rattle.std.specs.Prelude.{vec_capacity}
use Rattle.gba_snapshot.specs.File.{consoles_text}
use Rattle.gba_snapshot.proofs.file.add_consoles.Given as goal

abbrev pub invariant-loop-player : goal.invariant-loop-player
invariant-loop-player l = record {
  items : l.into.items ++ consoles_text l.player (drop l.player l.consoles)
      ≡ l.fn.into.items ++ consoles_text 0 l.consoles;
  len : vec_len l.into ≤ vec_len l.fn.into + 1553253 * l.player;
  room : vec_capacity l.fn.into ≤ vec_capacity l.into;
}
