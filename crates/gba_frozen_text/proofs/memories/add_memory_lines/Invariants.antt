use Rattle.std.proofs.Common.{◌≡◌, ◌+◌, ◌-◌, ◌*◌, ◌/◌, ◌≤◌, ◌++◌, length, drop, vec_len}
use Rattle.std.specs.Prelude.{map, vec_capacity}
use Rattle.gba_frozen_text.specs.Memories.{memory_lines_text, rows_in}
use Rattle.gba_frozen_text.specs.Text.{memory_of, says_text}
use Rattle.gba_frozen_text.proofs.memories.add_memory_lines.Given as goal

abbrev pub invariant-loop-line : goal.invariant-loop-line
invariant-loop-line l = record {
  items : l.into.items
      ++ says_text
      (map memory_of (rows_in l.name (l.line * 32) (length l.bytes / 32 - l.line) (drop (l.line * 32) l.bytes)))
      ≡ l.fn.into.items ++ memory_lines_text l.name l.bytes;
  len : vec_len l.into ≤ vec_len l.fn.into + 84 * l.line;
  room : vec_capacity l.fn.into ≤ vec_capacity l.into;
}
