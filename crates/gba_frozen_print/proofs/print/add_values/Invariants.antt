use Rattle.std.proofs.Common.{◌≡◌, ◌+◌, ◌*◌, ◌≤◌, ◌++◌, true, drop, vec_len}
use Rattle.std.specs.Prelude.{vec_capacity}
use Rattle.std.specs.List.{list_all}
use Rattle.gba_frozen.specs.Rows.{fits_spelling, spelled_all}
use Rattle.gba_frozen.specs.Spelling.{after_words}
use Rattle.gba_frozen_print.proofs.print.add_values.Given as goal

-- the words so far, and those that are left, whose values fit
abbrev pub invariant-loop-value : goal.invariant-loop-value
invariant-loop-value l = record {
  words : l.into.items ++ after_words (spelled_all l.spelling (drop l.value-index l.values))
      ≡ l.fn.into.items ++ after_words (spelled_all l.spelling l.values);
  fit : list_all (fits_spelling l.spelling) (drop l.value-index l.values) ≡ true;
  len : vec_len l.into ≤ vec_len l.fn.into + 21 * l.value-index;
  room : vec_capacity l.fn.into ≤ vec_capacity l.into;
}
