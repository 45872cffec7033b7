use Rattle.std.proofs.Common.{◌≡◌, ◌-◌, []}
use Rattle.arrayvec.specs.ArrayVec.{array_vec_len}
use Rattle.gba_frozen.specs.Words.{values_at}
use Rattle.gba_frozen.proofs.words.values_at.Given as goal

-- what is left to read gives the whole
abbrev pub invariant-loop : goal.invariant-loop
invariant-loop l = record {
  said : values_at l.spelling (l.count - l.counter) l.values.items l.words ≡ values_at l.spelling l.count [] l.fn.words;
  number : array_vec_len l.values ≡ l.counter;
}
