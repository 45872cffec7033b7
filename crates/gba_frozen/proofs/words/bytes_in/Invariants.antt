use Rattle.std.proofs.Common.{◌≡◌, ◌-◌, ◌*◌, ◌++◌, drop}
use Rattle.arrayvec.specs.ArrayVec.{array_vec_len}
use Rattle.gba_frozen.specs.Spelling.{numbers_in}
use Rattle.gba_frozen.proofs.words.bytes_in.Given as goal

-- the numbers so far, and those that are left
abbrev pub invariant-loop-place : goal.invariant-loop-place
invariant-loop-place l = record {
  numbers : l.bytes.items ++ numbers_in 2 (l.count - l.place) (drop (2 * l.place) l.digits)
      ≡ numbers_in 2 l.count l.digits;
  count : array_vec_len l.bytes ≡ l.place;
}
