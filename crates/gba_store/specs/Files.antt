use Rattle.std.specs.Prelude.{◌≡◌, ◌≢◌, ◌⊎◌, ℕ, ◌+◌, ◌-◌, ◌^◌, ◌≤◌, min, List, [], ◌++◌, take, Option, Some, unwrap_or}

-- For each name, as bytes, the bytes of the file of that name, or None where there is no such file.
abbrev pub Files : Type 0
Files = List ℕ → Option (List ℕ)

-- One more, up to the last value of a u64, at which a count stands still.
abbrev pub one_more : ℕ → ℕ
one_more count = min (count + 1) (2 ^ 64 - 1)

-- A count that never falls rose: it is greater than before, or stands at the last value of a u64.
abbrev pub Rose : ℕ → ℕ → Type 0
Rose before after = one_more before ≤ after

-- These bytes are the file's first `most`, or the whole file where it has fewer.
abbrev pub IsFront : Files → List ℕ → ℕ → List ℕ → Type 0
IsFront files name most bytes = (all : List ℕ) × (files name ≡ Some all) × (bytes ≡ take most all)

-- Every file but the named one is as before.
abbrev pub OthersStay : List ℕ → Files → Files → Type 0
OthersStay name old new = (other : List ℕ) → other ≢ name → new other ≡ old other

-- The file has this content now, and every other file is as before.
pub record Written (name content : List ℕ) (old new : Files) : Type 0 where
  pub file : new name ≡ Some content
  pub others : OthersStay name old new

-- The file is there and empty.
abbrev pub Created : List ℕ → Files → Files → Type 0
Created name old new = Written name [] old new

-- The file has the piece at its end. A file that wasn't there begins with it.
abbrev pub Appended : List ℕ → List ℕ → Files → Files → Type 0
Appended name piece old new = Written name (unwrap_or (old name) [] ++ piece) old new

-- After a failed `create`: the file is as before, or empty.
pub record CreateFailed (name : List ℕ) (old new : Files) : Type 0 where
  pub file : (new name ≡ old name) ⊎ (new name ≡ Some [])
  pub others : OthersStay name old new

-- After a failed `append`: the file is as before, or has the first `count` bytes of the piece more.
pub record AppendFailed (name piece : List ℕ) (old new : Files) : Type 0 where
  pub file : (new name ≡ old name) ⊎ ((count : ℕ) × (new name ≡ Some (unwrap_or (old name) [] ++ take count piece)))
  pub others : OthersStay name old new

-- what a contract sees of a sink: its files, and its counts of faults and of wants of memory
pub record SinkState : Type 0 where
  pub files : Files
  pub faults : ℕ
  pub wants : ℕ
