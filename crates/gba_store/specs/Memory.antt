use Rattle.std.specs.Prelude.{ℕ, List, [], ◌∷◌, Some, None, String, Vec, option_map, if◌then◌else◌}
use Rattle.std.specs.BTreeMap.{BTreeMap, get_by_text}
use Rattle.std.specs.Str.{bytes_eq}
use Rattle.gba_store.specs.Files.{Files}

-- a file in memory: its name and its content, as bytes
pub record Stored : Type 0 where
  pub name : List ℕ
  pub bytes : List ℕ

-- the content of the first file of that name
abbrev pub content_in : List Stored → Files
content_in [] name = None
content_in (file ∷ files) name = if bytes_eq file.name name then Some file.bytes else content_in files name

-- what a store in memory knows: its files, the numbers of the reads that fail, how many reads were made, and its counts
pub record Memory : Type 0 where
  pub files : List Stored
  pub failing : List ℕ
  pub reads : ℕ
  pub faults : ℕ
  pub absences : ℕ

-- the files that a map from names to contents holds
abbrev pub files_of : {Y Z : Type 0} → BTreeMap (String Y) (Vec ℕ Z) → Files
files_of files name = option_map (λ content. content.items) (get_by_text files name)
