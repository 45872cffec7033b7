use Rattle.std.specs.Prelude.{ℕ, zero, suc, ◌+◌, List, [], ◌∷◌}
use Rattle.gba_joblog.specs.Clash.{log_file, output_file}
use Rattle.gba_joblog.specs.Outputs.{per_kind}
use Rattle.gba_joblog.specs.declared.outputs.PerKind.{PerKind}

-- the names of a console's outputs
abbrev pub names_of : List ℕ → ℕ → PerKind (List ℕ)
names_of out player = per_kind (output_file out player)

-- those of so many consoles from this player on
unfoldable pub names_from : List ℕ → ℕ → ℕ → List (PerKind (List ℕ))
names_from out player zero = []
names_from out player (suc count) = names_of out player ∷ names_from out (player + 1) count

-- the names of all files that a run may write
pub record RunNames : Type 0 where
  pub consoles : List (PerKind (List ℕ))
  pub log : List ℕ

-- those of a run of so many consoles under OUT
abbrev pub run_names : List ℕ → ℕ → RunNames
run_names out count = record { consoles = names_from out 0 count; log = log_file out }
