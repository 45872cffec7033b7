use Rattle.std.specs.Prelude.{ℕ, List, string_bytes}
use Rattle.gba_joblog.specs.Outputs.{at_kind, per_kind}
use Rattle.gba_joblog.specs.declared.outputs.PerKind.{PerKind}
use Rattle.gba_run_files.specs.declared.names.Names.{Names}

-- what the program's type stands for
abbrev pub names_value : Names → PerKind (List ℕ)
names_value names = per_kind (λ kind. string_bytes (at_kind names.each kind))
